-- What a line does: its statement, or nothing where it has none.
use Rattle.std.specs.Prelude.{ℕ, ◌≡◌, refl, Bool, true, false, List, map, eqb}
use Rattle.std.proofs.Math.Path.{sym, ap}
use Rattle.std.proofs.Common.{◌∙◌, true≢false}
use Rattle.std.proofs.lemmas.Bool.{false≢true}
use Rattle.std.proofs.Math.Option.{none}
use Rattle.model.specs.Base.{bytes}
use Rattle.model.specs.Text.{words}
use Rattle.model.specs.Word.{Name}
use Rattle.model.specs.Expression.{number}
use Rattle.model.specs.Form.{Statement, reply, Form, class_line, field_line, method_line, statement_line, end_line, object_line, malformed, form_of}
use Rattle.model.specs.Library.{Library}
use Rattle.model.specs.Mode.{depends, changes}
use Rattle.model.specs.Graph.{callee}
use Rattle.model.specs.Vector.{in_expression, in_action, in_statement}
use Rattle.model.specs.Image.{mask}
use Rattle.text_syntax.specs.Kinds.{kind_of}
use Rattle.catalog.specs.View.{statement_in}
use Rattle.vector_direct.specs.declared.Vector.{Vector}
use Rattle.vector_direct.specs.Masks.{mask_same}
use Rattle.text_syntax.specs.Spelling.{StatementWords, spelled}
use Rattle.vector_direct.specs.Mentions.{mentions_behind, depends_test, changes_test, mentioned}
use Rattle.vector_direct.specs.Calls.{number_in, behind_send, called_behind, called}
use Rattle.vector_direct.specs.Says.{Says, says_nothing}

abbrev pub statement_of : List ℕ → Statement
statement_of line = statement_in (form_of (words line))

-- Whether the line is a statement.
abbrev pub is_statement : Form → Bool
is_statement f = eqb (kind_of f) 3

said : (f : Form) → is_statement f ≡ true → f ≡ statement_line (statement_in f)
said (class_line n ps) e = absurd (false≢true e)
said (field_line n) e = absurd (false≢true e)
said (method_line n) e = absurd (false≢true e)
said (statement_line s) e = refl
said end_line e = absurd (false≢true e)
said (object_line n c vs) e = absurd (false≢true e)
said malformed e = absurd (false≢true e)

abbrev idle : Statement
idle = record { guard = none; action = reply (number 0) }

unsaid : (f : Form) → is_statement f ≡ false → statement_in f ≡ idle
unsaid (class_line n ps) e = refl
unsaid (field_line n) e = refl
unsaid (method_line n) e = refl
unsaid (statement_line s) e = absurd (true≢false e)
unsaid end_line e = refl
unsaid (object_line n c vs) e = refl
unsaid malformed e = refl

module _ (line : List ℕ) where
  spelling : is_statement (form_of (words line)) ≡ true → StatementWords (words line) (statement_of line)
  spelling e = spelled (words line) (statement_of line) (said (form_of (words line)) e)

  -- The fields that its words mention are those of its statement's modes.
  pub line_says : (fields : List Name) (v : Vector) → is_statement (form_of (words line)) ≡ true
      → v.depends ≡ mask (map (mentions_behind (bytes "send") true (words line)) fields)
      → v.changes ≡ mask (map (mentions_behind (bytes "set") false (words line)) fields)
      → Says fields (λ f. in_statement f (statement_of line)) v
  line_says fields v e u w = record {
    depend = u ∙ mask_same _ (λ f. depends (in_statement f (statement_of line))) fields (λ f. mentioned depends_test f (spelling e));
    change = w ∙ mask_same _ (λ f. changes (in_statement f (statement_of line))) fields (λ f. mentioned changes_test f (spelling e));
  }

  pub line_idle : (fields : List Name) → is_statement (form_of (words line)) ≡ false
      → Says fields (λ f. in_statement f (statement_of line)) (record { depends = 0; changes = 0 })
  unfolding in_statement in_action in_expression
  line_idle fields e = says_nothing fields (λ f. in_statement f (statement_of line)) (λ f. ap (in_statement f) (unsaid (form_of (words line)) e))

  module _ (l : Library) (c : ℕ) where
    -- The vertex that its words call is the one that its statement calls.
    pub line_calls : is_statement (form_of (words line)) ≡ true
        → number_in l (called_behind l c (behind_send (words line))) ≡ number_in l (callee l c (statement_of line).action)
    line_calls e = ap (number_in l) (called l c (spelling e))

    pub line_calls_none : is_statement (form_of (words line)) ≡ false → ◌≡◌ {A = ℕ} 512 (number_in l (callee l c (statement_of line).action))
    unfolding callee
    line_calls_none e = sym (ap (λ (s : Statement). number_in l (callee l c s.action)) (unsaid (form_of (words line)) e))
