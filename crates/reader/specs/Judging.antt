-- One line of the second pass, and the pass from a line on.
use Rattle.std.specs.Prelude.{ℕ, zero, suc, min, ◌+◌, ◌*◌, ◌≤◌, ◌<◌, ◌≡◌, refl, ◌≢◌, List, [], ◌∷◌, drop, get_or, set}
use Rattle.std.proofs.Common.{sym, subst, ◌∙◌, length-set, get_or-set_same, get_or-set_other}
use Rattle.std.proofs.Math.Path.{ap}
use native.Mathlib.Omega.{arith}
use Rattle.std.proofs.Math.ListN.{length, length-append}
use Rattle.layout.specs.Layout.{classes_most, statements_most, objects_most, class_count_at, statement_count_at, object_count_at, table_words}
use Rattle.model.specs.Base.{upto}
use Rattle.model.specs.Text.{words}
use Rattle.model.specs.Form.{Form, class_line, field_line, method_line, statement_line, end_line, object_line, malformed, form_of, Line}
use Rattle.model.specs.Library.{Library, nothing, add}
use Rattle.model.specs.Fault.{fault_of}
use Rattle.model.specs.Read.{Reading, accepted, refused, unless, judged}
use Rattle.text_lex.specs.Scan.{is_byte, before}
use Rattle.text_syntax.specs.Kinds.{kind_of}
use Rattle.catalog.specs.View.{statement_count, class_of, placed_of, object_of, library_of}
use Rattle.read_classes.specs.Took.{Took, ClassTook, FieldTook, MethodTook}
use Rattle.read_classes.specs.Lines.{line_of, line_length}
use Rattle.read_lines.specs.Below.{lines_at, placed_line, lines_more, lines_end}
use Rattle.read_lines.specs.Took.{StatementTook, ObjectTook}
use Rattle.reader.specs.Sizes.{statement_size}

-- The result of the line from `at` to `end`, by what is above it and below it, where there is room for a statement.
module _ (text ws : List ℕ) (at end r : ℕ) (ws' : List ℕ) where
  abbrev pub TookAs : Form → Type 0
  TookAs f = Took (library_of text ws) (record { form = f; at = at; size = length (line_of text at end) }) f (fault_of (library_of text ws) (lines_at text (end + 1)) f) r (library_of text ws')

  abbrev pub LineTook : Type 0
  LineTook = statement_count ws < statements_most → TookAs (form_of (words (line_of text at end)))

  -- The result of a line of each kind; `end` and a line without form change nothing.
  abbrev Left : Type 0
  Left = (r ≡ 0) × (ws' ≡ ws)

  abbrev pub Promised : ℕ → Type 0
  Promised zero = ClassTook text ws (line_of text at end) r ws'
  Promised (suc zero) = FieldTook text ws (line_of text at end) r ws'
  Promised (suc (suc zero)) = MethodTook text ws (line_of text at end) r ws'
  Promised (suc (suc (suc zero))) = StatementTook text ws at end r ws'
  Promised (suc (suc (suc (suc zero)))) = Left
  Promised (suc (suc (suc (suc (suc zero))))) = ObjectTook text ws at end r ws'
  Promised (suc (suc (suc (suc (suc (suc n)))))) = Left

  by_form : (f : Form) → form_of (words (line_of text at end)) ≡ f → Promised (kind_of f) → statement_count ws < statements_most → TookAs f
  unfolding fault_of add
  by_form (class_line n ps) e p room = p _ n ps e
  by_form (field_line n) e p room = p _ n e
  by_form (method_line n) e p room = p _ n e
  by_form (statement_line s) e p room = p s e room
  by_form end_line e p room = record { number = p.0; known = λ z. ap (library_of text) p.1 }
  by_form (object_line n c vs) e p room = p _ n c vs e
  by_form malformed e p room = record { number = p.0; known = λ z. ap (library_of text) p.1 }

  pub by_kind : (k : ℕ) → k ≡ kind_of (form_of (words (line_of text at end))) → Promised k → LineTook
  by_kind k e p = by_form (form_of (words (line_of text at end))) refl (subst Promised e p)

-- ---- the pass from a line on

module _ (text : List ℕ) (at end : ℕ) (h : end ≡ at + before (is_byte 10) (drop at text)) where
  pub judged_end : (l : Library) (n : ℕ) → length text ≤ end → judged l n (lines_at text at) ≡ accepted l
  unfolding judged
  judged_end l n k = ap (judged l n) (lines_end text at end h k)

  -- The next line ends at `end`, and was recorded.
  module _ (k : end < length text) (ws : List ℕ) (r : ℕ) (ws' : List ℕ) (t : TookAs text ws at end r ws' (form_of (words (line_of text at end)))) where
    abbrev l : Library
    l = library_of text ws

    abbrev line : Line
    line = placed_line text at end

    abbrev below : List Line
    below = lines_at text (end + 1)

    next : (n : ℕ) → judged l n (lines_at text at) ≡ unless r n (judged (add l line line.form) (n + 1) below)
    unfolding judged
    next n = ap (judged l n) (lines_more text at end h k) ∙ ap (λ (x : ℕ). unless x n (judged (add l line line.form) (n + 1) below)) (sym t.number)

    pub judged_fault : (n : ℕ) → r ≢ 0 → judged l n (lines_at text at) ≡ refused r n
    judged_fault n d = next n ∙ some r d (judged (add l line line.form) (n + 1) below)
      where
        some : (r : ℕ) → r ≢ 0 → (q : Reading) → unless r n q ≡ refused r n
        some zero d q = absurd (d refl)
        some (suc r) d q = refl

    pub judged_more : (n : ℕ) → r ≡ 0 → judged (library_of text ws') (n + 1) below ≡ judged l n (lines_at text at)
    judged_more n z =
        ap (λ (m : Library). judged m (n + 1) below) (t.known z)
        ∙ sym (next n ∙ ap (λ (x : ℕ). unless x n (judged (add l line line.form) (n + 1) below)) z)

    -- A statement takes 8 bytes.
    pub statements_within : r ≡ 0 → length l.statements * 8 ≤ at → length (library_of text ws').statements * 8 ≤ end + 1
    unfolding add
    statements_within z s = omega (arith, ap (λ (m : Library). length m.statements) (t.known z), go line.form refl)
      where
        go : (f : Form) → line.form ≡ f → length (add l line f).statements * 8 ≤ end + 1
        go (class_line n ps) e = omega arith
        go (field_line n) e = omega arith
        go (method_line n) e = omega arith
        go (statement_line a) e =
            let n = length-append l.statements (record { statement = a; at = at; size = length (line_of text at end) } ∷ []) in
            omega (arith, statement_size (line_of text at end) a e, line_length text at end (omega arith) (omega arith))
        go end_line e = omega arith
        go (object_line n c vs) e = omega arith
        go malformed e = omega arith

-- ---- empty tables

abbrev pub cleared : List ℕ → List ℕ
cleared ws = set (set (set ws class_count_at 0) statement_count_at 0) object_count_at 0

pub nothing_yet : (text ws : List ℕ) → length ws ≡ table_words → library_of text (cleared ws) ≡ nothing
unfolding library_of upto
nothing_yet text ws z =
    let a = set ws class_count_at 0 in
    let b = set a statement_count_at 0 in
    let m = length-set ws class_count_at 0 in
    let n = length-set a statement_count_at 0 in
    let k = get_or-set_other b object_count_at 0 0 0 (λ e. omega arith) ∙ get_or-set_other a statement_count_at 0 0 0 (λ e. omega arith) ∙ get_or-set_same ws class_count_at 0 0 (omega arith) in
    let p : min classes_most (get_or (cleared ws) class_count_at 0) ≡ 0 = omega arith in
    let q : min statements_most (get_or (cleared ws) statement_count_at 0) ≡ 0 = omega (arith, get_or-set_other b object_count_at 1 0 0 (λ e. omega arith), get_or-set_same a statement_count_at 0 0 (omega arith)) in
    let r : min objects_most (get_or (cleared ws) object_count_at 0) ≡ 0 = omega (arith, get_or-set_same b object_count_at 0 0 (omega arith)) in
    λ i. record {
      classes = upto (class_of text (cleared ws)) (p i);
      statements = upto (placed_of text (cleared ws)) (q i);
      objects = upto (object_of text (cleared ws)) (r i);
    }
