-- The results of a statement line and of an object line: the line's fault, or the library with the line added.
use Rattle.std.specs.Prelude.{ℕ, min, ◌+◌, ◌-◌, ◌≤◌, ◌<◌, ◌≡◌, refl, ◌≢◌, Bool, true, false, cond, drop, eqb, leb}
use Rattle.std.proofs.Math.Path.{sym, ap}
use Rattle.std.proofs.Common.{◌∙◌, arith, eq-eqb, ne_eqb, leb-true, leb-false}
use mathlib.Core.List.{List, [], ◌∷◌}
use Rattle.std.proofs.Math.ListN.{length, length-take, length-drop}
use Rattle.layout.specs.Layout.{statements_most}
use Rattle.model.specs.Text.{pieces, words}
use Rattle.model.specs.Word.{Name}
use Rattle.model.specs.Form.{Statement, statement_line, object_line, malformed, form_of, Line}
use Rattle.model.specs.Library.{Library, add, last_class}
use Rattle.model.specs.Fault.{statements_so_far, statement_fault, object_fault}
use Rattle.text_lex.specs.Scan.{is_byte, before}
use Rattle.catalog.specs.View.{statement_count, library_of}
use Rattle.catalog.specs.Look.{statement_count_law}
use Rattle.read_classes.specs.Took.{Took, Lent}
use Rattle.read_classes.specs.Lines.{line_of, line_length, line_cut}
use Rattle.read_lines.specs.Below.{lines_at, lines_end}
use Rattle.read_lines.specs.Mentioned.{fault_behind, statement_fault_law}
use Rattle.read_lines.specs.Added.{with_placed, Counts, with_statement_at, statement_added}

module _ (text ws : List ℕ) (at end r : ℕ) (ws' : List ℕ) where
  -- The result for the line of a statement, where the tables have room for its place; its class may define methods further below.
  abbrev pub StatementTook : Type 0
  StatementTook =
      (s : Statement) → form_of (words (line_of text at end)) ≡ statement_line s → statement_count ws < statements_most
      → Took (library_of text ws) (record { form = statement_line s; at = at; size = length (line_of text at end) }) (statement_line s)
      (statement_fault (library_of text ws) (lines_at text (end + 1)) s) r (library_of text ws')

  abbrev pub ObjectTook : Type 0
  ObjectTook =
      (line : Line) (n c : Name) (vs : List ℕ) → form_of (words (line_of text at end)) ≡ object_line n c vs
      → Took (library_of text ws) line (object_line n c vs) (object_fault (library_of text ws) n c vs) r (library_of text ws')

-- The words of the line have the fault `fault`.
module _ (text ws : List ℕ) (at end : ℕ) (fault : ℕ) (e : fault ≡ fault_behind (library_of text ws) (lines_at text (end + 1)) (words (line_of text at end))) where
  deserved : (s : Statement) → form_of (words (line_of text at end)) ≡ statement_line s
      → statement_fault (library_of text ws) (lines_at text (end + 1)) s ≡ cond (eqb fault 0) (cond (leb 32 (statements_so_far (last_class (library_of text ws)))) 17 0) fault
  deserved s q =
      let n : ℕ = cond (leb 32 (statements_so_far (last_class (library_of text ws)))) 17 0 in
      statement_fault_law (library_of text ws) (lines_at text (end + 1)) (words (line_of text at end)) s q ∙ ap (λ (k : ℕ). cond (eqb k 0) n k) (sym e)

  pub statement_refused : fault ≢ 0 → (ws' : List ℕ) → StatementTook text ws at end fault ws'
  statement_refused h ws' s q room = record {
    number = sym (deserved s q ∙ rw (ne_eqb fault 0 h));
    known = λ z. absurd (h z);
  }

  -- They have none, and the statement is counted in its method.
  module _ (h : fault ≡ 0) (r : ℕ) (ws₁ : List ℕ) (k : Counts text ws r ws₁) where
    asked : (s : Statement) → form_of (words (line_of text at end)) ≡ statement_line s → r ≡ statement_fault (library_of text ws) (lines_at text (end + 1)) s
    asked s q = k.number ∙ sym (deserved s q ∙ rw (eq-eqb fault 0 h))

    pub statement_over : r ≢ 0 → (ws' : List ℕ) → StatementTook text ws at end r ws'
    statement_over d ws' s q room = record { number = asked s q; known = λ z. absurd (d z) }

    pub statement_taken : r ≡ 0 → Lent text ws₁ at end → (ws' : List ℕ) → ws' ≡ with_statement_at ws₁ at (end - at) → StatementTook text ws at end 0 ws'
    unfolding add
    statement_taken z lent ws' p s q room =
        let n : statement_count ws₁ ≡ statement_count ws =
        sym (statement_count_law text ws₁) ∙ ap (λ (l : Library). length l.statements) (k.known z) ∙ statement_count_law text ws in
        let a : at < 65536 = omega (arith, lent.order, lent.within, lent.small) in
        let b : end - at < 65536 = omega (arith, lent.within, lent.small) in
        let size : end - at ≡ length (line_of text at end) = sym (line_length text at end lent.order lent.within) in
        record {
          number = sym z ∙ asked s q;
          known = λ d.
              ap (library_of text) p
              ∙ statement_added text ws₁ at (end - at) (omega arith) lent.room a b s q
              ∙ (λ i. with_placed (k.known z i) (record { statement = s; at = at; size = size i }));
        }

-- ---- a line that is cut to the text

-- An empty line is no statement.
statement_bytes : (l : List ℕ) (s : Statement) → form_of (words l) ≡ statement_line s → 0 < length l
unfolding form_of pieces
statement_bytes [] s q = let p : malformed ≡ statement_line s = q in let z : ◌≡◌ {A = ℕ} 0 1 = cc in absurd (omega arith)
statement_bytes (x ∷ l) s q = omega arith

module _ (text : List ℕ) (at end from stop : ℕ) (h : stop ≡ min end (length text)) (k : from ≡ min at stop) where
  -- No line is below a text's end.
  below_cut : lines_at text (stop + 1) ≡ lines_at text (end + 1)
  below_cut = go (leb end (length text)) refl
    where
      none : (i : ℕ) → length text ≤ i → lines_at text i ≡ []
      none i p = lines_end text i (i + before (is_byte 10) (drop i text)) refl (omega arith)

      go : (b : Bool) → leb end (length text) ≡ b → lines_at text (stop + 1) ≡ lines_at text (end + 1)
      go true q = let e : stop ≡ end = omega (arith, leb-true end (length text) q) in ap (λ (i : ℕ). lines_at text (i + 1)) e
      go false q =
          let p = leb-false end (length text) q in
          none (stop + 1) (omega arith) ∙ sym (none (end + 1) (omega arith))

  pub statement_cut : (ws : List ℕ) (r : ℕ) (ws' : List ℕ) → StatementTook text ws from stop r ws' → StatementTook text ws at end r ws'
  unfolding add
  statement_cut ws r ws' t s q room =
      let l = library_of text ws in
      let cut = line_cut text at end from stop h k in
      let took = t s (ap (λ (l : List ℕ). form_of (words l)) cut ∙ q) room in
      let n = length-take (end - at) (drop at text) in
      let e : from ≡ at = omega (arith, statement_bytes (line_of text at end) s q, n, length-drop at text) in
      record {
        number = took.number ∙ ap (λ (b : List Line). statement_fault l b s) below_cut;
        known = λ z. took.known z ∙ (λ i. add l (record { form = statement_line s; at = e i; size = length (cut i) }) (statement_line s));
      }
