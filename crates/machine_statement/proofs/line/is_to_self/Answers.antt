-- `is_to_self` meets its contract: one word after the other.
use borrow.Author.Tests.{not-false}
use Prim.Native.Nat.{ℕ}
use mathlib.Core.Path.{refl, sym, ap, ◌∙◌}
use mathlib.Core.List.{List}
use Rattle.model.specs.Base.{bytes, same}
use Rattle.text_lex.specs.Piece.{first, behind}
use Rattle.machine_statement.proofs.line.is_to_self.Goals as goal
use mathlib.Core.Bool.{not}

pub returns : goal.returns
returns c =
    let e = c.word_end_after-to in
    let a = c.args in
    rw (sym (c.same.ensures ∙ ap (λ (w₁ : List ℕ). same w₁ (bytes "to")) c.word_after.ensures) ∙ not-false c.same.result (ap not c.if-not-same.false))
    (c.same-2.ensures
    ∙ ap (λ (w₁ : List ℕ). same w₁ (bytes "self")) (c.word_after-2.ensures ∙ ap first (behind 32 a.line.now a.at e.result e.ensures refl)))
