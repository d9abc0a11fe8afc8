-- `is_send` meets its contract: its words one after the other, each found after the end of the one before.
use mathlib.Core.Path.{refl, ap, ◌∙◌}
use Prim.Native.Nat.{ℕ}
use mathlib.Core.List.{List}
use Rattle.model.specs.Base.{bytes, same}
use Rattle.model.specs.Text.{pieces}
use Rattle.model.specs.Expression.{expression}
use Rattle.text_lex.specs.Tests.{◌and◌}
use Rattle.text_lex.specs.Piece.{first, behind}
use Rattle.text_syntax.specs.Kinds.{is_whole, is_target, is_send}
use Rattle.text_syntax.proofs.form.is_send.Goals as goal

pub returns : goal.returns
unfolding is_send
returns c =
    let e3 = c.word_end_after-own in
    let e2 = c.word_end_after-to in
    let e1 = c.word_end_after-target in
    let a = c.args in
    let s = a.line.now in
    let b1 = behind 32 s a.at e1.result e1.ensures refl in
    let b2 = behind 32 s e1.result e2.result e2.ensures b1 in
    let b3 = behind 32 s e2.result e3.result e3.ensures b2 in
    (c.same.ensures ∙ ap (λ (w : List ℕ). same w (bytes "to")) (c.word_after.ensures ∙ ap first b1))
    and (c.same-2.ensures ∙ ap (λ (w : List ℕ). same w (bytes "self")) (c.word_after-2.ensures ∙ ap first b2))
    and ((c.is_target.ensures ∙ ap (λ (w : List ℕ). is_target (pieces 46 w)) c.word_after-3.ensures)
    and (c.is_whole.ensures ∙ ap (λ (ws : List (List ℕ)). is_whole (expression ws)) b3))
