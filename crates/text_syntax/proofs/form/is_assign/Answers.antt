-- `is_assign` meets its contract: the word after `at`, and the expression after that word.
use mathlib.Core.Path.{refl, ap, ◌∙◌}
use Prim.Native.Nat.{ℕ}
use mathlib.Core.List.{List}
use Rattle.model.specs.Word.{is_name}
use Rattle.model.specs.Expression.{expression}
use Rattle.text_lex.specs.Tests.{◌and◌}
use Rattle.text_lex.specs.Piece.{behind}
use Rattle.text_syntax.specs.Kinds.{is_whole, is_assign}
use Rattle.text_syntax.proofs.form.is_assign.Goals as goal

pub returns : goal.returns
unfolding is_assign
returns c =
    let a = c.args in
    let n = c.word_end_after-field in
    (c.is_name.ensures ∙ ap is_name c.word_after.ensures)
    and (c.is_whole.ensures ∙ ap (λ (ws : List (List ℕ)). is_whole (expression ws)) (behind 32 a.line.now a.at n.result n.ensures refl))
