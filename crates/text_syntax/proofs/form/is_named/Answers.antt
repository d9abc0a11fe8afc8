-- `is_named` meets its contract: the word after `at`, and whether anything follows that word's end.
use mathlib.Core.Path.{refl, ap, ◌∙◌}
use Rattle.model.specs.Word.{is_name}
use Rattle.text_lex.specs.Tests.{◌and◌}
use Rattle.text_lex.specs.Piece.{behind, at_end}
use Rattle.text_syntax.specs.Kinds.{is_named}
use Rattle.text_syntax.proofs.form.is_named.Goals as goal

pub returns : goal.returns
unfolding is_named
returns c =
    let a = c.args in
    let s = a.line.now in
    let n = c.word_end_after-name in
    (c.is_name.ensures ∙ ap is_name c.word_after.ensures) and at_end 32 s n.result (behind 32 s a.at n.result n.ensures refl)
