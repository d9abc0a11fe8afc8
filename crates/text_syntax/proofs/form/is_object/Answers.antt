-- `is_object` meets its contract: its words one after the other, each found after the end of the one before.
use mathlib.Core.Path.{refl, ap, ◌∙◌}
use Rattle.model.specs.Base.{every}
use Rattle.model.specs.Word.{is_name, is_number}
use Rattle.text_lex.specs.Tests.{◌and◌}
use Rattle.text_lex.specs.Piece.{first, behind}
use Rattle.text_syntax.specs.Kinds.{is_object}
use Rattle.text_syntax.proofs.form.is_object.Goals as goal

pub returns : goal.returns
unfolding is_object
returns c =
    let e2 = c.word_end_after-class in
    let e1 = c.word_end_after-name in
    let a = c.args in
    let s = a.line.now in
    let b1 = behind 32 s a.at e1.result e1.ensures refl in
    let b2 = behind 32 s e1.result e2.result e2.ensures b1 in
    (c.is_name.ensures ∙ ap is_name c.word_after.ensures)
    and (c.is_name-2.ensures ∙ ap is_name (c.word_after-2.ensures ∙ ap first b1))
    and (c.all_numbers.ensures ∙ ap (every is_number) b2)
