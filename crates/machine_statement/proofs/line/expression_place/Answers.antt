-- `expression_place` meets its contract: each end of a word leaves one fewer word after it.
use mathlib.Core.Path.{refl}
use Rattle.text_lex.specs.Piece.{behind}
use Rattle.machine_statement.proofs.line.expression_place.Goals as goal

pub returns-in-Set : goal.returns-in-Set
returns-in-Set c =
    let a = c.args in
    rw c.in-Set.is (behind 32 a.line.now a.at c.word_end_after.result c.word_end_after.ensures refl)

pub returns-in-Add : goal.returns-in-Add
returns-in-Add c =
    let a = c.args in
    rw c.in-Add.is (behind 32 a.line.now a.at c.word_end_after-in-Add.result c.word_end_after-in-Add.ensures refl)

pub returns-in-Send : goal.returns-in-Send
returns-in-Send c =
    let a = c.args in
    let s = a.line.now in
    rw c.in-Send.is
    (behind 32 s c.word_end_after-to.result c.word_end_after-in-Send.result c.word_end_after-in-Send.ensures
    (behind 32 s c.word_end_after-target.result c.word_end_after-to.result c.word_end_after-to.ensures
    (behind 32 s a.at c.word_end_after-target.result c.word_end_after-target.ensures refl)))
