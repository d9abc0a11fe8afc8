-- `line_turn` meets its contract: the tests are the definition's, and the lent part of the values is the object's own.
use mathlib.Core.Path.{◌∙◌}
use Rattle.catalog.specs.View.{statement_word}
use Rattle.machine_statement.specs.Lines.{line_misfit, line_fits}
use Rattle.machine_statement.proofs.line.line_turn.Goals as goal

pub returns-then-class_count-class : goal.returns-then-class_count-class
unfolding statement_word
returns-then-class_count-class c =
    line_misfit _ _ _ _ _ _ _ _ _ _ _ _ _
    c.class_of-class.ensures c.values_of-base.ensures c.member_count.ensures c.class_count.ensures c.get-place.ensures c.if-class_count-class.true

pub returns : goal.returns
unfolding statement_word
returns c =
    c.statement_turn.ensures
    ∙ line_fits _ _ _ _ _ _ _ _ _ _ _ _ _
    c.class_of-class.ensures c.values_of-base.ensures c.member_count.ensures c.class_count.ensures c.get-place.ensures c.if-class_count-class.false
    _ c.part_of.ensures
