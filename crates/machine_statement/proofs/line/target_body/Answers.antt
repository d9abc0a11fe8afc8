-- `target_body` meets its contract: a point within the word divides a class's name from the method's.
use Rattle.machine_evaluate.specs.Valued.{first_length}
use Rattle.machine_statement.specs.Actions.{target_own, target_other}
use Rattle.machine_statement.proofs.line.target_body.Goals as goal

pub slice_bounds-body_in-end : goal.slice_bounds-body_in-end
slice_bounds-body_in-end c = first_length 46 _ _ c.piece_end-point.ensures

pub returns-then-target-point : goal.returns-then-target-point
returns-then-target-point c =
    let e = c.piece_end-point in
    let a = c.args in
    rw (target_own a.text.now a.tables.now a.class _ _ e.ensures c.if-target-point.true) c.body_in.ensures

pub returns-else-target-point : goal.returns-else-target-point
returns-else-target-point c =
    let e = c.piece_end-point in
    let a = c.args in
    rw (target_other a.text.now a.tables.now a.class _ _ e.ensures c.if-target-point.false _ c.class_number-owner.ensures _ c.piece_after-method.ensures)
    c.body_in-else-target-point.ensures
