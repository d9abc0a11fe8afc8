-- `lead_through` meets its contract: the slots passed lead on by way of the one, and the others are as they were.
use native.Mathlib.Omega.{arith}
use Rattle.machine_conflicts.specs.Circle.{through_more}
use Rattle.machine_conflicts.proofs.circle.lead_through.Goals as goal

pub loop-slot-preserved : goal.loop-slot-preserved
loop-slot-preserved c =
    let a = c.args in
    (omega arith, through_more a.way a.masks.now c.loop-slot.slot c.loop-slot.masks c.loop-slot.invariant.1 c.loop-slot-test.true c.requires _ c.lead_on.ensures)
