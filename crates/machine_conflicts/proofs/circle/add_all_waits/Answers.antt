-- `add_all_waits` meets its contract: at each turn, what is there and what is left to add are all the waits.
use native.Mathlib.Omega.{arith}
use Rattle.machine_conflicts.specs.Circle.{adding_more, adding_all}
use Rattle.machine_conflicts.proofs.circle.add_all_waits.Goals as goal

pub loop-place-preserved : goal.loop-place-preserved
loop-place-preserved c =
    (omega arith, adding_more _ _ _ _ _ _ c.loop-place.invariant.1 c.loop-place-test.true _ c.add_waits.ensures)

pub returns : goal.returns
returns c = adding_all _ _ _ _ _ _ c.loop-place.invariant.1 c.loop-place-test.false
