-- `held_by_all` meets its contract: each turn adds what one more slot holds.
use mathlib.Core.Path.{refl}
use native.Mathlib.Omega.{arith}
use Rattle.machine_conflicts.specs.Holders.{held_upto, held_more}
use Rattle.machine_conflicts.proofs.clash.held_by_all.Goals as goal

pub loop-slot-init : goal.loop-slot-init
unfolding held_upto
loop-slot-init c = (omega arith, refl)

pub loop-slot-preserved : goal.loop-slot-preserved
loop-slot-preserved c =
    (omega arith, held_more _ _ _ _ _ _ c.loop-slot.invariant.1 (rw c.row_of.ensures at c.held_at-held.ensures))
