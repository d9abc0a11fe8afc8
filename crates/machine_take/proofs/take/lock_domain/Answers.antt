-- `lock_domain` meets its contract: each turn locks one more class.
use native.Mathlib.Omega.{arith}
use Rattle.machine_take.specs.Taken.{lock_none, lock_more}
use Rattle.machine_take.proofs.take.lock_domain.Goals as goal

pub loop-class-init : goal.loop-class-init
loop-class-init c = (omega arith, lock_none _ _ _ _ c.requires _)

pub loop-class-preserved : goal.loop-class-preserved
loop-class-preserved c =
    (omega arith, lock_more _ _ _ _ c.requires _ _ _ _ c.loop-class.invariant.1 c.lock_class.ensures)
