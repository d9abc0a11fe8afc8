-- `waiting_count` meets its contract: at most 8.
use Rattle.std.proofs.Common.{arith}
use Rattle.machine_conflicts.specs.Ahead.{count_is}
use Rattle.machine_conflicts.proofs.line.waiting_count.Goals as goal

pub returns : goal.returns
returns c = count_is _ _ _ c.get.ensures (λ h. omega (arith, c.min.ensures)) (λ h. omega (arith, c.min.ensures))
