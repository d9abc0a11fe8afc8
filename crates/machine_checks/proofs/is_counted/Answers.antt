-- `is_counted` meets its contract: each count that is read is the definition's.
use Rattle.machine_checks.specs.Phases.{counted_by}
use Rattle.machine_checks.proofs.is_counted.Goals as goal

pub returns : goal.returns
returns c =
    counted_by _ _ _ _ _ c.get.ensures c.get-2.ensures c.get-3.ensures c.get-4.ensures
