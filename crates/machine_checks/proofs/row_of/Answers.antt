use Rattle.machine_checks.specs.Lent.{part_at}
use Rattle.machine_checks.proofs.row_of.Goals as goal

pub returns : goal.returns
returns c = part_at _ _ _ _ c.row_range.ensures.0 c.row_range.ensures.1
