use mathlib.Core.Path.{◌≡◌}
use Rattle.model.specs.Base.{upto}
use Rattle.model.specs.Image.{mask}
use Rattle.machine_start.specs.Worked.{belongs}
use Rattle.machine_start.proofs.domain_mask.Given as goal

abbrev pub invariant-loop-other : goal.invariant-loop-other
invariant-loop-other l = l.mask ≡ mask (upto (belongs l.tables l.class) l.other)
