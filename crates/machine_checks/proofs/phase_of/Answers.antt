-- `phase_of` meets its contract: the first word of the slot's row.
use Rattle.std.proofs.Common.{ℕ, get_or, ap, ◌∙◌}
use Rattle.machine_checks.specs.Phases.{phase_is}
use Rattle.machine_checks.proofs.phase_of.Goals as goal

pub returns : goal.returns
returns c = c.get.ensures ∙ ap (λ (i : ℕ). get_or c.args.state.now i 0) c.row_range.ensures.0 ∙ phase_is _ _
