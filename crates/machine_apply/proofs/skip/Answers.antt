-- The activation goes on, then the step is counted.
use Rattle.std.proofs.Common.{ap, ◌∙◌}
use Rattle.machine_words.specs.Row.{stepped, skip_row}
use Rattle.machine_apply.proofs.skip.Goals as goal

pub returns : goal.returns
unfolding skip_row
returns c =
    c.count_step.ensures ∙ ap stepped c.pass.ensures
