-- The levels fall.
use Rattle.std.proofs.Common.{◌+◌, ◌*◌}
use Rattle.machine_evaluate.proofs.+value_after_value_of.Given as goal

abbrev pub decreases-value_after : goal.decreases-value_after
decreases-value_after l = 2 * l.levels + 1

abbrev pub decreases-value_of : goal.decreases-value_of
decreases-value_of l = 2 * l.levels
