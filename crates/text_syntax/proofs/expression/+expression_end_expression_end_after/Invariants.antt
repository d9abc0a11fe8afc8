-- The levels decrease.
use Prim.Native.Nat.{◌+◌, ◌*◌}
use Rattle.text_syntax.proofs.expression.+expression_end_expression_end_after.Given as goal

abbrev pub decreases-expression_end : goal.decreases-expression_end
decreases-expression_end l = 2 * l.levels

abbrev pub decreases-expression_end_after : goal.decreases-expression_end_after
decreases-expression_end_after l = 2 * l.levels + 1
