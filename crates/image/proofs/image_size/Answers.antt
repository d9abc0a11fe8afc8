-- `image_size` meets its contract: a pair for each statement and four words for each method, after the four pairs.
use Prim.Native.Nat.{◌≤◌}
use native.Mathlib.Omega.{arith}
use Rattle.catalog.specs.View.{class_count}
use Rattle.image.specs.Sizes.{total_methods_le, image_length}
use Rattle.image.proofs.image_size.Goals as goal
use Rattle.image.proofs.image_size.Goals.{After-method_count-methods}

few : (c : After-method_count-methods) → c.method_count-methods.result ≤ 512
few c =
    let ws = c.args.tables.now in
    omega (arith, c.method_count-methods.ensures, total_methods_le ws (class_count ws))

pub overflow_mul-result-2 : goal.overflow_mul-result-2
overflow_mul-result-2 c = omega (arith, few (goal.at.overflow_mul-result-2 c).After-method_count-methods)

pub overflow_add-result-2 : goal.overflow_add-result-2
overflow_add-result-2 c = omega (arith, few (goal.at.overflow_add-result-2 c).After-method_count-methods)

pub returns : goal.returns
returns c = omega (arith, c.method_count-methods.ensures, c.statement_count-statements.ensures, image_length c.args.tables.now)
