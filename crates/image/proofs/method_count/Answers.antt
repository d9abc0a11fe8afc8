-- `method_count` meets its contract: at each turn the methods of the classes before are counted.
use mathlib.Core.Path.{refl}
use native.Mathlib.Omega.{arith}
use Rattle.catalog.specs.View.{member_count}
use Rattle.output.specs.Each.{total, total_more}
use Rattle.image.specs.Cells.{members_le}
use Rattle.image.specs.Sizes.{total_methods_le}
use Rattle.image.proofs.method_count.Goals as goal

pub loop-class-init : goal.loop-class-init
unfolding total
loop-class-init c = refl

pub overflow_add-count : goal.overflow_add-count
overflow_add-count c =
    let ws = c.args.tables.now in
    omega (arith, c.member_count-count.ensures, members_le ws c.loop-class.class 1, total_methods_le ws c.loop-class.class)

pub loop-class-preserved : goal.loop-class-preserved
loop-class-preserved c =
    let ws = c.args.tables.now in
    omega (arith, c.member_count-count.ensures, total_more (λ c₁. member_count ws c₁ 1) c.loop-class.class)
