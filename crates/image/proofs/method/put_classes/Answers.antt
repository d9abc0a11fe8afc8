-- `put_classes` meets its contract: at each turn the classes before are written.
use Prim.Native.Nat.{ℕ}
use mathlib.Core.Path.{◌≡◌, ap}
use mathlib.Core.List.{flat_map}
use native.Mathlib.Omega.{arith}
use Rattle.catalog.specs.View.{class_count}
use Rattle.output.specs.Each.{numbers}
use Rattle.image.specs.Written.{each_method}
use Rattle.output.specs.Append.{appended_as, each_first, each_next}
use Rattle.image.specs.Cells.{methods_from, classes_le}
use Rattle.image.proofs.method.put_classes.Goals as goal

pub loop-class-init : goal.loop-class-init
loop-class-init c = each_first _ _ _

pub put_methods-end-requires : goal.put_methods-end-requires
put_methods-end-requires c =
    let a = c.args in
    omega (arith, c.loop-class.invariant.behind, classes_le a.text.now a.tables.now a.part c.loop-class.class)

pub loop-class-preserved : goal.loop-class-preserved
loop-class-preserved c =
    each_next _ c.loop-class.class c.loop-class.invariant c.put_methods-end.ensures

pub returns : goal.returns
unfolding each_method
returns c =
    let a = c.args in
    let e : c.loop-class.class ≡ class_count a.tables.now = omega (arith, c.class_count-count.ensures) in
    appended_as (ap (λ (n : ℕ). flat_map (methods_from a.text.now a.tables.now a.part) (numbers n)) e) c.loop-class.invariant
