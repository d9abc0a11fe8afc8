-- `write_values` meets its contract: at each turn the values of the objects before are written.
use Prim.Native.Nat.{ℕ}
use mathlib.Core.Path.{◌≡◌, ap}
use mathlib.Core.List.{flat_map}
use native.Mathlib.Omega.{arith}
use Rattle.catalog.specs.View.{object_count}
use Rattle.output.specs.Each.{numbers}
use Rattle.image.specs.Written.{values_from, starting_from}
use Rattle.output.specs.Append.{appended_as, appended_over, each_first, each_next}
use Rattle.image.specs.Sizes.{starting_le}
use Rattle.image.proofs.write_values.Goals as goal

pub loop-object-init : goal.loop-object-init
loop-object-init c = each_first _ _ _

pub put_values-at-requires : goal.put_values-at-requires
put_values-at-requires c =
    let a = c.args in
    omega (arith, c.loop-object.invariant.behind, starting_le a.text.now a.tables.now c.loop-object.object)

pub loop-object-preserved : goal.loop-object-preserved
loop-object-preserved c =
    each_next _ c.loop-object.object c.loop-object.invariant c.put_values-at.ensures

pub returns : goal.returns
unfolding starting_from
returns c =
    let a = c.args in
    let e : c.loop-object.object ≡ object_count a.tables.now = omega (arith, c.object_count-objects.ensures) in
    appended_over (appended_as (ap (λ (n : ℕ). flat_map (values_from a.text.now a.tables.now) (numbers n)) e) c.loop-object.invariant)
