-- `fill_places` meets its contract: each turn stores the sum of the values before, and adds those of its object.
use Prim.Native.Nat.{ℕ, ◌+◌, ◌*◌}
use mathlib.Core.Path.{◌≡◌, refl, ap, ◌∙◌}
use mathlib.Core.List.{List}
use native.Mathlib.Omega.{arith}
use lib.ListN.{set}
use Rattle.layout.specs.Layout.{object_class_at, object_words, objects_at}
use Rattle.catalog.specs.View.{object_word}
use Rattle.catalog.specs.Look.{shown_count}
use Rattle.output.specs.Each.{total}
use Rattle.image.specs.Sizes.{shown_le}
use Rattle.machine_start.specs.Worked.{with_each, values_of, first_value}
use Rattle.machine_start.specs.Stored.{places_more, values_more, first_le}
use Rattle.machine_start.proofs.fill_places.Goals as goal
use Rattle.machine_start.proofs.fill_places.Goals.{After-shown_count-fields}

-- What a turn counts: the values of its object.
counted : (c : After-shown_count-fields)
    → c.shown_count-fields.result ≡ values_of c.loop-object.tables c.loop-object.object
counted c =
    c.shown_count-fields.ensures ∙ ap (λ (k : ℕ). shown_count c.loop-object.tables k 0) c.class_of.ensures

pub loop-object-init : goal.loop-object-init
unfolding with_each first_value total
loop-object-init c = (refl, refl)

pub overflow_add-values : goal.overflow_add-values
overflow_add-values c =
    let ws = c.args.tables.now in
    let k = c.loop-object.tables in
    omega (arith, c.object_count-count.ensures, counted (goal.at.overflow_add-values c).After-shown_count-fields, shown_le k (object_word k c.loop-object.object object_class_at) 0, c.loop-object.invariant.1, first_le ws c.loop-object.object)

pub loop-object-preserved : goal.loop-object-preserved
loop-object-preserved c =
    let ws = c.args.tables.now in
    let n = c.loop-object.object in
    let v = c.loop-object.values in (
      c.put_object_word.ensures ∙ ap (λ (l : List ℕ). set l (objects_at + (n * object_words + 2)) v) c.loop-object.invariant.0 ∙ places_more ws n v c.loop-object.invariant.1,
      values_more ws n v c.shown_count-fields.result (omega (arith, c.object_count-count.ensures)) c.loop-object.invariant.1 (counted (goal.at.loop-object-preserved c).After-shown_count-fields ∙ ap (λ (l : List ℕ). values_of l n) c.loop-object.invariant.0),
    )
