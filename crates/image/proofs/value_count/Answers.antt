-- `value_count` meets its contract: at each turn the fields of the objects before are counted.
use Prim.Native.Nat.{ℕ}
use mathlib.Core.Path.{◌≡◌, refl, ap, ◌∙◌}
use native.Mathlib.Omega.{arith}
use Rattle.layout.specs.Layout.{object_class_at}
use Rattle.catalog.specs.View.{object_word}
use Rattle.catalog.specs.Look.{shown_count}
use Rattle.output.specs.Each.{total, total_more}
use Rattle.image.specs.Sizes.{shown_le, values_le}
use Rattle.image.proofs.value_count.Goals as goal
use Rattle.image.proofs.value_count.Goals.{After-shown_count-count}
use Rattle.image.proofs.value_count.Invariants.{fields_of}

counted : (c : After-shown_count-count)
    → c.shown_count-count.result ≡ fields_of c.args.tables.now c.loop-object.object
counted c =
    let ws = c.args.tables.now in
    c.shown_count-count.ensures ∙ ap (λ (k : ℕ). shown_count ws k 0) c.class_of.ensures

pub loop-object-init : goal.loop-object-init
unfolding total
loop-object-init c = refl

pub overflow_add-count : goal.overflow_add-count
overflow_add-count c =
    let ws = c.args.tables.now in
    omega (arith, counted (goal.at.overflow_add-count c).After-shown_count-count, shown_le ws (object_word ws c.loop-object.object object_class_at) 0, values_le ws c.loop-object.object)

pub loop-object-preserved : goal.loop-object-preserved
loop-object-preserved c =
    let ws = c.args.tables.now in
    omega (arith, counted (goal.at.loop-object-preserved c).After-shown_count-count, total_more (fields_of ws) c.loop-object.object)
