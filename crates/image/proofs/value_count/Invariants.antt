use Prim.Native.Nat.{ℕ}
use mathlib.Core.Path.{◌≡◌}
use mathlib.Core.List.{List}
use Rattle.layout.specs.Layout.{object_class_at}
use Rattle.catalog.specs.View.{object_word}
use Rattle.catalog.specs.Look.{shown_count}
use Rattle.output.specs.Each.{total}
use Rattle.image.proofs.value_count.Given as goal

abbrev pub fields_of : List ℕ → ℕ → ℕ
fields_of ws o = shown_count ws (object_word ws o object_class_at) 0

abbrev pub invariant-loop-object : goal.invariant-loop-object
invariant-loop-object l =
    l.count ≡ total (fields_of l.tables) l.object
