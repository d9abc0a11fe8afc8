-- `class_of_number` meets its contract: an object that there is not has the number of classes for its class.
use native.Mathlib.Omega.{arith}
use Prim.Native.Nat.{ℕ}
use mathlib.Core.Path.{ap, ◌∙◌}
use mathlib.Core.List.{List}
use Rattle.layout.specs.Layout.{object_class_at}
use Rattle.catalog.specs.View.{class_count, object_count, object_word}
use Rattle.call_lines.specs.Names.{class_there, class_nowhere}
use Rattle.call_lines.proofs.name.class_of_number.Goals as goal

pub returns-then-object-object_count : goal.returns-then-object-object_count
returns-then-object-object_count c =
    let a = c.args in
    let e = c.tables_of-tables.ensures in
    c.class_of.ensures
    ∙ ap (λ (t : List ℕ). object_word t a.object object_class_at) e
    ∙ class_there a.text.now a.state.now a.object (omega (arith, c.object_count.ensures, ap (λ (t : List ℕ). object_count t) e))

pub returns-else-object-object_count : goal.returns-else-object-object_count
returns-else-object-object_count c =
    let a = c.args in
    let e = c.tables_of-tables.ensures in
    c.class_count.ensures
    ∙ ap (λ (t : List ℕ). class_count t) e
    ∙ class_nowhere a.text.now a.state.now a.object (omega (arith, c.object_count.ensures, ap (λ (t : List ℕ). object_count t) e))
