-- `class_number` meets its contract: the names stand a row apart.
use Prim.Native.Nat.{ℕ}
use mathlib.Core.Path.{ap, ◌∙◌}
use Rattle.layout.specs.Layout.{class_words, classes_at}
use Rattle.catalog.specs.Look.{first_named, first_named_le, found_or, named_class}
use Rattle.catalog.proofs.class_number.Goals as goal

pub returns : goal.returns
returns c =
    let a = c.args in
    let n = c.class_count-count.result in
    let le = first_named_le a.text.now a.tables.now classes_at class_words n a.name.now in
    c.unwrap_or.ensures ∙ found_or c.first_named-found.result _ n c.first_named-found.ensures le
    ∙ ap (λ (k : ℕ). first_named a.text.now a.tables.now classes_at class_words k a.name.now) c.class_count-count.ensures
    ∙ named_class a.text.now a.tables.now a.name.now
