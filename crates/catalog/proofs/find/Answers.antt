-- `find` meets its contract: the members' names stand side by side in their class's row.
use Prim.Native.Nat.{ℕ}
use mathlib.Core.Path.{ap₂, subst, ◌∙◌}
use Rattle.catalog.specs.Look.{first_named, named_member, Found}
use Rattle.catalog.specs.View.{member_count}
use Rattle.catalog.proofs.find.Goals as goal

pub returns : goal.returns
returns c =
    let a = c.args in
    let e = ap₂ (λ (from count : ℕ). first_named a.text.now a.tables.now from 1 count a.name.now) c.member_place-from.ensures c.member_count-count.ensures
    ∙ named_member a.text.now a.tables.now a.name.now a.class a.kind in
    subst (λ (p : ℕ). Found c.first_named.result p (member_count a.tables.now a.class a.kind)) e
    (subst (Found c.first_named.result _) c.member_count-count.ensures c.first_named.ensures)
