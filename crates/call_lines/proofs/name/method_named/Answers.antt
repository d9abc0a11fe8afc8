-- `method_named` meets its contract: a class that there is not has no methods.
use native.Mathlib.Omega.{arith}
use Prim.Native.Nat.{ℕ, ◌≤◌}
use mathlib.Core.Path.{ap, ◌∙◌}
use mathlib.Core.List.{List}
use Rattle.std.specs.Prelude.{unwrap_or}
use Rattle.model.specs.Base.{same}
use Rattle.model.specs.Word.{Name}
use Rattle.model.specs.Library.{member_place}
use Rattle.laws.specs.Upto.{first_within}
use Rattle.catalog.specs.View.{class_count, member_count, members_of}
use Rattle.catalog.specs.Look.{found_or, member_count_law}
use Rattle.call_lines.specs.Names.{method_there, method_nowhere}
use Rattle.call_lines.proofs.name.method_named.Goals as goal

few : (text tables : List ℕ) (c : ℕ) (n : Name) → member_place (members_of text tables c 1) n ≤ member_count tables c 1
unfolding member_place
few text tables c n = omega (arith, first_within (λ m. same m.name n) (members_of text tables c 1), member_count_law text tables c 1)

pub returns-then-class-class_count : goal.returns-then-class-class_count
returns-then-class-class_count c =
    let a = c.args in
    let t = c.tables_of-tables.result.now in
    let e = c.tables_of-tables.ensures in
    c.unwrap_or.ensures
    ∙ ap (unwrap_or c.find.result) c.member_count-methods.ensures
    ∙ found_or c.find.result _ _ c.find.ensures (few a.text.now t a.class a.name.now)
    ∙ ap (λ (t : List ℕ). member_place (members_of a.text.now t a.class 1) a.name.now) e
    ∙ method_there a.text.now a.state.now a.class a.name.now (omega (arith, c.class_count.ensures, ap (λ (t : List ℕ). class_count t) e))

pub returns-else-class-class_count : goal.returns-else-class-class_count
returns-else-class-class_count c =
    let a = c.args in
    let e = c.tables_of-tables.ensures in
    method_nowhere a.text.now a.state.now a.class a.name.now (omega (arith, c.class_count.ensures, ap (λ (t : List ℕ). class_count t) e))
