-- `method_number` meets its contract: a class has the methods whose places the tables show.
use mathlib.Core.Path.{refl}
use native.Mathlib.Omega.{arith}
use Rattle.catalog.specs.Look.{shown_le, shown_class}
use Rattle.vector_direct.specs.Targets.{number_known, number_unknown, number_missing}
use Rattle.vector_direct.proofs.method_number.Goals as goal

pub overflow_mul-result : goal.overflow_mul-result
overflow_mul-result c =
    let a = c.args in
    let e = c.shown_count-count.ensures in
    omega (arith, e, shown_class a.tables.now a.class 1 c.in-Some.place (omega (arith, e, c.if-place-count.true)))

pub overflow_add-result : goal.overflow_add-result
overflow_add-result c =
    let a = c.args in
    let e = c.shown_count-count.ensures in
    omega (arith, e, shown_le a.tables.now a.class 1, shown_class a.tables.now a.class 1 c.in-Some.place (omega (arith, e, c.if-place-count.true)))

pub returns-in-Some : goal.returns-in-Some
returns-in-Some c =
    let a = c.args in
    number_known a.text.now a.tables.now a.class a.name.now c.in-Some.place c.in-Some.ensures.0 (omega (arith, c.shown_count-count.ensures, c.if-place-count.true))

pub returns-in_default : goal.returns-in_default
returns-in_default c =
    let a = c.args in
    number_unknown a.text.now a.tables.now a.class a.name.now c.in-Some.place c.in-Some.ensures.0 (omega (arith, c.shown_count-count.ensures, c.if-place-count.false))

pub returns-in_default-2 : goal.returns-in_default-2
returns-in_default-2 c =
    let a = c.args in
    number_missing a.text.now a.tables.now a.class a.name.now _ refl c.in_default.ensures
