-- `catalog::shown_count` meets its contract: its two branches are the two cases of the definition.
use native.Mathlib.Omega.{arith}
use borrow.Author.Tests.{lt-ltb, le-ltb}
use Rattle.catalog.specs.View.{class_count}
use Rattle.catalog.specs.Look.{shown_count}
use Rattle.catalog.proofs.shown_count.Goals as goal

pub returns-then-class-class_count : goal.returns-then-class-class_count
unfolding shown_count
returns-then-class-class_count c =
    let a = c.args in
    rw (lt-ltb a.class (class_count a.tables.now) (omega (arith, c.if-class-class_count.true, c.class_count.ensures))) c.member_count.ensures

pub returns-else-class-class_count : goal.returns-else-class-class_count
unfolding shown_count
returns-else-class-class_count c =
    let a = c.args in
    rw (le-ltb a.class (class_count a.tables.now) (omega (arith, c.if-class-class_count.false, c.class_count.ensures)))
