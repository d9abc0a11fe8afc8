-- `has_member` meets its contract: a class has the members of its row where it is counted.
use borrow.Author.Tests.{le-ltb}
use mathlib.Core.Path.{◌∙◌}
use native.Mathlib.Omega.{arith}
use Rattle.read_lines.specs.Held.{has_shown, has_past}
use Rattle.read_lines.proofs.Scope.has_member.Goals as goal

pub returns-then-class-class_count : goal.returns-then-class-class_count
returns-then-class-class_count c =
    let a = c.args in
    c.has_member.ensures ∙ has_shown a.self.now.text.now a.self.now.tables.now a.class a.kind c.requires a.name.now (omega (arith, c.if-class-class_count.true, c.class_count.ensures))

pub returns-else-class-class_count : goal.returns-else-class-class_count
returns-else-class-class_count c =
    let a = c.args in
    le-ltb _ _ c.if-class-class_count.false
    ∙ has_past a.self.now.text.now a.self.now.tables.now a.class a.kind c.requires a.name.now (omega (arith, c.if-class-class_count.false, c.class_count.ensures))
