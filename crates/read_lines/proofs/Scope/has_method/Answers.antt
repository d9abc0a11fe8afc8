-- `has_method` meets its contract: the class being read is the last one.
use mathlib.Core.Path.{sym, ◌∙◌}
use Rattle.read_lines.specs.Below.{lines_at}
use Rattle.read_lines.specs.Held.{method_here, method_there}
use Rattle.read_lines.proofs.Scope.has_method.Goals as goal

pub returns-then-class-last_class : goal.returns-then-class-last_class
returns-then-class-last_class c =
    let a = c.args in
    c.is_own.ensures ∙ method_here a.self.now.text.now a.self.now.tables.now (lines_at a.self.now.text.now a.self.now.below) a.class (c.if-class-last_class.true ∙ c.last_class.ensures) a.method.now

pub returns-else-class-last_class : goal.returns-else-class-last_class
returns-else-class-last_class c =
    let a = c.args in
    c.has_member.ensures ∙ method_there a.self.now.text.now a.self.now.tables.now (lines_at a.self.now.text.now a.self.now.below) a.class (λ e. c.if-class-last_class.false (e ∙ sym c.last_class.ensures)) a.method.now
