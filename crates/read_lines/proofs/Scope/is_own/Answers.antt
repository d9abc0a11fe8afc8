-- `is_own` meets its contract: the class has the method, or the lines below define it.
use mathlib.Core.Path.{sym, ap, ◌∙◌}
use mathlib.Core.Bool.{Bool, ◌||◌}
use Rattle.read_lines.specs.Below.{lines_at, is_later}
use Rattle.read_lines.specs.Held.{own_method_law}
use Rattle.read_lines.proofs.Scope.is_own.Goals as goal

pub returns-then-has_member : goal.returns-then-has_member
returns-then-has_member c =
    let a = c.args in
    let below = lines_at a.self.now.text.now a.self.now.below in
    c.if-has_member.true
    ∙ ap (λ (t : Bool). t || is_later a.method.now below) (sym c.if-has_member.true)
    ∙ own_method_law a.self.now.text.now a.self.now.tables.now below c.last_class.result c.last_class.ensures a.method.now c.has_member.ensures

pub returns-else-has_member : goal.returns-else-has_member
returns-else-has_member c =
    let a = c.args in
    let below = lines_at a.self.now.text.now a.self.now.below in
    c.is_later.ensures
    ∙ ap (λ (t : Bool). t || is_later a.method.now below) (sym c.if-has_member.false)
    ∙ own_method_law a.self.now.text.now a.self.now.tables.now below c.last_class.result c.last_class.ensures a.method.now c.has_member.ensures
