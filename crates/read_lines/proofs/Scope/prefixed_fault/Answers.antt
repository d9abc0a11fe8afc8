-- `prefixed_fault` meets its contract: its tests are the definition's, for the class with that name.
use mathlib.Core.Path.{◌∙◌}
use Rattle.read_lines.specs.Below.{lines_at}
use Rattle.read_lines.specs.Held.{prefixed}
use Rattle.read_lines.proofs.Scope.prefixed_fault.Goals as goal

pub returns : goal.returns
returns c =
    let a = c.args in
    c.lowest.ensures
    ∙ prefixed a.self.now.text.now a.self.now.tables.now (lines_at a.self.now.text.now a.self.now.below) a.class.now a.method.now
    c.class_number-number.ensures c.class_count.ensures c.has_method.ensures (c.is_ancestor.ensures a.self.now.text.now)
