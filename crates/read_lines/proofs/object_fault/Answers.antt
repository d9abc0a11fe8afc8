-- `object_fault` meets its contract: its three tests are the definition's.
use mathlib.Core.Path.{sym, ◌∙◌}
use Rattle.read_lines.specs.Objects.{object_fault_law}
use Rattle.read_lines.proofs.object_fault.Goals as goal

pub returns : goal.returns
returns c =
    let a = c.args in
    λ vs v.
    c.object_lowest.ensures
    ∙ object_fault_law a.text.now a.tables.now a.name.now a.class.now vs
    c.object_number.ensures c.object_count-objects.ensures c.class_number-number.ensures c.class_count.ensures c.shown_count-fields.ensures (sym v)
