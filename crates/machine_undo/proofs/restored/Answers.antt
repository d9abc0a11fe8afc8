-- The bit of the value's second mark tells whether its note is a value or a sum.
use Rattle.std.proofs.Common.{◌+◌, get_or, ◌∙◌, arith}
use Rattle.layout.specs.Layout.{notes_at}
use Rattle.machine_undo.specs.Over.{less_is, back_old, back_less, back_past}
use Rattle.machine_undo.proofs.restored.Goals as goal

pub returns-then-sets-place-eq1 : goal.returns-then-sets-place-eq1
returns-then-sets-place-eq1 c =
    let a = c.args in
    back_old a.row.now a.place a.value (omega arith) c.if-sets-place-eq1.true

pub returns-then-place-lt-VALUES : goal.returns-then-place-lt-VALUES
returns-then-place-lt-VALUES c =
    let a = c.args in
    less_is a.value (get_or a.row.now (notes_at + a.place) 0) _ (omega arith) (omega arith) (omega arith) (omega arith)
    ∙ back_less a.row.now a.place a.value (omega arith) c.if-sets-place-eq1.false

pub returns : goal.returns
returns c =
    let a = c.args in
    back_past a.row.now a.place a.value (omega arith)
