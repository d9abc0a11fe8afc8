-- `line_callee` meets its contract: a statement calls what follows its `send`, and nothing where it has none.
use mathlib.Core.Path.{sym}
use Rattle.catalog.specs.View.{library_of}
use Rattle.vector_direct.specs.Targets.{callee_found, callee_idle, callee_none}
use Rattle.vector_direct.proofs.line_callee.Goals as goal

pub returns-in-Some : goal.returns-in-Some
returns-in-Some c =
    let a = c.args in
    callee_found (library_of a.text.now a.tables.now) a.class a.line.now _ c.behind_send.ensures _ _ c.target_number.result
    (sym c.if-is_statement.ensures) c.in-Some.ensures.steps c.target_number.ensures

pub returns-in_default : goal.returns-in_default
returns-in_default c =
    let a = c.args in
    callee_idle (library_of a.text.now a.tables.now) a.class a.line.now _ c.behind_send.ensures (sym c.if-is_statement.ensures)

pub returns-in_default-2 : goal.returns-in_default-2
returns-in_default-2 c =
    let a = c.args in
    let steps = rw c.in_default.is at c.next.ensures.steps in
    callee_none (library_of a.text.now a.tables.now) a.class a.line.now _ c.behind_send.ensures steps.0
