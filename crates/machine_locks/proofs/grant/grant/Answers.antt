-- `grant` meets its contract, by whether the slot holds the send's locks already.
use mathlib.Core.Bool.{true, false}
use Rattle.machine_words.specs.Calls.{lending}
use Rattle.machine_checks.specs.Phases.{leaves_as}
use Rattle.machine_words.specs.Said.{asked}
use Rattle.machine_locks.specs.Granted.{granted_by}
use Rattle.machine_locks.proofs.grant.grant.Goals as goal

pub returns-then-owns_locks : goal.returns-then-owns_locks
returns-then-owns_locks c =
    let a = c.args in
    λ values. leaves_as (granted_by (lending a.text.now a.state.now values) a.slot (asked a.wanted) _ (rw (c.tables_of.ensures, c.row_of.ensures) at c.owns_locks.ensures) true c.if-owns_locks.true) (c.start_send.ensures values)

pub returns : goal.returns
returns c =
    let a = c.args in
    λ values. leaves_as (granted_by (lending a.text.now a.state.now values) a.slot (asked a.wanted) _ (rw (c.tables_of.ensures, c.row_of.ensures) at c.owns_locks.ensures) false c.if-owns_locks.false) (c.arrive.ensures values)
