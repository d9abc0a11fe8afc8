-- `wake_waiting` meets its contract, by the slots in the way and by where the message starts.
use mathlib.Core.Path.{refl, ap}
use Rattle.machine_words.specs.Said.{asked, said_first}
use Rattle.machine_locks.specs.Woken.{leaving_as, still_blocked, wakes_nowhere, wakes_there, few_places}
use Rattle.machine_take.specs.Begun.{somewhere}
use Rattle.machine_locks.proofs.wake.wake_waiting.Goals as goal

pub returns-then-clashing-ne0 : goal.returns-then-clashing-ne0
returns-then-clashing-ne0 c =
    let a = c.args in
    leaving_as (still_blocked a.text.now a.state.now a.ahead a.slot (asked a.wanted) _ c.clashing.ensures c.if-clashing-ne0.true) c.keep_waiting.ensures

pub returns-in_default : goal.returns-in_default
returns-in_default c =
    let a = c.args in
    leaving_as (wakes_nowhere a.text.now a.state.now a.ahead a.slot (asked a.wanted) _ c.clashing.ensures c.if-clashing-ne0.false
    _ (rw c.tables_of.ensures at c.first_object.ensures) (ap said_first c.in_default.is)) c.keep_waiting-in_default.ensures

pub start_waiting-requires : goal.start_waiting-requires
start_waiting-requires c =
    (c.requires.0, few_places _ _ _ _ (rw (c.tables_of.ensures, c.in-Some.is) at c.first_object.ensures) (somewhere c.in-Some.first))

pub returns : goal.returns
returns c =
    let a = c.args in
    leaving_as (wakes_there a.text.now a.state.now a.ahead a.slot (asked a.wanted) _ c.clashing.ensures c.if-clashing-ne0.false
    _ (rw (c.tables_of.ensures, c.in-Some.is) at c.first_object.ensures) (somewhere c.in-Some.first)) (record { waiting_are = refl; words_are = c.start_waiting.ensures })
