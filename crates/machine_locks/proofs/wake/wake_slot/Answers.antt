-- `wake_slot` meets its contract, by whether the slot waits.
use mathlib.Core.Path.{refl}
use Rattle.machine_words.specs.Said.{asked}
use Rattle.machine_locks.specs.Woken.{leaving_as, leaves_line, wakes_slot}
use Rattle.machine_conflicts.specs.Ahead.{waiting_slot}
use Rattle.machine_locks.proofs.wake.wake_slot.Goals as goal

pub returns-then-not-is_waiting : goal.returns-then-not-is_waiting
returns-then-not-is_waiting c =
    leaving_as (leaves_line _ _ _ _ _ c.is_waiting.ensures c.if-not-is_waiting.true) (record { waiting_are = refl; words_are = refl })

pub waiting_of-requires : goal.waiting_of-requires
waiting_of-requires c = record { slot = waiting_slot _ _ _ c.is_waiting.ensures c.if-not-is_waiting.false; long = c.requires.0 }

pub wake_waiting-requires : goal.wake_waiting-requires
wake_waiting-requires c = (
  record { slot = waiting_slot _ _ _ c.is_waiting.ensures c.if-not-is_waiting.false; long = c.requires.0 },
  c.requires.1,
)

pub returns : goal.returns
returns c =
    let a = c.args in
    leaving_as (wakes_slot a.state.now a.slot a.text.now a.ahead _ c.is_waiting.ensures c.if-not-is_waiting.false (asked c.wanted_in-wanted.result) (rw (c.tables_of.ensures, c.waiting_of.ensures) at c.wanted_in-wanted.ensures))
    c.wake_waiting.ensures
