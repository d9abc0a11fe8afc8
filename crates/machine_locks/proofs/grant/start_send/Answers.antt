-- `start_send` meets its contract: 24 where the message starts nowhere; or the locks and then the message.
use mathlib.Core.Path.{refl, ap}
use Rattle.machine_words.specs.Line.{row_of}
use Rattle.machine_words.specs.Calls.{lending, lending_same}
use Rattle.machine_checks.specs.Lent.{row_size}
use Rattle.machine_checks.specs.Phases.{leaves_as}
use Rattle.machine_checks.specs.Told.{leaves_refused}
use Rattle.refusals.specs.declared.Refusal.TheVariants.{Misfit}
use Rattle.machine_locks.specs.Granted.{starts_nowhere, starts_there, lock_at, locked_entered}
use Rattle.machine_take.specs.Begun.{somewhere}
use Rattle.machine_words.specs.Said.{asked, said_first}
use Rattle.machine_locks.proofs.grant.start_send.Goals as goal

pub returns-in_default : goal.returns-in_default
returns-in_default c =
    λ values. leaves_as (starts_nowhere _ _ _ _ (rw c.tables_of.ensures at c.first_object.ensures) (ap said_first c.in_default.is)) (leaves_refused _ Misfit)

pub returns : goal.returns
unfolding row_of
returns c =
    let a = c.args in
    λ values. leaves_as (starts_there (lending a.text.now a.state.now values) a.slot (asked a.wanted) _ (rw (c.tables_of.ensures, c.in-Some.is) at c.first_object.ensures) (somewhere c.in-Some.first))
    (record {
      says = refl;
      left = lending_same refl (locked_entered a.text.now a.state.now a.slot c.requires.0 (asked a.wanted) _ _ _ (row_of a.state.now a.slot) (row_size _ _ c.requires.0)
          (lock_at _ _ _ _ _ _ c.row_range-start.ensures.0 c.lock.ensures) c.start_message.ensures) refl;
    })
