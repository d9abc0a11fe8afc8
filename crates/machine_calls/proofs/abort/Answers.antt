-- `abort` meets its contract: the tests in the order of the numbers, then the values are put back and the slot is freed.
use Rattle.std.proofs.Common.{◌≡◌, Err, refl, ap, rules}
use Rattle.machine_words.specs.Calls.{lending_same}
use Rattle.machine_checks.specs.Phase.{phase_number, ready_is}
use Rattle.machine_checks.specs.Told.{refused_some, leaves_refused}
use Rattle.machine_checks.specs.Phases.{within, refused_first, when_closed, when_waiting, when_ready, leaves_as}
use Rattle.machine_calls.proofs.abort.Goals as goal

pub returns-in_err-refusal : goal.returns-in_err-refusal
returns-in_err-refusal c =
    let r : c.from_residual.result ≡ Err c.in_err-refusal.field-0.0 = search rules in
    rw r (leaves_as (refused_first _ _ _ c.in_err-refusal.ensures.refused (refused_some _)) (leaves_refused _ _))

pub returns-in-Closed : goal.returns-in-Closed
returns-in-Closed c =
    leaves_as (when_closed _ _ _ c.in_ok-refusal.ensures.refused refl _ c.in_ok-refusal.ensures.phase (ap phase_number c.in-Closed.is)) (leaves_refused _ _)

pub roll_back_waiting-requires : goal.roll_back_waiting-requires
roll_back_waiting-requires c = within _ _ _ c.in_ok-refusal.ensures.refused refl

pub returns-in-Waiting : goal.returns-in-Waiting
returns-in-Waiting c =
    leaves_as (when_waiting _ _ _ c.in_ok-refusal.ensures.refused refl _ c.in_ok-refusal.ensures.phase (ap phase_number c.in-Waiting.is))
    (record { says = refl; left = lending_same refl c.roll_back_waiting.ensures.0 c.roll_back_waiting.ensures.1 })

pub roll_back-requires : goal.roll_back-requires
roll_back-requires c = within _ _ _ c.in_ok-refusal.ensures.refused refl

pub returns-in-Idle : goal.returns-in-Idle
returns-in-Idle c =
    let ready = ready_is _ c.in-Idle.is in
    leaves_as (when_ready _ _ _ c.in_ok-refusal.ensures.refused refl _ c.in_ok-refusal.ensures.phase _ refl refl ready.0 ready.1)
    (record { says = refl; left = lending_same refl c.roll_back.ensures.0 c.roll_back.ensures.1 })
