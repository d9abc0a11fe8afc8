-- `step` meets its contract: the tests in the order of the numbers, then the message's next step.
use Rattle.std.proofs.Common.{◌≡◌, Err, refl, ap, rules}
use Rattle.machine_checks.specs.Phase.{phase_number}
use Rattle.machine_checks.specs.Told.{refused_some, leaves_refused}
use Rattle.machine_checks.specs.Phases.{within, refused_first, when_closed, when_idle, when_running, when_waiting, leaves_as}
use Rattle.machine_calls.proofs.step.step.Goals as goal

pub returns-in_err-refusal : goal.returns-in_err-refusal
returns-in_err-refusal c =
    let r : c.from_residual.result ≡ Err c.in_err-refusal.field-0.0 = search rules in
    rw r (leaves_as (refused_first _ _ _ c.in_err-refusal.ensures.refused (refused_some _)) (leaves_refused _ _))

pub returns-in-Closed : goal.returns-in-Closed
returns-in-Closed c =
    leaves_as (when_closed _ _ _ c.in_ok-refusal.ensures.refused refl _ c.in_ok-refusal.ensures.phase (ap phase_number c.in-Closed.is)) (leaves_refused _ _)

pub returns-in-Idle : goal.returns-in-Idle
returns-in-Idle c =
    leaves_as (when_idle _ _ _ c.in_ok-refusal.ensures.refused refl _ c.in_ok-refusal.ensures.phase (ap phase_number c.in-Idle.is)) (leaves_refused _ _)

pub returns-in-Waiting : goal.returns-in-Waiting
returns-in-Waiting c =
    leaves_as (when_waiting _ _ _ c.in_ok-refusal.ensures.refused refl _ c.in_ok-refusal.ensures.phase (ap phase_number c.in-Waiting.is)) (leaves_refused _ _)

pub advance-requires : goal.advance-requires
advance-requires c = within _ _ _ c.in_ok-refusal.ensures.refused refl

pub returns-in-Running : goal.returns-in-Running
returns-in-Running c =
    leaves_as (when_running _ _ _ c.in_ok-refusal.ensures.refused refl _ c.in_ok-refusal.ensures.phase (ap phase_number c.in-Running.is)) c.advance.ensures
