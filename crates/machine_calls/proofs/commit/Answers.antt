-- `commit` meets its contract: the tests by number, then the slot is freed.
use Rattle.std.proofs.Common.{◌≡◌, Err, refl, ap, rules}
use Rattle.model.specs.Service.{commit}
use Rattle.machine_words.specs.Calls.{lending_same}
use Rattle.machine_checks.specs.Phase.{phase_number, closed_is}
use Rattle.machine_checks.specs.Told.{refused_some, leaves_refused}
use Rattle.machine_checks.specs.Phases.{idle_refused, idle_within, idle_closed, idle_open, leaves_as}
use Rattle.machine_calls.proofs.commit.Goals as goal

pub returns-in_err-idle_refusal : goal.returns-in_err-idle_refusal
returns-in_err-idle_refusal c =
    let r : c.from_residual.result ≡ Err c.in_err-idle_refusal.field-0.0 = search rules in
    rw r (leaves_as (idle_refused _ _ _ c.in_err-idle_refusal.ensures.refused refl refl (refused_some _)) (leaves_refused _ _))

pub returns-in-Closed : goal.returns-in-Closed
returns-in-Closed c =
    leaves_as (idle_closed _ _ _ c.in_ok-idle_refusal.ensures.refused refl refl refl _ c.in_ok-idle_refusal.ensures.phase (ap phase_number c.in-Closed.is)) (leaves_refused _ _)

pub close_slot-requires : goal.close_slot-requires
close_slot-requires c =
    idle_within _ (commit _) _ c.in_ok-idle_refusal.ensures.refused refl refl refl

pub returns : goal.returns
returns c =
    leaves_as (idle_open _ _ _ c.in_ok-idle_refusal.ensures.refused refl refl refl _ c.in_ok-idle_refusal.ensures.phase (λ e. c.in_default.not-Closed (closed_is _ e)))
    (record { says = refl; left = lending_same refl c.close_slot.ensures refl })
