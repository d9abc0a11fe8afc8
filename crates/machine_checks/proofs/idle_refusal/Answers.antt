-- `idle_refusal` meets its contract: what every call tests first, then the slot's phase.
use Rattle.std.proofs.Common.{◌≡◌, Err, refl, ap, ◌∙◌, rules}
use Rattle.refusals.specs.Numbers.{refusal_in}
use Rattle.machine_checks.specs.Told.{refused_some}
use Rattle.machine_checks.specs.Phase.{phase_number, waiting_is, running_is}
use Rattle.machine_checks.specs.Phases.{idle_first, idle_waiting, idle_running, idle_none}
use Rattle.machine_checks.proofs.idle_refusal.Goals as goal

pub returns-in_err-phase-clause-refused : goal.returns-in_err-phase-clause-refused
returns-in_err-phase-clause-refused c =
    let r : c.from_residual.result ≡ Err c.in_err-phase.field-0.0 = search rules in
    ap refusal_in r ∙ idle_first _ _ _ c.in_err-phase.ensures.refused (refused_some _)

pub returns-in-Waiting-clause-refused : goal.returns-in-Waiting-clause-refused
returns-in-Waiting-clause-refused c =
    idle_waiting _ _ _ c.in_ok-phase.ensures.refused refl _ c.in_ok-phase.ensures.phase (ap phase_number c.in-Waiting.is)

pub returns-in-Running-clause-refused : goal.returns-in-Running-clause-refused
returns-in-Running-clause-refused c =
    idle_running _ _ _ c.in_ok-phase.ensures.refused refl _ c.in_ok-phase.ensures.phase (ap phase_number c.in-Running.is)

pub returns-in_default-clause-refused : goal.returns-in_default-clause-refused
returns-in_default-clause-refused c =
    idle_none _ _ _ c.in_ok-phase.ensures.refused refl _ c.in_ok-phase.ensures.phase
    (λ e. c.in_default.not-Waiting (waiting_is _ e)) (λ e. c.in_default.not-Running (running_is _ e))
