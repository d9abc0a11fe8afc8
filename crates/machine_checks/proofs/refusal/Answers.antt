-- `refusal` meets its contract: what does not fit, then the slot, then its phase.
use Rattle.std.proofs.Common.{◌≡◌, Err, refl, ap, ◌∙◌, rules}
use Rattle.refusals.specs.Numbers.{refusal_in}
use Rattle.machine_checks.specs.Told.{refused_some}
use Rattle.machine_checks.specs.Phases.{first_misfit, first_slot, first_phase}
use Rattle.machine_checks.proofs.refusal.Goals as goal

pub returns-in_err-misfit-clause-refused : goal.returns-in_err-misfit-clause-refused
returns-in_err-misfit-clause-refused c =
    let r : c.from_residual.result ≡ Err c.in_err-misfit.field-0.0 = search rules in
    ap refusal_in r ∙ first_misfit _ _ _ c.in_err-misfit.ensures (refused_some _)

pub returns-then-slot-ge-SLOTS-clause-refused : goal.returns-then-slot-ge-SLOTS-clause-refused
returns-then-slot-ge-SLOTS-clause-refused c = first_slot _ _ _ c.in_ok-misfit.ensures refl c.if-slot-ge-SLOTS.true

pub returns-clause-refused : goal.returns-clause-refused
returns-clause-refused c =
    ap refusal_in c.try_from.ensures
    ∙ first_phase _ _ _ c.in_ok-misfit.ensures refl c.if-slot-ge-SLOTS.false _ c.phase_of.ensures
