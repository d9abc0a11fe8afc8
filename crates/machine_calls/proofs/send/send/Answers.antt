-- `send` meets its contract: the tests in the order of the numbers, then the request for its locks.
use Rattle.std.proofs.Common.{◌≡◌, Err, refl, rules}
use Rattle.model.specs.Service.{send}
use Rattle.model.specs.Machine.{to, object}
use Rattle.machine_checks.specs.Told.{refused_some, leaves_refused}
use Rattle.machine_checks.specs.Phases.{idle_refused, idle_within, idle_either, leaves_as}
use Rattle.machine_calls.proofs.send.send.Goals as goal

pub returns-in_err-idle_refusal : goal.returns-in_err-idle_refusal
returns-in_err-idle_refusal c =
    let r : c.from_residual.result ≡ Err c.in_err-idle_refusal.field-0.0 = search rules in
    rw r (leaves_as (idle_refused _ _ _ c.in_err-idle_refusal.ensures.refused refl refl (refused_some _)) (leaves_refused _ _))

pub request-requires : goal.request-requires
request-requires c =
    idle_within _ (send _ (to (object 0) 0 0)) _ c.in_ok-idle_refusal.ensures.refused refl refl refl

pub returns : goal.returns
returns c =
    leaves_as (idle_either _ _ _ c.in_ok-idle_refusal.ensures.refused refl refl refl refl) (c.request.ensures c.args.values.now)
