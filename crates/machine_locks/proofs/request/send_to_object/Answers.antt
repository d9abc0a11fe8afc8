-- `send_to_object` meets its contract: as `send_to` does, and an object is no domain.
use mathlib.Core.Path.{◌≡◌, refl}
use Rattle.std.proofs.Common.{Err, rules}
use Rattle.machine_checks.specs.Told.{leaves_refused, refused_some}
use Rattle.machine_checks.specs.Phases.{leaves_as}
use Rattle.machine_locks.specs.Sent.{sent_refused, sent_there, few, to_object, object_lacks}
use Rattle.machine_locks.proofs.request.send_to_object.Goals as goal

pub returns-in_err-method_refusal : goal.returns-in_err-method_refusal
returns-in_err-method_refusal c =
    let r : c.from_residual.result ≡ Err c.in_err-method_refusal.field-0.0 = search rules in
    λ values. rw r (leaves_as (sent_refused _ _ _ _ _ _ _ _ (rw c.tables_of.ensures at c.in_err-method_refusal.ensures) (refused_some _)) (leaves_refused _ _))

pub grant_object-requires : goal.grant_object-requires
grant_object-requires c =
    let k = few _ _ _ _ (rw c.tables_of.ensures at c.in_ok-method_refusal.ensures) refl in
    (c.requires.0, to_object _ _ _ _ _ c.requires.1 k _ (rw c.tables_of-2.ensures at c.wanted_of-wanted.ensures))

pub returns : goal.returns
returns c =
    λ values. leaves_as (sent_there _ _ _ _ _ _ _ _ (rw c.tables_of.ensures at c.in_ok-method_refusal.ensures) refl _ (rw c.tables_of-2.ensures at c.wanted_of-wanted.ensures)
    (object_lacks _ _ _ _ _ _ _ (rw c.tables_of-2.ensures at c.wanted_of-wanted.ensures))) (c.grant_object.ensures values)
