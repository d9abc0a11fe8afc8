-- `send_to` meets its contract: the class and the method exist, in each class of a domain; then the send is granted, or answers 40.
use native.Mathlib.Omega.{arith}
use mathlib.Core.Path.{◌≡◌, refl, sym, ap, ◌∙◌}
use Rattle.machine_checks.specs.Phases.{leaves_as}
use Rattle.std.proofs.Common.{Err, rules}
use Rattle.machine_checks.specs.Told.{leaves_refused, refused_some}
use Rattle.refusals.specs.declared.Refusal.TheVariants.{Misfit}
use Rattle.machine_locks.specs.Sent.{sent_refused, sent_lacking, sent_there, few}
use Rattle.machine_locks.proofs.request.send_to.Goals as goal

pub returns-in_err-method_refusal : goal.returns-in_err-method_refusal
returns-in_err-method_refusal c =
    let r : c.from_residual.result ≡ Err c.in_err-method_refusal.field-0.0 = search rules in
    λ values. rw r (leaves_as (sent_refused _ _ _ _ _ _ _ _ (rw c.tables_of-tables.ensures at c.in_err-method_refusal.ensures) (refused_some _)) (leaves_refused _ _))

pub returns-then-domain_lacks : goal.returns-then-domain_lacks
returns-then-domain_lacks c =
    λ values. leaves_as (sent_lacking _ _ _ _ _ _ _ _ (rw c.tables_of-tables.ensures at c.in_ok-method_refusal.ensures) refl _ (rw c.tables_of-tables.ensures at c.wanted_of-wanted.ensures)
    (sym (rw c.tables_of-tables.ensures at c.domain_lacks.ensures) ∙ c.if-domain_lacks.true))
    (leaves_refused _ Misfit)

pub grant-requires : goal.grant-requires
grant-requires c =
    let k = few _ _ _ _ (rw c.tables_of-tables.ensures at c.in_ok-method_refusal.ensures) refl in
    (c.requires, omega (arith, k, ap (λ q. q.place) (rw c.tables_of-tables.ensures at c.wanted_of-wanted.ensures)))

pub returns : goal.returns
returns c =
    λ values. leaves_as (sent_there _ _ _ _ _ _ _ _ (rw c.tables_of-tables.ensures at c.in_ok-method_refusal.ensures) refl _ (rw c.tables_of-tables.ensures at c.wanted_of-wanted.ensures)
    (sym (rw c.tables_of-tables.ensures at c.domain_lacks.ensures) ∙ c.if-domain_lacks.false)) (c.grant.ensures values)
