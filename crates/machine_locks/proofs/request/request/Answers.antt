-- `request` meets its contract, by the target.
use Rattle.machine_words.specs.Calls.{Lent}
use Rattle.machine_checks.specs.Phases.{leaves_as}
use Rattle.machine_locks.specs.Outcomes.{whole_lent}
use Rattle.machine_locks.specs.Sent.{class_sent, to_class, to_domain}
use Rattle.machine_locks.proofs.request.request.Goals as goal

pub returns-in-Class : goal.returns-in-Class
returns-in-Class c =
    let a = c.args in
    λ values. rw c.in-Class.is (leaves_as (to_class _ _ _ _ _)
    (whole_lent (λ (x : Lent). class_sent x a.slot 1 c.in-Class.class a.place a.argument) a.text.now a.state.now c.send_class.new.state values _
    (c.send_class.ensures values)))

pub returns-in-Domain : goal.returns-in-Domain
returns-in-Domain c =
    let a = c.args in
    λ values. rw c.in-Domain.is (leaves_as (to_domain _ _ _ _ _)
    (whole_lent (λ (x : Lent). class_sent x a.slot 2 c.in-Domain.class a.place a.argument) a.text.now a.state.now c.send_class-in-Domain.new.state values _
    (c.send_class-in-Domain.ensures values)))
