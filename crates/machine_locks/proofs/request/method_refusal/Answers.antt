-- `method_refusal` meets its contract: its tests are the definition's, in their order.
use Rattle.machine_locks.specs.Sent.{no_class, no_method, a_method}
use Rattle.machine_locks.proofs.request.method_refusal.Goals as goal

pub returns-then-class_count-class : goal.returns-then-class_count-class
returns-then-class_count-class c = no_class _ _ _ _ c.class_count.ensures c.if-class_count-class.true

pub returns-then-member_count-place : goal.returns-then-member_count-place
returns-then-member_count-place c =
    no_method _ _ _ _ c.class_count.ensures c.if-class_count-class.false _ c.member_count.ensures c.if-member_count-place.true

pub returns : goal.returns
returns c =
    a_method _ _ _ _ c.class_count.ensures c.if-class_count-class.false _ c.member_count.ensures c.if-member_count-place.false
