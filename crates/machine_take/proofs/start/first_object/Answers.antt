-- `first_object` meets its contract: the body is that of the object's class and the name sent.
use Rattle.std.proofs.Common.{◌≡◌, None, rules}
use Rattle.machine_take.specs.Begun.{first_nowhere, first_past, first_on_law}
use Rattle.machine_take.proofs.start.first_object.Goals as goal

pub returns-then-not-is_sendable : goal.returns-then-not-is_sendable
returns-then-not-is_sendable c = first_nowhere _ _ _ _ c.is_sendable.ensures c.if-not-is_sendable.true

pub returns-then-object_count-object : goal.returns-then-object_count-object
returns-then-object_count-object c =
    first_past _ _ _ _ c.is_sendable.ensures c.if-not-is_sendable.false _ _ c.object_from-object.ensures c.object_count.ensures c.if-object_count-object.true

pub returns-in_err-body : goal.returns-in_err-body
returns-in_err-body c =
    let r : c.from_residual.result ≡ None = search rules in
    rw r (first_on_law _ _ _ _ c.is_sendable.ensures c.if-not-is_sendable.false _ _ c.object_from-object.ensures c.object_count.ensures c.if-object_count-object.false
    _ c.class_of-class.ensures _ c.in_err-body.ensures)

pub returns : goal.returns
returns c =
    first_on_law _ _ _ _ c.is_sendable.ensures c.if-not-is_sendable.false _ _ c.object_from-object.ensures c.object_count.ensures c.if-object_count-object.false
    _ c.class_of-class.ensures _ c.in_ok-body.ensures
