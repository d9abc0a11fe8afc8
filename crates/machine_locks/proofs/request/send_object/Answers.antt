-- `send_object` meets its contract: the object exists.
use Rattle.machine_checks.specs.Told.{leaves_refused}
use Rattle.machine_checks.specs.Phases.{leaves_as}
use Rattle.machine_locks.specs.Sent.{object_none, object_there}
use Rattle.refusals.specs.declared.Refusal.TheVariants.{NothingThere}
use Rattle.machine_locks.proofs.request.send_object.Goals as goal

pub returns-then-object_count-number : goal.returns-then-object_count-number
returns-then-object_count-number c =
    λ values. leaves_as (object_none _ _ _ _ _ _ (rw c.tables_of.ensures at c.object_count.ensures) c.if-object_count-number.true) (leaves_refused _ NothingThere)

pub returns : goal.returns
returns c =
    λ values. leaves_as (object_there _ _ _ _ _ _ _ (rw c.tables_of.ensures at c.object_count.ensures) c.if-object_count-number.false
    (rw c.tables_of-2.ensures at c.class_of-class.ensures)) (c.send_to_object.ensures values)
