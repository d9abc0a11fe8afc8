-- `send_class` meets its contract: the class exists.
use Rattle.machine_checks.specs.Told.{leaves_refused}
use Rattle.machine_checks.specs.Phases.{leaves_as}
use Rattle.machine_locks.specs.Sent.{class_none, class_there}
use Rattle.refusals.specs.declared.Refusal.TheVariants.{NothingThere}
use Rattle.machine_locks.proofs.request.send_class.Goals as goal

pub returns-then-class_count-class : goal.returns-then-class_count-class
returns-then-class_count-class c =
    λ values. leaves_as (class_none _ _ _ _ _ _ _ (rw c.tables_of.ensures at c.class_count.ensures) c.if-class_count-class.true) (leaves_refused _ NothingThere)

pub returns : goal.returns
returns c =
    λ values. leaves_as (class_there _ _ _ _ _ _ _ (rw c.tables_of.ensures at c.class_count.ensures) c.if-class_count-class.false) (c.send_to.ensures values)
