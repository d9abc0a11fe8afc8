-- `target_there` meets its contract: the number is tested by its kind.
use Rattle.machine_targets.specs.Visits.{there_object, there_class}
use Rattle.machine_targets.proofs.visit.target_there.Goals as goal

pub returns-then-kind-eq-OBJECT_KIND : goal.returns-then-kind-eq-OBJECT_KIND
returns-then-kind-eq-OBJECT_KIND c = there_object _ _ _ c.if-kind-eq-OBJECT_KIND.true _ c.object_count.ensures

pub returns : goal.returns
returns c = there_class _ _ _ c.if-kind-eq-OBJECT_KIND.false _ c.class_count.ensures
