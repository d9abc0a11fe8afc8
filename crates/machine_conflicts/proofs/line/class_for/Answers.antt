-- `class_for` meets its contract, by the kind of the target.
use Rattle.machine_conflicts.specs.Ahead.{class_one, class_own}
use Rattle.machine_conflicts.proofs.line.class_for.Goals as goal

pub returns-then-kind-eq-OBJECT_KIND : goal.returns-then-kind-eq-OBJECT_KIND
returns-then-kind-eq-OBJECT_KIND c = class_one _ _ _ _ c.if-kind-eq-OBJECT_KIND.true c.class_of.ensures

pub returns : goal.returns
returns c = class_own _ _ _ c.if-kind-eq-OBJECT_KIND.false
