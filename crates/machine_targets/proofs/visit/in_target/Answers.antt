-- `in_target` meets its contract: the tests of the kind and of the class are the definition's.
use mathlib.Core.Path.{◌∙◌}
use Rattle.machine_targets.specs.Visits.{target_object, target_lost, target_class, target_domain}
use Rattle.machine_targets.proofs.visit.in_target.Goals as goal

pub returns-then-kind-eq-OBJECT_KIND : goal.returns-then-kind-eq-OBJECT_KIND
returns-then-kind-eq-OBJECT_KIND c = target_object _ _ _ _ c.if-kind-eq-OBJECT_KIND.true

pub returns-then-class_count-class : goal.returns-then-class_count-class
returns-then-class_count-class c =
    target_lost _ _ _ _ c.if-kind-eq-OBJECT_KIND.false _ _ c.class_of-class.ensures c.class_count.ensures c.if-class_count-class.true

pub returns-then-kind-eq-CLASS_KIND : goal.returns-then-kind-eq-CLASS_KIND
returns-then-kind-eq-CLASS_KIND c =
    target_class _ _ _ _ c.if-kind-eq-OBJECT_KIND.false _ _ c.class_of-class.ensures c.class_count.ensures c.if-class_count-class.false c.if-kind-eq-CLASS_KIND.true

pub returns : goal.returns
returns c =
    c.has_bit.ensures
    ∙ target_domain _ _ _ _ c.if-kind-eq-OBJECT_KIND.false _ _ c.class_of-class.ensures c.class_count.ensures c.if-class_count-class.false c.if-kind-eq-CLASS_KIND.false _ c.domain.ensures
