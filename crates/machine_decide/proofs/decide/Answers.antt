-- `decide` meets its contract: a count above 16 bits fits no turn, and any other is handed on.
use Rattle.std.proofs.Common.{◌∙◌}
use Rattle.machine_decide.specs.Decides.{decided_past, decided_counted}
use Rattle.machine_decide.proofs.decide.Goals as goal

pub returns-then-steps-gt-STEPS_MOST : goal.returns-then-steps-gt-STEPS_MOST
returns-then-steps-gt-STEPS_MOST c = decided_past _ _ _ _ _ c.get-steps.ensures c.if-steps-gt-STEPS_MOST.true

pub returns : goal.returns
returns c = c.decide_counted.ensures ∙ decided_counted _ _ _ _ _ c.get-steps.ensures c.if-steps-gt-STEPS_MOST.false
