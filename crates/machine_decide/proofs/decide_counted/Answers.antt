-- `decide_counted` meets its contract: the tests are the definition's; past them the object is one of at most 64.
use Rattle.std.proofs.Common.{ap, ◌∙◌}
use Rattle.machine_words.specs.Row.{answer}
use Rattle.machine_decide.specs.Decides.{decided_answer, decided_misfit, decided_on}
use Rattle.machine_decide.proofs.decide_counted.Goals as goal

pub returns-then-object-count : goal.returns-then-object-count
returns-then-object-count c = ap answer c.get.ensures ∙ decided_answer _ _ _ _ _ _ c.object_count-count.ensures c.get-object.ensures c.if-object-count.true

pub returns-then-count-object : goal.returns-then-count-object
returns-then-count-object c = decided_misfit _ _ _ _ _ _ c.object_count-count.ensures c.get-object.ensures c.if-object-count.false _ c.get-depth.ensures c.if-count-object.true

pub returns : goal.returns
returns c =
    c.activation_turn.ensures
    ∙ decided_on _ _ _ _ _ _ c.object_count-count.ensures c.get-object.ensures c.if-object-count.false _ c.get-depth.ensures c.if-count-object.false
