-- `leaf_value` meets its contract: each arm is the definition's clause of that leaf, and only a field can be unknown.
use Rattle.machine_words.specs.Turn.{value_in}
use Rattle.machine_evaluate.proofs.leaf_value.Goals as goal

pub returns-in-Literal : goal.returns-in-Literal
unfolding value_in
returns-in-Literal c = rw c.in-Literal.is

pub returns-in-Argument : goal.returns-in-Argument
unfolding value_in
returns-in-Argument c = rw c.in-Argument.is

pub returns-in-Got : goal.returns-in-Got
unfolding value_in
returns-in-Got c = rw c.in-Got.is
