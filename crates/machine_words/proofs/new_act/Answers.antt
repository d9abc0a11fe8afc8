-- Five stores, in the definition's order.
use Rattle.machine_words.specs.Row.{new_act}
use Rattle.machine_words.proofs.new_act.Goals as goal

pub returns : goal.returns
unfolding new_act
returns c = cc
