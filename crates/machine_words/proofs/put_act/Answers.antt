-- The word's place in the row is the definition's.
use Rattle.machine_words.specs.Row.{with_act}
use Rattle.machine_words.proofs.put_act.Goals as goal

pub returns : goal.returns
unfolding with_act
returns c = cc
