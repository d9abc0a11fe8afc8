-- The word's place in the row is the definition's.
use Rattle.machine_words.specs.Row.{act}
use Rattle.machine_words.proofs.act.Goals as goal

pub returns : goal.returns
unfolding act
returns c = cc
