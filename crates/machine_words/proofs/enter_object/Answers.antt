-- Four stores and a new activation, in the definition's order.
use Rattle.machine_words.specs.Row.{object_row}
use Rattle.machine_words.proofs.enter_object.Goals as goal

pub returns : goal.returns
unfolding object_row
returns c = cc
