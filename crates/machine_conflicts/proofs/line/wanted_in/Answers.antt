-- `wanted_in` meets its contract: four words of the waiting send, the class and the name from the tables.
use Rattle.machine_conflicts.specs.Ahead.{wanted_read}
use Rattle.machine_conflicts.proofs.line.wanted_in.Goals as goal

pub returns : goal.returns
returns c =
    wanted_read _ _ _ _ _ _ _ _ c.get-kind.ensures c.get-number.ensures c.get-place.ensures c.get-argument.ensures c.class_for-class.ensures c.wanted_of.ensures
