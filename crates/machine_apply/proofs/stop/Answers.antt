-- `stop` meets its contract: the values are put back and the row is cleared.
use Rattle.std.proofs.Common.{refl}
use Rattle.machine_words.specs.Row.{carried}
use Rattle.machine_apply.proofs.stop.Goals as goal

pub returns : goal.returns
unfolding carried
returns c =
    record { says = refl; row_is = c.roll_back.ensures.0; values_are = c.roll_back.ensures.1 }
