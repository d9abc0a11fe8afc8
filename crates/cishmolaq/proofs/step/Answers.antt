-- `step` meets its contract: what keeps to the definition keeps all that is promised.
use Rattle.cishmolaq.specs.Promises.{promised}
use Rattle.cishmolaq.proofs.step.Goals as goal

pub returns : goal.returns
returns c = promised _ _ _ _ c.step.ensures
