-- The number and the line are those of the verdict.
use Rattle.std.proofs.Common.{◌∙◌}
use Rattle.abi.specs.Laws.{tells_accepted, tells_refused}
use Rattle.abi.proofs.cishmolaq_check.Goals as goal

pub returns-in-Ok : goal.returns-in-Ok
returns-in-Ok c = tells_accepted c.check.ensures c.in-Ok.is c.told.ensures.value c.told.ensures.detail_after

pub returns-in-Err : goal.returns-in-Err
returns-in-Err c =
    let told = c.told-in-Err.ensures in
    tells_refused c.check.ensures _ c.in-Err.is (told.value ∙ c.number.ensures) told.detail_after
