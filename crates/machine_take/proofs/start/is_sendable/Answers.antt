-- `is_sendable` meets its contract: its tests are the definition's.
use Rattle.machine_take.specs.Begun.{sendable_by}
use Rattle.machine_take.proofs.start.is_sendable.Goals as goal

pub returns : goal.returns
returns c =
    sendable_by _ _ _ _ _ c.target_there.ensures c.class_count.ensures c.member_count.ensures
