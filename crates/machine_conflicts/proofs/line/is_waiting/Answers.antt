-- `is_waiting` meets its contract: the slot is below 8, and its phase 3.
use Rattle.machine_conflicts.specs.Ahead.{no_slot, slot_waits}
use Rattle.machine_conflicts.proofs.line.is_waiting.Goals as goal

pub returns-then-slot-ge-SLOTS : goal.returns-then-slot-ge-SLOTS
returns-then-slot-ge-SLOTS c = no_slot _ _ c.if-slot-ge-SLOTS.true

pub returns : goal.returns
returns c = slot_waits _ _ c.if-slot-ge-SLOTS.false _ c.phase_of.ensures
