-- `add_waits` meets its contract: a slot that waits gets its mask.
use native.Mathlib.Omega.{arith}
use Rattle.machine_conflicts.specs.Ahead.{waiting_slot}
use Rattle.machine_conflicts.specs.Circle.{waits_not, waits_slot}
use Rattle.machine_conflicts.proofs.circle.add_waits.Goals as goal

pub returns-then-not-is_waiting : goal.returns-then-not-is_waiting
returns-then-not-is_waiting c =
    waits_not _ _ _ c.args.masks.now c.told-masks _ c.slot_at-slot.ensures _ c.is_waiting.ensures c.if-not-is_waiting.true

pub waits_for-mask-requires : goal.waits_for-mask-requires
waits_for-mask-requires c =
    (record { slot = waiting_slot _ _ _ c.is_waiting.ensures c.if-not-is_waiting.false; long = c.requires.0 }, omega (arith, c.requires.1))

pub returns : goal.returns
returns c =
    let z = c.if-not-is_waiting.false in
    waits_slot _ _ _ c.args.masks.now c.told-masks _ c.slot_at-slot.ensures _ c.is_waiting.ensures z (waiting_slot _ _ _ c.is_waiting.ensures z)
    _ c.waits_for-mask.ensures _ c.add_mask.ensures
