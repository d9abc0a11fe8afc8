use Prim.Native.Nat.{◌≤◌}
use Rattle.machine_conflicts.specs.Circle.{ThroughBelow}
use Rattle.machine_conflicts.proofs.circle.lead_through.Given as goal

abbrev pub invariant-loop-slot : goal.invariant-loop-slot
invariant-loop-slot l = (l.slot ≤ 8) × ThroughBelow l.slot l.way l.initial.masks l.masks
