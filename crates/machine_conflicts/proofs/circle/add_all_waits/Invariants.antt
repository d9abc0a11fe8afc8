use Prim.Native.Nat.{◌≤◌}
use Rattle.machine_conflicts.specs.Circle.{Adding}
use Rattle.machine_conflicts.proofs.circle.add_all_waits.Given as goal

abbrev pub invariant-loop-place : goal.invariant-loop-place
invariant-loop-place l = (l.place ≤ l.count) × Adding l.text l.state l.count l.initial.masks l.place l.masks
