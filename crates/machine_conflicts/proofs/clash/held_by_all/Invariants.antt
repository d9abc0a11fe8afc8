use mathlib.Core.Path.{◌≡◌}
use Prim.Native.Nat.{◌≤◌}
use Rattle.machine_conflicts.specs.Holders.{held_upto}
use Rattle.machine_conflicts.proofs.clash.held_by_all.Given as goal

abbrev pub invariant-loop-slot : goal.invariant-loop-slot
invariant-loop-slot l = (l.slot ≤ 8) × (l.held ≡ held_upto l.state l.word l.class l.slot)
