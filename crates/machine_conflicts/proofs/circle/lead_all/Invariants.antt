use Prim.Native.Nat.{◌≤◌}
use Rattle.model.specs.Base.{leads}
use Rattle.machine_conflicts.specs.Circle.{relation, Relates}
use Rattle.machine_conflicts.proofs.circle.lead_all.Given as goal

abbrev pub invariant-loop-way : goal.invariant-loop-way
invariant-loop-way l = (l.way ≤ 8) × Relates (leads (relation l.initial.masks) l.way) l.masks
