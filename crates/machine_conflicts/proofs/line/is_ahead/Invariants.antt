use Prim.Native.Nat.{◌≤◌}
use mathlib.Core.Path.{◌≡◌}
use mathlib.Core.Bool.{false}
use lib.Dec.{eqb}
use Rattle.model.specs.Base.{any, upto}
use Rattle.machine_words.specs.Line.{slot_at}
use Rattle.machine_conflicts.proofs.line.is_ahead.Given as goal

abbrev pub invariant-loop-place : goal.invariant-loop-place
invariant-loop-place l = (l.place ≤ l.count) × (any (eqb l.slot) (upto (slot_at l.state) l.place) ≡ false)
