use Rattle.std.proofs.Common.{◌≡◌, ℕ, ◌<◌, true, length}
use Rattle.laws.specs.Bits.{bit}
use Rattle.machine_undo.specs.Unlocked.{less_than}
use Rattle.machine_undo.proofs.release.clear_locks.Given as goal

abbrev pub invariant-loop-left : goal.invariant-loop-left
invariant-loop-left l =
    (length l.row ≡ length l.initial.row) × ((d : ℕ) → bit l.left d ≡ true → bit l.initial.left d ≡ true) × (l.row ≡ less_than l.initial.row l.initial.left l.left) × (l.left < 4294967296)

abbrev pub decreases-loop-left : goal.decreases-loop-left
decreases-loop-left l = l.left
