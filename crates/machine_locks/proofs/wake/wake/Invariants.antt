use Prim.Native.Nat.{◌-◌, ◌≤◌}
use mathlib.Core.Path.{◌≡◌}
use lib.ListN.{length}
use Rattle.machine_words.specs.Line.{woken_from}
use Rattle.machine_locks.proofs.wake.wake.Given as goal

abbrev pub invariant-loop-place : goal.invariant-loop-place
invariant-loop-place l =
    (l.place ≤ l.count) × (l.ahead ≤ l.place) × (length l.state ≡ length l.initial.state)
    × (woken_from l.text (record { waiting = l.ahead; words = l.state }) l.place (l.count - l.place) ≡ woken_from l.text (record { waiting = 0; words = l.initial.state }) 0 l.count)
