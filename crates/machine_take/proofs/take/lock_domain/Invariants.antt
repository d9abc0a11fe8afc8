use mathlib.Core.Path.{◌≡◌}
use Prim.Native.Nat.{◌≤◌}
use lib.ListN.{take, drop}
use lib.Seq.{sets}
use Rattle.machine_words.specs.Line.{tables_of}
use Rattle.machine_words.specs.Said.{asked}
use Rattle.machine_take.specs.Taken.{locked_below}
use Rattle.machine_take.proofs.take.lock_domain.Given as goal

abbrev pub invariant-loop-class : goal.invariant-loop-class
invariant-loop-class l =
    (l.class ≤ l.count) × (l.state ≡ sets l.initial.state l.start (locked_below l.text (tables_of l.initial.state) (asked l.wanted) (take l.size (drop l.start l.initial.state)) l.class))
