use Prim.Native.Nat.{◌-◌, ◌≤◌, max}
use mathlib.Core.Path.{◌≡◌}
use Rattle.machine_words.specs.Turn.{in_target, first_from}
use Rattle.machine_targets.proofs.visit.object_among.Given as goal

abbrev pub invariant-loop-object : goal.invariant-loop-object
invariant-loop-object l =
    (l.object ≤ max l.count l.from) × (first_from (in_target l.tables l.kind l.number) l.object (l.count - l.object) ≡ first_from (in_target l.tables l.kind l.number) l.from (l.count - l.from))
