use Prim.Native.Nat.{◌+◌, ◌*◌, ◌≤◌}
use mathlib.Core.Path.{◌≡◌}
use Rattle.output.specs.Append.{Appended}
use Rattle.call_lines.specs.Objects.{values_to, lines_to}
use Rattle.call_lines.proofs.objects.put_lines.Given as goal

abbrev pub invariant-loop-object : goal.invariant-loop-object
invariant-loop-object l =
    (l.end ≤ l.at + 384 * l.object) × (l.base ≡ values_to l.text l.tables l.object) × (l.base ≤ 32 * l.object)
    × Appended (lines_to l.text l.tables l.values l.object) l.initial.out l.at l.end l.out
