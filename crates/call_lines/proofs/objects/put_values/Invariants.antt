use Prim.Native.Nat.{◌+◌, ◌*◌, ◌≤◌}
use mathlib.Core.List.{flat_map, map}
use lib.ListN.{length}
use Rattle.output.specs.Append.{Appended}
use Rattle.call_lines.specs.Objects.{value_printed}
use Rattle.call_lines.proofs.objects.put_values.Given as goal

abbrev pub invariant-loop-value : goal.invariant-loop-value
invariant-loop-value l =
    (l.end ≤ l.at + 11 * length l.yielded) × Appended (flat_map value_printed (map (λ v. v.now) l.yielded)) l.initial.out l.at l.end l.out
