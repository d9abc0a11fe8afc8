use Rattle.std.proofs.Common.{◌≡◌, ◌<◌, length}
use Rattle.machine_words.specs.Row.{zeroed}
use Rattle.machine_undo.specs.Freed.{bit_from}
use Rattle.machine_undo.proofs.clear_marked.Given as goal

abbrev pub invariant-loop-left : goal.invariant-loop-left
invariant-loop-left l =
    (length l.row ≡ length l.initial.row) × (zeroed (bit_from l.first l.left) l.row ≡ zeroed (bit_from l.first l.marks) l.initial.row) × (l.left < 4294967296)

abbrev pub decreases-loop-left : goal.decreases-loop-left
decreases-loop-left l = l.left
