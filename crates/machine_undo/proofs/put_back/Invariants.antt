use Rattle.std.proofs.Common.{◌≡◌, ◌-◌, ◌≤◌, length}
use Rattle.machine_undo.specs.Over.{over}
use Rattle.model.specs.Undo.{put_back}
use Rattle.machine_words.specs.Row.{note_at}
use Rattle.machine_undo.proofs.put_back.Given as goal

abbrev pub invariant-loop-i : goal.invariant-loop-i
invariant-loop-i l = (l.i ≤ length l.initial.values) × (length l.values ≡ length l.initial.values) × (l.values ≡ over l.i (put_back (note_at l.row) l.initial.values) l.initial.values)

abbrev pub decreases-loop-i : goal.decreases-loop-i
decreases-loop-i l = length l.initial.values - l.i
