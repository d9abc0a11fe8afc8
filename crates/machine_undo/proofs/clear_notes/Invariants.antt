use Rattle.std.proofs.Common.{◌≡◌, ◌-◌, ◌/◌, ◌≤◌, length}
use Rattle.layout.specs.Layout.{values_most}
use Rattle.machine_words.specs.Row.{unnoted}
use Rattle.machine_undo.specs.Over.{over}
use Rattle.machine_undo.specs.Freed.{word_at}
use Rattle.machine_undo.proofs.clear_notes.Given as goal

abbrev pub invariant-loop-word : goal.invariant-loop-word
invariant-loop-word l = (l.word ≤ values_most / 32) × (length l.row ≡ length l.initial.row) × (l.row ≡ over (word_at l.word) (unnoted l.initial.row) l.initial.row)

abbrev pub decreases-loop-word : goal.decreases-loop-word
decreases-loop-word l = values_most / 32 - l.word
