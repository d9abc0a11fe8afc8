use Prim.Native.Nat.{◌+◌, ◌-◌, ◌*◌, ◌≤◌}
use mathlib.Core.Path.{◌≡◌}
use lib.ListN.{length, drop}
use Rattle.layout.specs.Layout.{table_words}
use Rattle.model.specs.Library.{nothing}
use Rattle.model.specs.Read.{judged}
use Rattle.text_lex.specs.Scan.{is_byte, before}
use Rattle.catalog.specs.View.{library_of}
use Rattle.read_lines.specs.Below.{lines_at}
use Rattle.reader.proofs.judge.Given as goal

abbrev pub invariant-loop-end : goal.invariant-loop-end
invariant-loop-end l =
    (l.number ≤ l.at + 1) × (l.end ≡ l.at + before (is_byte 10) (drop l.at l.text)) × (length l.tables ≡ table_words)
    × (length (library_of l.text l.tables).statements * 8 ≤ l.at)
    × (judged (library_of l.text l.tables) l.number (lines_at l.text l.at) ≡ judged nothing 1 (lines_at l.text 0))

abbrev pub decreases-loop-end : goal.decreases-loop-end
decreases-loop-end l = length l.text - l.at
