use Prim.Native.Nat.{◌+◌, ◌-◌}
use mathlib.Core.Path.{◌≡◌}
use lib.ListN.{length, drop}
use Rattle.text_lex.specs.Scan.{is_byte, before}
use Rattle.read_lines.specs.Below.{lines_at, is_later}
use Rattle.read_lines.proofs.is_later.Given as goal

abbrev pub invariant-loop-end : goal.invariant-loop-end
invariant-loop-end l = (l.end ≡ l.at + before (is_byte 10) (drop l.at l.text)) × (is_later l.method (lines_at l.text l.at) ≡ is_later l.method (lines_at l.text l.from))

abbrev pub decreases-loop-end : goal.decreases-loop-end
decreases-loop-end l = length l.text - l.at
