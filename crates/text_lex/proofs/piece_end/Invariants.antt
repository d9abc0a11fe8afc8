use Prim.Native.Nat.{◌+◌}
use mathlib.Core.Path.{◌≡◌}
use lib.ListN.{drop}
use Rattle.text_lex.specs.Scan.{is_byte, before}
use Rattle.text_lex.proofs.piece_end.Given as goal

abbrev pub invariant-loop-i : goal.invariant-loop-i
invariant-loop-i l = l.i + before (is_byte l.divider) (drop l.i l.text) ≡ l.at + before (is_byte l.divider) (drop l.at l.text)
