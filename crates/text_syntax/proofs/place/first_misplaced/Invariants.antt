use Prim.Native.Nat.{◌+◌, ◌-◌, ◌≤◌}
use mathlib.Core.Path.{◌≡◌}
use lib.ListN.{length, drop}
use Rattle.model.specs.Form.{at_start}
use Rattle.text_lex.specs.Scan.{is_byte, before}
use Rattle.text_syntax.specs.Places.{said_place, pass_from}
use Rattle.text_syntax.proofs.place.first_misplaced.Given as goal

abbrev pub invariant-loop-end : goal.invariant-loop-end
invariant-loop-end l = record {
  counted : 1 ≤ l.number;
  few : l.number ≤ l.at + 1;
  ends : l.end ≡ l.at + before (is_byte 10) (drop l.at l.text);
  pass : pass_from l.number (said_place l.place) l.text l.at ≡ pass_from 1 at_start l.text 0;
}

abbrev pub decreases-loop-end : goal.decreases-loop-end
decreases-loop-end l = length l.text - l.at
