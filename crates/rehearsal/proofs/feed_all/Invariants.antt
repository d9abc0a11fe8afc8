use Prim.Native.Nat.{◌*◌, ◌≤◌}
use mathlib.Core.Path.{◌≡◌}
use lib.ListN.{length, drop}
use Rattle.machine_words.specs.Calls.{lending}
use Rattle.call_lines.specs.Lent.{on_lent}
use Rattle.rehearsal.specs.Parts.{fed}
use Rattle.rehearsal.specs.Feeds.{widest, reached, holding, held_after}
use Rattle.rehearsal.proofs.feed_all.Given as goal

abbrev pub invariant-loop-byte : goal.invariant-loop-byte
invariant-loop-byte l =
    (l.begun ≤ length l.initial.line) × (l.size ≤ widest * l.byte-index)
    × (fed on_lent (length l.initial.line) (reached (lending l.text l.state l.values) l.line l.begun l.out l.size) (drop l.byte-index l.part)
    ≡ fed on_lent (length l.initial.line) (reached (lending l.text l.initial.state l.initial.values) l.initial.line l.kept l.initial.out 0) l.part)
    × (held_after (holding l.line l.begun) (drop l.byte-index l.part) ≡ held_after (holding l.initial.line l.kept) l.part) × (drop l.size l.out ≡ drop l.size l.initial.out)
