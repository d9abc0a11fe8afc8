use Rattle.std.proofs.Common.{◌≡◌, ◌≤◌, ℕ, List, Bool}
use Rattle.machine_words.specs.Line.{blocks}
use Rattle.machine_conflicts.specs.Way.{gathered, besides}
use Rattle.machine_conflicts.specs.Tested.{Tests}
use Rattle.machine_conflicts.proofs.clash.blocking.Given as goal

abbrev pub invariant-loop-other : goal.invariant-loop-other
invariant-loop-other g l =
    (l.other ≤ 8) × ((p : List ℕ → Bool) → Tests g.F.Fn l.test p → l.mask ≡ gathered (besides l.slot (blocks l.state l.ahead p)) l.other)
