use mathlib.Core.Path.{◌≡◌}
use Rattle.machine_start.specs.Worked.{with_domains}
use Rattle.machine_start.proofs.fill_domains.Given as goal

abbrev pub invariant-loop-class : goal.invariant-loop-class
invariant-loop-class l = l.tables ≡ with_domains l.initial.tables l.class
