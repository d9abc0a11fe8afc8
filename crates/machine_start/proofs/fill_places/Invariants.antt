use mathlib.Core.Path.{◌≡◌}
use Rattle.machine_start.specs.Worked.{first_value, with_places}
use Rattle.machine_start.proofs.fill_places.Given as goal

abbrev pub invariant-loop-object : goal.invariant-loop-object
invariant-loop-object l =
    (l.tables ≡ with_places l.initial.tables l.object) × (l.values ≡ first_value l.initial.tables l.object)
