use mathlib.Core.List.{flat_map}
use Rattle.output.specs.Each.{numbers}
use Rattle.image.specs.Written.{values_from}
use Rattle.output.specs.Append.{Appended}
use Rattle.image.proofs.write_values.Given as goal

abbrev pub invariant-loop-object : goal.invariant-loop-object
invariant-loop-object l =
    Appended (flat_map (values_from l.text l.tables) (numbers l.object)) l.initial.values 0 l.at l.values
