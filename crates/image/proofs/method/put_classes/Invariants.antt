use mathlib.Core.List.{flat_map}
use Rattle.output.specs.Each.{numbers}
use Rattle.output.specs.Append.{Appended}
use Rattle.image.specs.Cells.{methods_from}
use Rattle.image.proofs.method.put_classes.Given as goal

abbrev pub invariant-loop-class : goal.invariant-loop-class
invariant-loop-class l =
    Appended (flat_map (methods_from l.text l.tables l.part) (numbers l.class)) l.initial.out l.at l.end l.out
