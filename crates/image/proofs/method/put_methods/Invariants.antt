use mathlib.Core.List.{flat_map}
use Rattle.output.specs.Each.{numbers}
use Rattle.output.specs.Append.{Appended}
use Rattle.image.specs.Cells.{cell_from}
use Rattle.image.proofs.method.put_methods.Given as goal

abbrev pub invariant-loop-method : goal.invariant-loop-method
invariant-loop-method l =
    Appended (flat_map (cell_from l.text l.tables l.part l.class) (numbers l.method)) l.initial.out l.at l.end l.out
