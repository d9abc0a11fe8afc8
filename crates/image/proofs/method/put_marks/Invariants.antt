use Rattle.model.specs.Base.{upto}
use Rattle.output.specs.Append.{Appended}
use Rattle.image.specs.Cells.{mark_of}
use Rattle.image.proofs.method.put_marks.Given as goal

abbrev pub invariant-loop-place : goal.invariant-loop-place
invariant-loop-place l =
    Appended (upto (mark_of l.first l.second l.third l.marks) l.place) l.initial.out l.at l.end l.out
