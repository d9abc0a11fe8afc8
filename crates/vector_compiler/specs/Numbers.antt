-- The marks of the worklist as numbers: 0 not met, 1 met, 2 followed.
use Rattle.std.specs.Prelude.{ℕ}
use Rattle.vector_compiler.specs.declared.closure.Mark.{Mark}
use Rattle.vector_compiler.specs.declared.closure.Mark.TheVariants.{New, Met, Followed}

abbrev pub number : Mark → ℕ
number New = 0
number Met = 1
number Followed = 2
