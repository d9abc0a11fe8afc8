use Rattle.vector_compiler.specs.Filling.{FilledTo}
use Rattle.vector_compiler.proofs.fill.fill_vectors.Given as goal

abbrev pub invariant-loop-class : goal.invariant-loop-class
invariant-loop-class l = FilledTo l.text l.initial.tables l.class l.tables
