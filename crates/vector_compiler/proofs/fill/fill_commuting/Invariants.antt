use Rattle.vector_compiler.specs.Filling.{CommutingTo}
use Rattle.vector_compiler.proofs.fill.fill_commuting.Given as goal

abbrev pub invariant-loop-method : goal.invariant-loop-method
invariant-loop-method l = CommutingTo l.initial.tables l.class l.method l.tables
