use Rattle.vector_compiler.specs.Filling.{ModesTo}
use Rattle.vector_compiler.specs.Memo.{Memory}
use Rattle.vector_compiler.proofs.fill.fill_masks.Given as goal

abbrev pub invariant-loop-method : goal.invariant-loop-method
invariant-loop-method l =
    ModesTo l.text l.initial.tables l.class l.method l.tables × Memory l.text l.tables l.class l.memo
