use Rattle.vector_direct.specs.Fields.{fields_in}
use Rattle.vector_direct.specs.Says.{Says}
use Rattle.vector_compiler.specs.Joining.{joined_modes}
use Rattle.vector_compiler.specs.Closure.{marked_mode}
use Rattle.vector_compiler.specs.Memo.{Memory}
use Rattle.vector_compiler.proofs.closure.Worklist.marked_vector.Given as goal

abbrev pub invariant-loop-node : goal.invariant-loop-node
invariant-loop-node l =
    Says (fields_in l.class.text.now l.class.tables.now l.class.number) (joined_modes (marked_mode l.class.text.now l.class.tables.now l.class.number l.self) l.node) l.vector × Memory l.class.text.now l.class.tables.now l.class.number l.memo
