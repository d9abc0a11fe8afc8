use Rattle.vector_compiler.specs.Nodes.{Calls}
use Rattle.vector_compiler.specs.Marks.{left, Closing}
use Rattle.vector_compiler.specs.Memo.{Memory}
use Rattle.vector_compiler.proofs.closure.Worklist.close.Given as goal

abbrev pub invariant-loop-node : goal.invariant-loop-node
invariant-loop-node l =
    Closing (Calls l.class.text.now l.class.tables.now l.class.number) l.initial.self l.self × Memory l.class.text.now l.class.tables.now l.class.number l.memo

abbrev pub decreases-loop-node : goal.decreases-loop-node
decreases-loop-node l = left l.self
