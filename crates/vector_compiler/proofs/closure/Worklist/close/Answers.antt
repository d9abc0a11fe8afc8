-- `close` meets its contract: each turn follows one method that is met, so that one less is left to follow.
use mathlib.Core.Path.{sym, subst}
use Rattle.vector_compiler.specs.Nodes.{Calls}
use Rattle.vector_compiler.specs.Marks.{Closed, closing_end}
use Rattle.vector_compiler.proofs.closure.Worklist.close.Goals as goal

pub returns : goal.returns
returns c =
    let a = c.args in
    let calls = Calls a.class.now.text.now a.class.now.tables.now a.class.now.number in record {
      by_index = λ r i.
          subst (Closed calls r) (sym c.next_met.ensures.marks_unchanged)
          (closing_end calls a.self.now c.loop-node.self c.loop-node.invariant.0 c.in_default.ensures.next_met r i);
      memory = c.loop-node.invariant.1;
    }
