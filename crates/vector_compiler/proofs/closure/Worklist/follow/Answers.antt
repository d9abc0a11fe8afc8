-- `follow` meets its contract: the mark is set, and all that the method calls is met.
use Rattle.vector_compiler.specs.Nodes.{Calls}
use Rattle.vector_compiler.specs.Marks.{followed}
use Rattle.vector_compiler.proofs.closure.Worklist.follow.Goals as goal

pub returns : goal.returns
returns c =
    let a = c.args in record {
      followed = followed (Calls a.class.now.text.now a.class.now.tables.now a.class.now.number) a.node a.self.now _ _ c.put_mark.ensures c.meet_calls.ensures.calls_met;
      memory = c.meet_calls.ensures.memory;
    }
