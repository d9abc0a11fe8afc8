-- `vector_of` meets its contract: the marked methods are those reached, and their bodies make the transitive vector.
use mathlib.Core.Path.{ap, ◌∙◌}
use Rattle.vector_compiler.specs.Marks.{touch}
use Rattle.vector_compiler.specs.Closure.{vector_found}
use Rattle.vector_compiler.proofs.closure.vector_of.Goals as goal

pub returns : goal.returns
returns c =
    let a = c.args in record {
      vector_found = vector_found a.class.now.text.now a.class.now.tables.now a.class.now.number a.place _ _ c.marked_vector.result (c.meet.ensures ∙ ap (touch _) c.new-worklist.ensures) c.close.ensures.by_index c.marked_vector.ensures.says;
      memory = c.marked_vector.ensures.memory;
    }
