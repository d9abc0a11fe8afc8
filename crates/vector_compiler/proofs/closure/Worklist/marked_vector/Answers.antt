-- `marked_vector` meets its contract: each turn joins the vector of one method, if that is marked.
use mathlib.Core.Path.{sym, subst}
use Rattle.vector_direct.specs.Fields.{fields_in}
use Rattle.vector_direct.specs.Says.{Says}
use Rattle.vector_compiler.specs.Joining.{joined_modes, none_joined, one_more_joined}
use Rattle.vector_compiler.specs.Closure.{marked_mode}
use Rattle.vector_compiler.proofs.closure.Worklist.marked_vector.Goals as goal

pub loop-node-init : goal.loop-node-init
loop-node-init c =
    let a = c.args in
    (none_joined (fields_in a.class.now.text.now a.class.now.tables.now a.class.now.number) (marked_mode a.class.now.text.now a.class.now.tables.now a.class.now.number a.self.now), c.requires)

pub loop-node-preserved : goal.loop-node-preserved
loop-node-preserved c =
    let a = c.args in
    let fields = fields_in a.class.now.text.now a.class.now.tables.now a.class.now.number in
    let mode = marked_mode a.class.now.text.now a.class.now.tables.now a.class.now.number a.self.now in (
      subst (Says fields (joined_modes mode _)) (sym c.joined-vector.ensures)
          (one_more_joined fields mode c.loop-node.node c.loop-node.vector c.marked_body_vector-direct.result c.loop-node.invariant.0 c.marked_body_vector-direct.ensures.says),
      c.marked_body_vector-direct.ensures.memory,
    )
