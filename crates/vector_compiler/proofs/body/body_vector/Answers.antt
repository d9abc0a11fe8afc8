-- `body_vector` meets its contract: each turn joins the vector of one statement.
use native.Mathlib.Omega.{arith}
use Rattle.model.specs.Vector.{in_statement}
use Rattle.vector_direct.specs.Fields.{fields_in}
use Rattle.vector_compiler.specs.Bodies.{statement_at}
use Rattle.vector_compiler.specs.Joining.{none_joined, statement_joined, run_joined}
use Rattle.vector_compiler.proofs.body.body_vector.Goals as goal

pub loop-i-init : goal.loop-i-init
loop-i-init c =
    let a = c.args in
    none_joined (fields_in a.class.now.text.now a.class.now.tables.now a.class.now.number) (λ j f. in_statement f (statement_at a.class.now.text.now a.class.now.tables.now _ j))

pub loop-i-preserved : goal.loop-i-preserved
loop-i-preserved c =
    let a = c.args in
    statement_joined a.class.now.text.now a.class.now.tables.now (fields_in a.class.now.text.now a.class.now.tables.now a.class.now.number) c.body_of-body.result.first c.loop-i.i _
    c.loop-i.vector c.line_vector.result c.joined-vector.result c.loop-i.invariant c.line_of-line.ensures c.line_vector.ensures c.joined-vector.ensures

pub returns : goal.returns
returns c =
    let a = c.args in
    run_joined a.class.now.text.now a.class.now.tables.now (fields_in a.class.now.text.now a.class.now.tables.now a.class.now.number) c.body_of-body.result.first a.node c.loop-i.i
    c.body_of-body.result.size c.loop-i.vector (omega arith) c.body_of-body.ensures c.loop-i.invariant
