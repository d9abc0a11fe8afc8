use Rattle.vector_direct.specs.Fields.{fields_in}
use Rattle.vector_direct.specs.Says.{Says}
use Rattle.vector_compiler.specs.Joining.{run_modes}
use Rattle.vector_compiler.proofs.body.body_vector.Given as goal

abbrev pub invariant-loop-i : goal.invariant-loop-i
invariant-loop-i l =
    Says (fields_in l.class.text.now l.class.tables.now l.class.number) (run_modes l.class.text.now l.class.tables.now l.body.first l.i) l.vector
