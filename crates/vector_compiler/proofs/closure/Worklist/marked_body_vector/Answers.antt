-- `marked_body_vector` meets its contract: a mark above 0 is the definition's test.
use mathlib.Core.Path.{◌≡◌}
use native.Mathlib.Omega.{arith}
use lib.ListN.{get_or}
use Rattle.std.proofs.Common.{rules}
use Rattle.vector_direct.specs.Fields.{fields_in}
use Rattle.vector_compiler.specs.Closure.{marked_is, unmarked_is}
use Rattle.vector_compiler.proofs.closure.Worklist.marked_body_vector.Goals as goal

pub returns-then-eq : goal.returns-then-eq
returns-then-eq c =
    let a = c.args in
    let new : get_or a.self.now a.node 0 ≡ 0 = search rules in record {
      says = unmarked_is a.class.now.text.now a.class.now.tables.now a.class.now.number a.self.now a.node (fields_in a.class.now.text.now a.class.now.tables.now a.class.now.number) (omega arith);
      memory = c.requires;
    }

pub returns-else-eq : goal.returns-else-eq
returns-else-eq c =
    let a = c.args in
    let met : get_or a.self.now a.node 0 ≡ 0 → ⊥ = search rules in record {
      says = marked_is a.class.now.text.now a.class.now.tables.now a.class.now.number a.self.now a.node (fields_in a.class.now.text.now a.class.now.tables.now a.class.now.number) _ (omega arith) c.direct_of.ensures.right.vector;
      memory = c.direct_of.ensures.memory;
    }
