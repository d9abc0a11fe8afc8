-- `fill_masks` meets its contract: each turn stores the vector of one method, and no stored mask changes a vector.
use Prim.Native.Nat.{◌<◌}
use native.Mathlib.Omega.{arith}
use Rattle.catalog.specs.View.{member_count}
use Rattle.vector_compiler.specs.Filling.{modes_none, modes_more}
use Rattle.vector_compiler.specs.Memo.{memory_stored}
use Rattle.vector_compiler.proofs.fill.fill_masks.Goals as goal

pub loop-method-init : goal.loop-method-init
loop-method-init c =
    let a = c.args in
    (modes_none a.text.now a.tables.now a.class, c.new-memo.ensures a.text.now a.tables.now a.class)

pub loop-method-preserved : goal.loop-method-preserved
unfolding member_count
loop-method-preserved c =
    let a = c.args in
    let below : c.loop-method.method < member_count a.tables.now a.class 1 = omega (arith, c.member_count-count.ensures) in (
      modes_more a.text.now a.tables.now a.class c.loop-method.method c.loop-method.tables c.loop-method.invariant.0 c.vector_of-vector.result below _
          c.vector_of-vector.ensures.vector_found c.put_vector.ensures,
      memory_stored a.text.now c.loop-method.tables a.class c.loop-method.method c.vector_of-vector.result _ _ c.requires (omega arith) c.put_vector.ensures c.vector_of-vector.ensures.memory,
    )
