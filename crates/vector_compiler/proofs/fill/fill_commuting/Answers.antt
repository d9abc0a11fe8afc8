-- `fill_commuting` meets its contract: each turn stores one method's mask, and no stored mask changes what the others are made of.
use native.Mathlib.Omega.{arith}
use Rattle.catalog.specs.View.{member_count}
use Rattle.vector_compiler.specs.Filling.{commuting_more}
use Rattle.vector_compiler.proofs.fill.fill_commuting.Goals as goal

pub loop-method-preserved : goal.loop-method-preserved
unfolding member_count
loop-method-preserved c =
    let a = c.args in
    commuting_more a.tables.now a.class c.loop-method.method c.loop-method.tables (omega (arith, c.member_count-count.ensures)) c.loop-method.invariant
    c.mask_place.result c.commuting_mask-mask.result _ c.mask_place.ensures c.commuting_mask-mask.ensures c.put.ensures
