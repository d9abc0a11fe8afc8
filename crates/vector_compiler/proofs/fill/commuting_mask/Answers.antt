-- `commuting_mask` meets its contract: each turn adds the bit of one method.
use Prim.Native.Nat.{ℕ}
use mathlib.Core.Path.{◌≡◌, refl, ap, ap₂, ◌∙◌}
use native.Mathlib.Omega.{arith}
use Rattle.model.specs.Base.{upto}
use Rattle.model.specs.Image.{mask}
use Rattle.catalog.specs.View.{member_count}
use Rattle.vector_direct.specs.Masks.{mask_turn}
use Rattle.vector_commute.specs.Commuting.{apart}
use Rattle.vector_compiler.specs.Filling.{stored, commuting_mask}
use Rattle.vector_compiler.proofs.fill.commuting_mask.Goals as goal

pub loop-other-init : goal.loop-other-init
unfolding upto mask
loop-other-init c = refl

pub loop-other-preserved : goal.loop-other-preserved
unfolding member_count
loop-other-preserved c =
    let a = c.args in
    mask_turn (λ k. apart (stored a.tables.now a.class a.method) (stored a.tables.now a.class k)) c.loop-other.other c.loop-other.mask c.with_bit-mask.result c.commuting-together.result
    (omega (arith, c.member_count-count.ensures)) c.loop-other.invariant (c.commuting-together.ensures ∙ ap₂ apart c.stored_vector-vector.ensures c.stored_vector.ensures) c.with_bit-mask.ensures

pub returns : goal.returns
unfolding commuting_mask
returns c =
    let a = c.args in
    let e : c.loop-other.other ≡ member_count a.tables.now a.class 1 = omega (arith, c.member_count-count.ensures) in
    c.loop-other.invariant ∙ ap (λ (k : ℕ). mask (upto (λ j. apart (stored a.tables.now a.class a.method) (stored a.tables.now a.class j)) k)) e
