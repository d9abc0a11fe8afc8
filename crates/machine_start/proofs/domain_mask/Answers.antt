-- `domain_mask` meets its contract: each turn adds the bit of one class.
use Prim.Native.Nat.{ℕ}
use mathlib.Core.Path.{◌≡◌, refl, ap, ◌∙◌}
use native.Mathlib.Omega.{arith}
use Rattle.model.specs.Base.{upto}
use Rattle.model.specs.Image.{mask}
use Rattle.catalog.specs.View.{class_count}
use Rattle.vector_direct.specs.Masks.{mask_turn}
use Rattle.machine_start.specs.Worked.{belongs, domain_mask}
use Rattle.machine_start.proofs.domain_mask.Goals as goal

pub loop-other-init : goal.loop-other-init
unfolding upto mask
loop-other-init c = refl

pub loop-other-preserved : goal.loop-other-preserved
loop-other-preserved c =
    let a = c.args in
    mask_turn (belongs a.tables.now a.class) c.loop-other.other c.loop-other.mask c.with_bit-mask.result c.belongs.result (omega (arith, c.class_count-count.ensures))
    c.loop-other.invariant c.belongs.ensures c.with_bit-mask.ensures

pub returns : goal.returns
unfolding domain_mask
returns c =
    let a = c.args in
    let e : c.loop-other.other ≡ class_count a.tables.now = omega (arith, c.class_count-count.ensures) in
    c.loop-other.invariant ∙ ap (λ (k : ℕ). mask (upto (belongs a.tables.now a.class) k)) e
