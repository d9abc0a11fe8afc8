-- `field_mask` meets its contract: each turn adds the bit of one field.
use Prim.Native.Nat.{ℕ}
use mathlib.Core.Path.{refl, sym, ap, ◌∙◌}
use mathlib.Core.Bool.{Bool}
use native.Mathlib.Omega.{arith}
use Rattle.model.specs.Base.{same, upto}
use Rattle.model.specs.Image.{mask}
use Rattle.catalog.specs.View.{name_of}
use Rattle.vector_direct.specs.Masks.{mask_turn}
use Rattle.vector_direct.specs.Fields.{field_name, each_field}
use Rattle.catalog.specs.Look.{shown_le}
use Rattle.vector_direct.proofs.Class.field_mask.Goals as goal

pub loop-place-init : goal.loop-place-init
unfolding upto mask
loop-place-init c = refl

pub loop-place-preserved : goal.loop-place-preserved
loop-place-preserved c =
    let a = c.args in
    let t = c.is_named-named.ensures ∙ ap (λ (x : ℕ). same (name_of a.self.now.text.now x) a.word.now) c.member_word.ensures in
    mask_turn (λ j. same (field_name a.self.now.text.now a.self.now.tables.now a.self.now.number j) a.word.now) c.loop-place.place c.loop-place.mask c.with_bit-mask.result c.is_named-named.result
    (omega (arith, c.shown_count-count.ensures, shown_le a.self.now.tables.now a.self.now.number 0)) c.loop-place.invariant t c.with_bit-mask.ensures

pub returns : goal.returns
returns c =
    let a = c.args in
    let t : ℕ → Bool = λ j. same (field_name a.self.now.text.now a.self.now.tables.now a.self.now.number j) a.word.now in
    let e = c.shown_count-count.ensures in
    c.loop-place.invariant ∙ ap (λ (n : ℕ). mask (upto t n)) (omega arith) ∙ sym (ap mask (each_field a.self.now.text.now a.self.now.tables.now a.self.now.number (λ f. same f a.word.now)))
