-- `lead_on` meets its contract, by whether the slot leads to the other.
use mathlib.Core.Path.{ap, ◌∙◌}
use mathlib.Core.Bool.{true, false}
use Rattle.machine_conflicts.specs.Circle.{with_mask, led_by}
use Rattle.machine_conflicts.proofs.circle.lead_on.Goals as goal

pub returns-then-not-has_bit : goal.returns-then-not-has_bit
returns-then-not-has_bit c =
    led_by _ _ _ _ c.get-mask.ensures _ c.has_bit.ensures false c.if-not-has_bit.true

pub returns : goal.returns
returns c =
    let a = c.args in
    c.add_mask.ensures ∙ ap (with_mask a.masks.now a.slot) c.get-more.ensures
    ∙ led_by _ _ _ _ c.get-mask.ensures _ c.has_bit.ensures true c.if-not-has_bit.false
