-- `closes_circle` meets its contract: the masks hold who waits for whom with the newcomer last, and then what each leads to.
use native.Mathlib.Omega.{arith}
use mathlib.Core.Path.{◌∙◌}
use Rattle.machine_conflicts.specs.Ahead.{count_le}
use Rattle.machine_conflicts.specs.Circle.{circle_is}
use Rattle.machine_conflicts.proofs.circle.closes_circle.Goals as goal

pub add_all_waits-requires : goal.add_all_waits-requires
add_all_waits-requires c =
    (c.requires.long, omega (arith, c.waiting_count-count.ensures, count_le c.args.state.now))

pub clashing-mask-requires : goal.clashing-mask-requires
clashing-mask-requires c =
    (c.requires, omega (arith, c.waiting_count-count.ensures, count_le c.args.state.now))

pub returns : goal.returns
returns c =
    c.has_bit.ensures
    ∙ circle_is _ _ _ c.requires.slot _ _ c.waiting_count-count.ensures _ c.add_all_waits.ensures _ c.clashing-mask.ensures _ c.add_mask.ensures _ c.lead_all.ensures
