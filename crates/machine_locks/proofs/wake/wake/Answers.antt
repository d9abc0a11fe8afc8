-- `wake` meets its contract: at each turn, waking what is left of the line wakes all of it.
use borrow.Author.Rules.{rules}
use native.Mathlib.Omega.{arith}
use mathlib.Core.Path.{ap, ◌∙◌}
use Rattle.machine_words.specs.Line.{woken_slot}
use Rattle.machine_conflicts.specs.Ahead.{count_le}
use Rattle.machine_locks.specs.Woken.{leaving_as, wakes_nobody, wakes_more, waits_more, wakes_all}
use Rattle.machine_locks.proofs.wake.wake.Goals as goal

pub returns-then-count-eq0 : goal.returns-then-count-eq0
returns-then-count-eq0 c = wakes_nobody _ _ _ c.waiting_count-count.ensures c.if-count-eq0.true

pub wake_slot-ahead-requires : goal.wake_slot-ahead-requires
wake_slot-ahead-requires c = (
  omega (arith, c.requires, c.loop-place.invariant.2),
  omega (arith, c.loop-place-test.true, c.loop-place.invariant.1, c.waiting_count-count.ensures, count_le c.args.state.now),
)

pub loop-place-preserved : goal.loop-place-preserved
loop-place-preserved c =
    let a = c.args in
    let woke = leaving_as (ap (woken_slot a.text.now c.loop-place.state c.loop-place.ahead) c.slot_at-slot.ensures) c.wake_slot-ahead.ensures in (
      omega arith,
      waits_more a.text.now c.loop-place.state _ c.loop-place.ahead c.loop-place.place c.waiting_count-count.result c.loop-place-test.true _ woke c.loop-place.invariant.1,
      search rules,
      wakes_more a.text.now c.loop-place.state _ c.loop-place.ahead c.loop-place.place c.waiting_count-count.result c.loop-place-test.true _ woke ∙ c.loop-place.invariant.3,
    )

pub returns : goal.returns
returns c =
    wakes_all _ _ _ _ c.waiting_count-count.ensures c.loop-place.ahead c.loop-place.place (omega (arith, c.loop-place-test.false, c.loop-place.invariant.0)) c.loop-place.invariant.3 _ c.put.ensures
