-- `is_ahead` meets its contract: at each turn the slot is at no place passed so far.
use native.Mathlib.Omega.{arith}
use mathlib.Core.Path.{refl, sym, ap, ◌∙◌}
use lib.Dec.{eqb}
use borrow.Author.Tests.{eq-eqb, ne_eqb}
use Rattle.model.specs.Base.{any, upto}
use Rattle.laws.specs.Upto.{test_more, test_end, test_here}
use Rattle.machine_words.specs.Line.{slot_at}
use Rattle.machine_conflicts.specs.Ahead.{line_upto}
use Rattle.machine_conflicts.proofs.line.is_ahead.Goals as goal

pub loop-place-init : goal.loop-place-init
unfolding any upto
loop-place-init c = (omega arith, refl)

pub returns-then-slot_at-slot : goal.returns-then-slot_at-slot
returns-then-slot_at-slot c =
    let a = c.args in
    sym (test_here (eqb a.slot) (slot_at a.state.now) c.loop-place.place (eq-eqb _ _ (sym c.if-slot_at-slot.true ∙ c.slot_at.ensures)) a.count c.loop-place-test.true)
    ∙ ap (any (eqb a.slot)) (line_upto a.state.now a.count c.requires.0 c.requires.1)

pub loop-place-preserved : goal.loop-place-preserved
loop-place-preserved c =
    let a = c.args in
    (omega arith, test_more (eqb a.slot) (slot_at a.state.now) c.loop-place.place c.loop-place.invariant.1 (ne_eqb _ _ (λ e. c.if-slot_at-slot.false (c.slot_at.ensures ∙ sym e))))

pub returns : goal.returns
returns c =
    let a = c.args in
    sym (test_end (eqb a.slot) (slot_at a.state.now) c.loop-place.place c.loop-place.invariant.1 a.count (omega (arith, c.loop-place-test.false, c.loop-place.invariant.0)))
    ∙ ap (any (eqb a.slot)) (line_upto a.state.now a.count c.requires.0 c.requires.1)
