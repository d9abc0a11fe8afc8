-- `blocks` meets its contract: an open slot's row is tested, then the words of a send that waits ahead.
use Rattle.std.proofs.Common.{◌≡◌, false, refl, sym, ap, ◌∙◌}
use Rattle.machine_words.specs.Line.{holder_at}
use Rattle.machine_conflicts.specs.Holders.{closed_holds, open_holds, behind_waits, ahead_waits, holder_blocks, else_blocks}
use Rattle.machine_conflicts.proofs.clash.blocks.Goals as goal
use Rattle.machine_conflicts.proofs.clash.blocks.Goals.{else-phase_of-ne-CLOSED-via-then-phase_of-ne-CLOSED+else-test, else-phase_of-ne-CLOSED-via-else-phase_of-ne-CLOSED}

pub returns-then-test : goal.returns-then-test
returns-then-test g c =
    let a = c.args in
    λ p t. holder_blocks a.state.now p a.slot a.ahead _
    (t _ _ c.test.ensures ∙ ap p c.row_of.ensures ∙ open_holds a.state.now p a.slot _ c.phase_of.ensures c.if-phase_of-ne-CLOSED.true) c.if-test.true

pub returns-then-waits_ahead : goal.returns-then-waits_ahead
returns-then-waits_ahead g c =
    let a = c.args in
    λ p t. let none : false ≡ holder_at a.state.now p a.slot =
    elim c.else-phase_of-ne-CLOSED.branch [
      | else-phase_of-ne-CLOSED-via-then-phase_of-ne-CLOSED+else-test w ↦ sym w.if-test.false ∙ t _ _ w.test.ensures ∙ ap p w.row_of.ensures
          ∙ open_holds a.state.now p a.slot _ c.phase_of.ensures w.if-phase_of-ne-CLOSED.true
      | else-phase_of-ne-CLOSED-via-else-phase_of-ne-CLOSED w ↦ closed_holds a.state.now p a.slot _ c.phase_of.ensures w.if-phase_of-ne-CLOSED.false
    ] in
    t _ _ c.test-then-waits_ahead.ensures ∙ ap p c.waiting_of.ensures ∙ ahead_waits a.state.now p a.slot a.ahead _ c.waits_ahead.ensures c.if-waits_ahead.true
    ∙ else_blocks a.state.now p a.slot a.ahead _ none refl

pub returns-else-waits_ahead : goal.returns-else-waits_ahead
returns-else-waits_ahead g c =
    let a = c.args in
    λ p t. let none : false ≡ holder_at a.state.now p a.slot =
    elim c.else-phase_of-ne-CLOSED.branch [
      | else-phase_of-ne-CLOSED-via-then-phase_of-ne-CLOSED+else-test w ↦ sym w.if-test.false ∙ t _ _ w.test.ensures ∙ ap p w.row_of.ensures
          ∙ open_holds a.state.now p a.slot _ c.phase_of.ensures w.if-phase_of-ne-CLOSED.true
      | else-phase_of-ne-CLOSED-via-else-phase_of-ne-CLOSED w ↦ closed_holds a.state.now p a.slot _ c.phase_of.ensures w.if-phase_of-ne-CLOSED.false
    ] in
    c.if-waits_ahead.false ∙ behind_waits a.state.now p a.slot a.ahead _ c.waits_ahead.ensures c.if-waits_ahead.false
    ∙ else_blocks a.state.now p a.slot a.ahead _ none refl
