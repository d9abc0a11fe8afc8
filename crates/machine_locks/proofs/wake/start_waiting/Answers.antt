-- `start_waiting` meets its contract: the send is withdrawn; then its locks and its message are written.
use borrow.Author.Rules.{rules}
use mathlib.Core.Path.{ap, ◌∙◌}
use Rattle.machine_words.specs.Line.{row_of, withdrawn}
use Rattle.machine_words.specs.Said.{asked}
use Rattle.machine_checks.specs.Lent.{part_at, lent_at, row_size}
use Rattle.machine_locks.specs.Granted.{lock_at, again_entered}
use Rattle.machine_take.specs.Waits.{withdrawn_length}
use Rattle.machine_locks.proofs.wake.start_waiting.Goals as goal

pub returns : goal.returns
returns c =
    let a = c.args in
    let row = row_of a.state.now a.slot in
    again_entered a.text.now a.state.now a.slot c.requires.0 (asked a.wanted) _ _ _ (withdrawn row) (withdrawn_length row ∙ row_size _ _ c.requires.0) _
    (lent_at a.state.now a.slot c.requires.0 _ _ c.row_range-row.ensures.0 c.row_range-row.ensures.1 c.withdraw.new.row (withdrawn row) (search rules) (c.withdraw.ensures ∙ ap withdrawn (part_at _ _ _ _ c.row_range-row.ensures.0 c.row_range-row.ensures.1)))
    (lock_at _ _ _ _ _ _ c.row_range-row.ensures.0 c.lock.ensures) c.start_message.ensures
