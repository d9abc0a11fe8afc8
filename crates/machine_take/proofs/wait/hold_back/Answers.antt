-- `hold_back` meets its contract: the words are cleared, then written with the send, its locks and the phase.
use borrow.Author.Rules.{rules}
use Rattle.machine_words.specs.Said.{asked}
use Rattle.machine_take.specs.Waits.{cleared_lent, held_back}
use Rattle.machine_take.proofs.wait.hold_back.Goals as goal

pub returns : goal.returns
returns c =
    let a = c.args in
    let b = c.row_range-row.ensures.0 in
    held_back a.text.now a.state.now a.slot c.requires.0 (asked a.wanted) _ b
    _ (cleared_lent a.text.now a.state.now a.slot c.requires.0 (asked a.wanted) _ b _ c.row_range-row.ensures.1 c.clear_waiting.new.row (search rules) c.clear_waiting.ensures)
    c.write_request.new.waiting (search rules) c.write_request.ensures _ c.lock.ensures _ c.put.ensures
