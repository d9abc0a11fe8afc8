-- `start_message` meets its contract: the message is written into the lent row.
use borrow.Author.Rules.{rules}
use Rattle.machine_take.specs.Taken.{entered_lent}
use Rattle.machine_take.proofs.start.start_message.Goals as goal

pub returns : goal.returns
returns c =
    entered_lent _ _ c.requires _ _ c.row_range.ensures.0 c.row_range.ensures.1 _ _ c.enter.new.row (search rules) c.enter.ensures
