-- `take_object` meets its contract: the locks and then the message are written into the lent row.
use borrow.Author.Rules.{rules}
use Rattle.machine_locks.specs.OneObject.{first_there}
use Rattle.machine_conflicts.specs.Holders.{at_once_named}
use Rattle.machine_locks.specs.Granted.{taken_lent}
use Rattle.machine_locks.proofs.grant.take_object.Goals as goal

pub returns : goal.returns
returns c =
    λ text. taken_lent text _ _ c.requires.0 _ _ _ c.row_range.ensures.0 c.row_range.ensures.1 c.requires.1 _ (first_there text _ _ c.requires.1 (at_once_named _ _ c.requires.2) _ _ (rw c.tables_of.ensures at c.body_of-body.ensures text)) _ c.place_bit-bits.ensures _ _ _
    c.add_lock.ensures c.add_lock-2.ensures (search rules) c.enter.ensures
