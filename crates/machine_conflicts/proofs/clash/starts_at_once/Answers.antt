-- `starts_at_once` meets its contract: nobody waits, no slot holds a conflict, and then the class has the name at its place.
use Rattle.machine_words.specs.Said.{asked}
use Rattle.machine_conflicts.specs.Holders.{somebody_waits, held_there, free_there}
use Rattle.machine_conflicts.proofs.clash.starts_at_once.Goals as goal

pub returns-then-get-ne0 : goal.returns-then-get-ne0
returns-then-get-ne0 c =
    let a = c.args in
    somebody_waits a.state.now (asked a.wanted) _ c.get.ensures c.if-get-ne0.true

pub returns-then-held_by_all-methods-ne0 : goal.returns-then-held_by_all-methods-ne0
returns-then-held_by_all-methods-ne0 c =
    let a = c.args in
    held_there a.state.now (asked a.wanted) _ c.get.ensures c.if-get-ne0.false _ _ c.held_by_all.ensures (rw c.tables_of.ensures at c.conflicts-methods.ensures) c.if-held_by_all-methods-ne0.true

pub returns : goal.returns
returns c =
    let a = c.args in
    free_there a.state.now (asked a.wanted) _ c.get.ensures c.if-get-ne0.false _ _ c.held_by_all.ensures (rw c.tables_of.ensures at c.conflicts-methods.ensures) c.if-held_by_all-methods-ne0.false _ (rw c.tables_of-2.ensures at c.named_at.ensures)
