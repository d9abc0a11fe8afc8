-- `take_statement` meets its contract: its fault is that of its words, then that of its method's count; without one its place is
-- stored.
use Rattle.std.proofs.lemmas.Result.{err_from_is_err_and}
use Rattle.read_classes.specs.Took.{fault_some}
use mathlib.Core.Path.{refl}
use borrow.Author.Rules.{rules}
use mathlib.Core.Path.{◌≡◌}
use lib.ListN.{length}
use Rattle.layout.specs.Layout.{table_words}
use Rattle.read_lines.specs.Took.{statement_refused, statement_over, statement_taken}
use Rattle.read_lines.proofs.take_statement.Goals as goal

pub returns-in_err-words_fault : goal.returns-in_err-words_fault
returns-in_err-words_fault c =
    let a = c.args in
    let p = err_from_is_err_and c.from_residual.result c.from_residual.ensures.1 in
    rw (p.1, p.2) (statement_refused a.text.now a.tables.now a.place.now.start a.place.now.end _ c.in_err-words_fault.ensures (fault_some _) _)

pub returns-in_err-count_statement : goal.returns-in_err-count_statement
returns-in_err-count_statement c =
    let a = c.args in
    let e = c.from_residual-in_err-count_statement in
    let p = err_from_is_err_and e.result e.ensures.1 in
    rw (p.1, p.2)
    (statement_over a.text.now a.tables.now a.place.now.start a.place.now.end 0 c.in_ok-words_fault.ensures refl
    _ c.count_statement.new.tables (c.in_err-count_statement.ensures a.text.now) (fault_some _) _)

pub returns : goal.returns
returns c =
    let a = c.args in
    let room : length c.count_statement.new.tables ≡ table_words = search rules in
    statement_taken a.text.now a.tables.now a.place.now.start a.place.now.end 0 c.in_ok-words_fault.ensures refl
    0 c.count_statement.new.tables (c.in_ok-count_statement.ensures a.text.now) refl
    (record { order = c.requires.order; within = c.requires.within; small = c.requires.small; room = room })
    c.put_statement.new.tables c.put_statement.ensures
