-- The statement's word has its place and its size.
use native.Mathlib.Omega.{arith}
use Rattle.cishmolaq.specs.Laws.{statement_past, statement_found}
use Rattle.cishmolaq.proofs.place_at.Goals as goal

pub returns-then-count-statement_count : goal.returns-then-count-statement_count
returns-then-count-statement_count c = λ text e.
    let a = c.args in
    (statement_found text a.count a.tables.now e (omega (arith, c.statement_count.ensures, c.if-count-statement_count.true)) _ c.get-word.ensures).0

pub returns-else-count-statement_count : goal.returns-else-count-statement_count
returns-else-count-statement_count c = λ text e.
    let a = c.args in
    (statement_past text a.count a.tables.now e (omega (arith, c.statement_count.ensures, c.if-count-statement_count.false))).0
