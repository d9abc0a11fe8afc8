-- The line is measured first, and written where there is room.
use native.Mathlib.Omega.{arith}
use Rattle.cishmolaq.specs.Laws.{print_short, print_done}
use Rattle.cishmolaq.proofs.write_refusal.Goals as goal

pub returns-then-out-count : goal.returns-then-out-count
returns-then-out-count c =
    let a = c.args in
    print_short _ a.out.now _ _ c.write_refusal-count.ensures c.if-out-count.true

pub returns : goal.returns
returns c =
    let a = c.args in
    print_done _ a.out.now _ _ c.write_refusal-count.ensures
    (omega (arith, c.if-out-count.false)) _ _ c.write_refusal.ensures
