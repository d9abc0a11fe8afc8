-- `read_classes::append` meets its contract: a full row has no room, and to any other the member is appended.
use native.Mathlib.Omega.{arith}
use Rattle.read_classes.proofs.RowLaws.{append_full, append_made}
use Rattle.read_classes.proofs.append.Goals as goal

pub returns-then-count-ge32-clause-row : goal.returns-then-count-ge32-clause-row
returns-then-count-ge32-clause-row c =
    let a = c.args in
    λ text. append_full text a.tables.now a.class a.kind a.word a.body (omega (arith, c.member_count-count.ensures))

pub returns-clause-row : goal.returns-clause-row
returns-clause-row c =
    let a = c.args in
    λ text. append_made text a.tables.now a.class a.kind a.word a.body c.requires c.member_count-count.result
    c.member_count-count.ensures (omega arith) c.put_member.new.tables c.put_member_count.new.tables c.put_member.ensures c.put_member_count.ensures
