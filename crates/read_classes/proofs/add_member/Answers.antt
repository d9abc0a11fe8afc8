-- `read_classes::add_member` meets its contract: a row that has the name is unchanged, and to any other the member is appended.
use Rattle.model.specs.Library.{among}
use Rattle.catalog.specs.View.{members_of}
use Rattle.laws.specs.Upto.{told}
use Rattle.read_classes.proofs.RowLaws.{add_present, add_new}
use Rattle.read_classes.proofs.add_member.Goals as goal

pub returns-then-has_member-clause-row : goal.returns-then-has_member-clause-row
returns-then-has_member-clause-row c =
    let a = c.args in
    let t = told (among (members_of a.text.now a.tables.now a.class a.kind)) c.name_of-name.ensures c.has_member.ensures c.if-has_member.true in
    add_present a.text.now a.tables.now a.class a.kind a.word a.body t

pub returns-clause-row : goal.returns-clause-row
returns-clause-row c =
    let a = c.args in
    let t = told (among (members_of a.text.now a.tables.now a.class a.kind)) c.name_of-name.ensures c.has_member.ensures c.if-has_member.false in
    add_new a.text.now a.tables.now a.class a.kind a.word a.body t (c.append.ensures.row a.text.now)
