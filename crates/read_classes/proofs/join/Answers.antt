-- `read_classes::join` meets its contract: at each turn the row is the old one with the members before j joined to it.
use Rattle.std.specs.Prelude.{is_err}
use mathlib.Core.Path.{refl, ap}
use native.Mathlib.Omega.{arith}
use Rattle.model.specs.Base.{fold, upto}
use Rattle.model.specs.Library.{joined}
use Rattle.catalog.specs.Frames.{kept_refl}
use Rattle.read_classes.proofs.JoinLaws.{join_turn, join_over, join_end}
use Rattle.read_classes.proofs.join.Goals as goal

pub loop-j-init : goal.loop-j-init
unfolding joined fold upto
loop-j-init c =
    let a = c.args in
    (kept_refl a.tables.now a.class a.kind, refl)

pub returns-in_err-add_member-clause-row : goal.returns-in_err-add_member-clause-row
returns-in_err-add_member-clause-row c =
    let l = c.loop-j-test.true in
    let a = c.args in
    let i = c.loop-j.invariant in
    rw c.from_residual.ensures.0
    (join_over a.text.now a.tables.now a.class a.kind a.parent c.requires c.loop-j.tables c.loop-j.j
    (omega (arith, l, c.shown_count-count.ensures)) i.0 i.1
    c.member_word-word.result c.body_word-body.result
    c.member_word-word.ensures c.body_word-body.ensures (is_err c.add_member.result)
    c.add_member.new.tables c.add_member.ensures.row (ap is_err c.in_err-add_member.was))

pub loop-j-preserved : goal.loop-j-preserved
loop-j-preserved c =
    let l = c.loop-j-test.true in
    let a = c.args in
    let i = c.loop-j.invariant in
    let t =
    join_turn a.text.now a.tables.now a.class a.kind a.parent c.requires c.loop-j.tables c.loop-j.j
    (omega (arith, l, c.shown_count-count.ensures)) i.0 i.1
    c.member_word-word.result c.body_word-body.result
    c.member_word-word.ensures c.body_word-body.ensures (is_err c.add_member.result)
    c.add_member.new.tables c.add_member.ensures.row in
    (t.kept, t.made (ap is_err c.in_ok-add_member.was))

pub returns-clause-row : goal.returns-clause-row
returns-clause-row c =
    let a = c.args in
    let i = c.loop-j.invariant in
    join_end a.text.now a.tables.now a.class a.kind a.parent c.requires c.loop-j.tables c.loop-j.j
    (omega (arith, c.shown_count-count.ensures)) i.0 i.1
