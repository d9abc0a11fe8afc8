-- `count_statement` meets its contract: the method being read, if any, has its count in its body's word.
use native.Mathlib.Omega.{arith}
use Rattle.read_lines.specs.Added.{counts_none, counts_over, counts_here}
use Rattle.read_lines.proofs.count_statement.Goals as goal

pub returns-then-shown_count-method : goal.returns-then-shown_count-method
returns-then-shown_count-method c =
    let ws = c.args.tables.now in
    λ text. counts_none text ws c.last_class-class.result c.class_word-method.result c.last_class-class.ensures c.class_word-method.ensures (omega (arith, c.if-shown_count-method.true, c.shown_count.ensures))

pub returns-then-body-ge32 : goal.returns-then-body-ge32
returns-then-body-ge32 c =
    let ws = c.args.tables.now in
    λ text. counts_over text ws c.last_class-class.result c.class_word-method.result c.last_class-class.ensures c.class_word-method.ensures (omega (arith, c.if-shown_count-method.false, c.shown_count.ensures))
    c.member_word-word.result c.body_word-body.result c.member_word-word.ensures c.body_word-body.ensures c.if-body-ge32.true _

pub returns : goal.returns
returns c =
    let ws = c.args.tables.now in
    λ text. counts_here text ws c.last_class-class.result c.class_word-method.result c.last_class-class.ensures c.class_word-method.ensures (omega (arith, c.if-shown_count-method.false, c.shown_count.ensures))
    c.member_word-word.result c.body_word-body.result c.member_word-word.ensures c.body_word-body.ensures c.requires c.if-body-ge32.false c.put_member.new.tables c.put_member.ensures
