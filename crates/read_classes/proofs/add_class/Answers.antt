-- `read_classes::add_class` meets its contract: the faults are tested in the order of the numbers, that of its members last.
use Rattle.std.proofs.lemmas.Result.{err_from_is_err_and}
use mathlib.Core.Path.{ap}
use Rattle.refusals.specs.Numbers.{fault_in}
use Rattle.read_classes.specs.Took.{fault_some}
use Rattle.text_lex.specs.Piece.{words_after}
use Rattle.catalog.specs.View.{name_of}
use Rattle.read_classes.proofs.ClassLaws.{by_names, too_many, by_members}
use Rattle.read_classes.proofs.add_class.Goals as goal

pub returns-in_err-parent_fault : goal.returns-in_err-parent_fault
returns-in_err-parent_fault c =
    let a = c.args in
    let p = err_from_is_err_and c.from_residual.result c.from_residual.ensures.1 in
    rw (p.1, p.2)
    (λ line. by_names a.text.now a.tables.now (name_of a.text.now a.word) (words_after a.parents.now) line _
    c.name_of.result.now c.in_err-parent_fault.ensures c.name_of.ensures (fault_some _) _)

pub returns-then-class_count-count : goal.returns-then-class_count-count
returns-then-class_count-count c =
    let a = c.args in
    λ line. too_many a.text.now a.tables.now (name_of a.text.now a.word) (words_after a.parents.now) line (fault_in c.parent_fault.result)
    c.name_of.result.now c.parent_fault.ensures c.name_of.ensures (ap fault_in c.in_ok-parent_fault.was)
    c.class_count.result c.count.result c.class_count.ensures c.count.ensures c.if-class_count-count.true _

pub returns : goal.returns
returns c =
    let a = c.args in
    λ line. by_members a.text.now a.tables.now (name_of a.text.now a.word) (words_after a.parents.now) line (fault_in c.parent_fault.result)
    c.name_of.result.now c.parent_fault.ensures c.name_of.ensures (ap fault_in c.in_ok-parent_fault.was)
    c.class_count.result c.count.result c.class_count.ensures c.count.ensures c.if-class_count-count.false (fault_in c.make_class.result) _
    (c.make_class.ensures line)
