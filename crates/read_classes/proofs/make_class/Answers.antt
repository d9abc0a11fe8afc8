-- `read_classes::make_class` meets its contract: the library does not have the class before it is counted, and has it with all
-- its members after.
use Rattle.std.specs.Prelude.{is_err}
use Rattle.std.proofs.lemmas.Result.{err_from_is_err_and}
use mathlib.Core.Path.{ap}
use Rattle.text_lex.specs.Piece.{words_after}
use Rattle.read_classes.proofs.MakeLaws.{too_many_fields, too_many_methods, class_made}
use Rattle.read_classes.proofs.make_class.Goals as goal

pub returns-in_err-inherit : goal.returns-in_err-inherit
returns-in_err-inherit c =
    let k = c.ancestors-mask in
    let n = c.class_count-class in
    let a = c.args in
    let p = err_from_is_err_and c.from_residual.result c.from_residual.ensures.1 in
    rw (p.1, p.2, c.in_err-inherit.ensures.fault)
    (λ line. too_many_fields a.text.now a.tables.now n.result a.word k.result c.requires n.ensures (words_after a.names.now)
    k.ensures c.begin_class.new.tables c.begin_class.ensures
    (is_err c.inherit.result) c.inherit.new.tables c.inherit.ensures.row (ap is_err c.in_err-inherit.was) line _)

pub returns-in_err-inherit-2 : goal.returns-in_err-inherit-2
returns-in_err-inherit-2 c =
    let k = c.ancestors-mask in
    let n = c.class_count-class in
    let a = c.args in
    let e = c.from_residual-in_err-inherit-2 in
    let p = err_from_is_err_and e.result e.ensures.1 in
    rw (p.1, p.2, c.in_err-inherit-2.ensures.fault)
    (λ line. too_many_methods a.text.now a.tables.now n.result a.word k.result c.requires n.ensures (words_after a.names.now)
    k.ensures c.begin_class.new.tables c.begin_class.ensures
    (is_err c.inherit.result) c.inherit.new.tables c.inherit.ensures.row
    (is_err c.inherit-2.result) c.inherit-2.new.tables c.inherit-2.ensures.row
    (ap is_err c.in_ok-inherit.was) (ap is_err c.in_err-inherit-2.was) line _)

pub returns : goal.returns
returns c =
    let k = c.ancestors-mask in
    let n = c.class_count-class in
    let a = c.args in
    λ line. class_made a.text.now a.tables.now n.result a.word k.result c.requires n.ensures (words_after a.names.now) k.ensures
    c.begin_class.new.tables c.begin_class.ensures
    (is_err c.inherit.result) c.inherit.new.tables c.inherit.ensures.row (is_err c.inherit-2.result) c.inherit-2.new.tables c.inherit-2.ensures.row
    (ap is_err c.in_ok-inherit.was) (ap is_err c.in_ok-inherit-2.was) c.put.new.words c.put.ensures line
