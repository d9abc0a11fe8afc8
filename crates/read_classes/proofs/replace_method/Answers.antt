-- `read_classes::replace_method` meets its contract: the method at the place of a name is the one of that name.
use Prim.Native.Nat.{ℕ, ◌*◌}
use mathlib.Core.Path.{refl, ap}
use borrow.Author.Tests.{eq-eqb, ne_eqb}
use Rattle.catalog.specs.View.{name_of}
use Rattle.read_classes.proofs.MethodLaws.{writes_there, write_there, method_known, method_made}
use Rattle.read_classes.proofs.replace_method.Goals as goal

pub returns-then-member_word-class : goal.returns-then-member_word-class
returns-then-member_word-class c =
    let a = c.args in
    λ text e. method_known text a.tables.now a.class a.word _
    (writes_there text a.tables.now a.class (name_of text a.word) a.place e c.requires.place_in c.member_word.result c.member_word.ensures)
    (eq-eqb _ _ c.if-member_word-class.true) _

pub returns : goal.returns
returns c =
    let a = c.args in
    let s = c.statement_count-body in
    λ text e. method_made text a.tables.now a.class a.word _
    (writes_there text a.tables.now a.class (name_of text a.word) a.place e c.requires.place_in c.member_word.result c.member_word.ensures)
    (ne_eqb _ _ c.if-member_word-class.false) (s.result * 64) (ap (λ (x : ℕ). x * 64) s.ensures) _ _
    (write_there text a.tables.now a.class a.word (s.result * 64) a.place e c.requires.room c.requires.place_in c.put_member.new.tables c.put_member.ensures)
    refl c.requires.room a.place e _ c.put_class_word.ensures
