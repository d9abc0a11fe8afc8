-- `read_classes::append_method` meets its contract: the place after the row's end is that of a new name.
use Rattle.std.specs.Prelude.{is_err}
use Rattle.std.proofs.lemmas.Result.{err_from_is_err_and}
use Prim.Native.Nat.{ℕ, ◌*◌}
use mathlib.Core.Path.{refl, ap}
use native.Mathlib.Omega.{arith}
use Rattle.catalog.specs.View.{name_of, members_of}
use Rattle.catalog.specs.Look.{member_count_law}
use Rattle.read_classes.proofs.MethodLaws.{place_within, writes_not, write_behind, method_over, method_made}
use Rattle.read_classes.proofs.append_method.Goals as goal

pub returns-in_err-append : goal.returns-in_err-append
returns-in_err-append c =
    let a = c.args in
    let s = c.statement_count-body in
    let p = err_from_is_err_and c.from_residual.result c.from_residual.ensures.1 in
    rw (p.1, p.2, c.in_err-append.ensures.fault)
    (λ text h. method_over text a.tables.now a.class a.word _ (writes_not text a.tables.now a.class (name_of text a.word) _ refl h) refl
    (s.result * 64) (ap (λ (x : ℕ). x * 64) s.ensures) _ _
    (write_behind text a.tables.now a.class a.word (s.result * 64) _ refl h (is_err c.append.result) c.append.new.tables (c.append.ensures.row text))
    (ap is_err c.in_err-append.was) _)

pub returns : goal.returns
returns c =
    let a = c.args in
    let s = c.statement_count-body in
    λ text h. method_made text a.tables.now a.class a.word _ (writes_not text a.tables.now a.class (name_of text a.word) _ refl h) refl
    (s.result * 64) (ap (λ (x : ℕ). x * 64) s.ensures) _ _
    (write_behind text a.tables.now a.class a.word (s.result * 64) _ refl h (is_err c.append.result) c.append.new.tables (c.append.ensures.row text))
    (ap is_err c.in_ok-append.was) c.requires c.member_count-place.result
    (omega (arith, h, c.member_count-place.ensures, place_within (members_of text a.tables.now a.class 1) (name_of text a.word), member_count_law text a.tables.now a.class 1))
    _ c.put_class_word.ensures
