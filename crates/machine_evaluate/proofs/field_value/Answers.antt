-- `field_value` meets its contract: the value is at the field's place, and there is none where the class has no such field.
use Rattle.std.proofs.Common.{ℕ, length, refl, sym, ap, ◌∙◌}
use mathlib.Core.Option.{Option, some}
use Rattle.catalog.specs.View.{members_of}
use Rattle.model.specs.Library.{member_place}
use Rattle.machine_evaluate.specs.Valued.{valued_at, field_there, field_none}
use Rattle.machine_evaluate.proofs.field_value.Goals as goal

pub returns-in_err-place : goal.returns-in_err-place
returns-in_err-place c =
    let n = c.args.name.now in
    let s = c.args.scope.now in
    let p = member_place (members_of s.text.now s.tables.now s.class 0) n in
    c.from_residual.ensures
    ∙ ap (λ (x : Option ℕ). valued_at x (length n)) (sym (field_none s.text.now s.tables.now s.class s.own.now s.arg s.got n p _ refl refl c.in_err-place.ensures))

pub returns : goal.returns
returns c =
    let n = c.args.name.now in
    let s = c.args.scope.now in
    let p = c.in_ok-place.ensures in
    ap (λ (v : ℕ). valued_at (some v) (length n)) c.get.ensures
    ∙ ap (λ (x : Option ℕ). valued_at x (length n)) (sym (field_there s.text.now s.tables.now s.class s.own.now s.arg s.got n _ _ p.0 refl p.1))
