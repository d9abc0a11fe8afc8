-- `read_classes::add_field` meets its contract: a name that the class has is refused, and any other is appended.
use Rattle.std.specs.Prelude.{is_err, Result, Ok, Err, IsOkUnless, true, false, refl}
use Rattle.refusals.specs.Numbers.{fault_in}
use Rattle.refusals.specs.declared.Fault.{Fault}
use Rattle.refusals.specs.declared.Fault.TheVariants.{TooMany}
use Rattle.read_classes.specs.Made.{FieldAdded}
use mathlib.Core.Path.{◌≡◌}
use Rattle.model.specs.Library.{among}
use Rattle.catalog.specs.View.{members_of}
use Rattle.laws.specs.Upto.{told}
use Rattle.read_classes.proofs.FieldLaws.{field_known, field_over, field_made}
use Rattle.read_classes.proofs.add_field.Goals as goal

pub returns-then-has_member : goal.returns-then-has_member
returns-then-has_member c =
    let a = c.args in
    field_known _ _ _ _ (told (among (members_of a.text.now a.tables.now a.class 0)) c.name_of-name.ensures c.has_member.ensures c.if-has_member.true) _

pub returns : goal.returns
returns c =
    let a = c.args in
    let new = told (among (members_of a.text.now a.tables.now a.class 0)) c.name_of-name.ensures c.has_member.ensures c.if-has_member.false in
    go c.append.result c.append.ensures.fault (λ over. field_over _ _ _ _ new _ _ (c.append.ensures.row _) over)
    (λ made. field_made _ _ _ _ new _ _ (c.append.ensures.row _) made)
  where
    go : (r : Result (Unit {0}) Fault) → IsOkUnless r TooMany → (is_err r ≡ true → FieldAdded c.args.text.now c.args.tables.now c.args.class c.args.word 17 c.append.new.tables)
        → (is_err r ≡ false → FieldAdded c.args.text.now c.args.tables.now c.args.class c.args.word 0 c.append.new.tables)
        → FieldAdded c.args.text.now c.args.tables.now c.args.class c.args.word (fault_in r) c.append.new.tables
    go (Ok x) f h k = k refl
    go (Err e) f h k = rw f (h refl)
