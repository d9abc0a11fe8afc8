-- `read_classes::has_member` meets its contract: a name is found exactly if its place is before the end of the row.
use Rattle.std.specs.Prelude.{ℕ, ◌≡◌, Option, Some, None, is_some, ltb}
use Rattle.std.proofs.Common.{sym, ap, ◌∙◌, lt-ltb, le-ltb, arith}
use Rattle.catalog.specs.View.{members_of}
use Rattle.catalog.specs.Look.{Found, member_count_law, among_place}
use Rattle.model.specs.Library.{member_place}
use Rattle.read_classes.proofs.has_member.Goals as goal

found_test : (r : Option ℕ) (p n : ℕ) → Found r p n → is_some r ≡ ltb p n
found_test (Some x) p n h = sym (lt-ltb p n (omega (arith, h.0, h.1)))
found_test None p n h = sym (le-ltb p n h)

pub returns : goal.returns
returns c =
    let a = c.args in
    let ms = members_of a.text.now a.tables.now a.class a.kind in
    c.is_some.ensures
    ∙ found_test _ _ _ c.find.ensures
    ∙ ap (ltb (member_place ms a.name.now)) (sym (member_count_law a.text.now a.tables.now a.class a.kind))
    ∙ sym (among_place ms a.name.now)
