-- `lacks_method` meets its contract: the class lacks the method where a look-up of its name finds none.
use mathlib.Core.Path.{◌≡◌, sym, ◌∙◌}
use Rattle.std.proofs.Common.{rules}
use Rattle.std.specs.Option.{is_none}
use Rattle.machine_conflicts.specs.Clashing.{lacks_outside, lacks_by}
use Rattle.machine_conflicts.proofs.clash.lacks_method.Goals as goal

pub returns-then-not-in_domain : goal.returns-then-not-in_domain
returns-then-not-in_domain c = lacks_outside _ _ _ _ (sym c.in_domain.ensures ∙ c.if-not-in_domain.true)

pub returns : goal.returns
returns c =
    let e : c.is_none.result ≡ is_none c.find.result = search rules in
    e
    ∙ lacks_by _ _ _ _ _ c.name_of-name.ensures (sym c.in_domain.ensures ∙ c.if-not-in_domain.false) _ c.find.ensures
