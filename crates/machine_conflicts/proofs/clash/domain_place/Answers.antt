-- `domain_place` meets its contract: a look-up of the name, in a class of the domain.
use mathlib.Core.Path.{sym, ◌∙◌}
use Rattle.machine_conflicts.specs.Clashing.{outside, placed_by}
use Rattle.machine_conflicts.proofs.clash.domain_place.Goals as goal

pub returns-then-not-in_domain : goal.returns-then-not-in_domain
returns-then-not-in_domain c = sym (outside _ _ _ _ (sym c.in_domain.ensures ∙ c.if-not-in_domain.true))

pub returns : goal.returns
returns c = placed_by _ _ _ _ _ c.name_of-name.ensures (sym c.in_domain.ensures ∙ c.if-not-in_domain.false) _ c.find.ensures
