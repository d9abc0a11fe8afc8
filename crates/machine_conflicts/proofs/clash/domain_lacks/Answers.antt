-- `domain_lacks` meets its contract: each class is tested.
use Rattle.std.proofs.Common.{refl, ap, ℕ, ◌∙◌, arith, rules, tests}
use Rattle.std.proofs.lemmas.Iterator.{YieldsList-from_range}
use Rattle.std.proofs.lemmas.Iterator.Search.{any_from_yields_List}
use Rattle.model.specs.Base.{any, upto}
use Rattle.machine_words.specs.Said.{asked}
use Rattle.machine_conflicts.specs.Tested.{any_below}
use Rattle.machine_words.specs.Request.{lacks}
use Rattle.machine_conflicts.specs.Clashing.{lacking_other, lacking_domain}
use Rattle.machine_conflicts.proofs.clash.domain_lacks.Goals as goal

pub returns-then-wanted-ne-DOMAIN_KIND : goal.returns-then-wanted-ne-DOMAIN_KIND
returns-then-wanted-ne-DOMAIN_KIND c = lacking_other _ _ _ c.if-wanted-ne-DOMAIN_KIND.true

pub returns : goal.returns
returns c =
    let a = c.args in
    let p = lacks a.text.now a.tables.now (asked a.wanted) in
    any_from_yields_List p _ _ c.any.result c.any.ensures.ran (YieldsList-from_range 0 _ c.class_count.result refl (omega arith)) (λ x b q k. search (rules, tests))
    ∙ any_below p c.class_count.result ∙ ap (λ (n : ℕ). any p (upto (λ d. d) n)) c.class_count.ensures
    ∙ lacking_domain _ _ _ c.if-wanted-ne-DOMAIN_KIND.false
