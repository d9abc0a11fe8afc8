-- `misses_one` meets its contract: each class is tested.
use Rattle.std.proofs.Common.{refl, ap, ℕ, ◌∙◌, arith, rules, tests}
use Rattle.std.proofs.lemmas.Iterator.{YieldsList-from_range}
use Rattle.std.proofs.lemmas.Iterator.Search.{any_from_yields_List}
use Rattle.model.specs.Base.{any, upto}
use Rattle.machine_words.specs.Said.{asked}
use Rattle.machine_conflicts.specs.Tested.{any_below}
use Rattle.machine_words.specs.Request.{misses}
use Rattle.machine_conflicts.specs.Own.{misses_one}
use Rattle.machine_conflicts.proofs.own.misses_one.Goals as goal

pub returns : goal.returns
unfolding misses_one
returns c =
    let a = c.args in
    let p = misses a.text.now a.tables.now (asked a.wanted) a.row.now in
    any_from_yields_List p _ _ c.any.result c.any.ensures.ran (YieldsList-from_range 0 _ c.class_count.result refl (omega arith)) (λ x b q k. search (rules, tests))
    ∙ any_below p c.class_count.result ∙ ap (λ (n : ℕ). any p (upto (λ d. d) n)) c.class_count.ensures
