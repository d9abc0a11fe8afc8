-- `read_parents::differs_from` meets its contract: each field of the class is compared.
use Rattle.std.proofs.Common.{ℕ, sym, ap, refl, ◌∙◌, arith, rules, tests}
use Rattle.std.proofs.lemmas.Iterator.{YieldsList-from_range}
use Rattle.std.proofs.lemmas.Iterator.Search.{any_from_yields_List}
use Rattle.model.specs.Base.{any, upto}
use Rattle.catalog.specs.View.{member_at}
use Rattle.catalog.specs.Look.{shown_members}
use Rattle.read_parents.specs.Parents.{differing}
use Rattle.read_parents.proofs.Loops.{any_counted}
use Rattle.read_parents.proofs.differs_from.Goals as goal

pub returns : goal.returns
unfolding member_at
returns c =
    let a = c.args in
    let p = differing a.text.now a.word in
    let f = member_at a.text.now a.tables.now a.class 0 in
    any_from_yields_List (λ j. p (f j)) _ _ c.any.result c.any.ensures.ran
    (YieldsList-from_range 0 _ c.shown_count-count.result refl (omega arith)) (λ x b q k. search (rules, tests))
    ∙ any_counted p f c.shown_count-count.result
    ∙ ap (λ (n : ℕ). any p (upto f n)) c.shown_count-count.ensures
    ∙ sym (ap (any p) (shown_members a.text.now a.tables.now a.class 0 (omega arith)))
