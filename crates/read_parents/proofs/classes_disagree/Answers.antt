-- `read_parents::classes_disagree` meets its contract: each field of the class is compared with those of the other.
use Rattle.std.proofs.Common.{ℕ, sym, ap, refl, ◌∙◌, arith, rules, tests}
use Rattle.std.proofs.lemmas.Iterator.{YieldsList-from_range}
use Rattle.std.proofs.lemmas.Iterator.Search.{any_from_yields_List}
use Rattle.model.specs.Base.{any, upto}
use Rattle.model.specs.Library.{class_at}
use Rattle.model.specs.Fault.{disagree}
use Rattle.catalog.specs.View.{member_at, library_of}
use Rattle.catalog.specs.Look.{shown_members}
use Rattle.read_parents.specs.Parents.{differs_from}
use Rattle.read_parents.proofs.Loops.{any_counted}
use Rattle.read_parents.proofs.classes_disagree.Goals as goal

pub returns : goal.returns
unfolding disagree member_at
returns c =
    let a = c.args in
    let p = differs_from (class_at (library_of a.text.now a.tables.now) a.other).fields in
    let f = member_at a.text.now a.tables.now a.class 0 in
    any_from_yields_List (λ j. p (f j)) _ _ c.any.result c.any.ensures.ran
    (YieldsList-from_range 0 _ c.shown_count-count.result refl (omega arith)) (λ x b q k. search (rules, tests))
    ∙ any_counted p f c.shown_count-count.result
    ∙ ap (λ (n : ℕ). any p (upto f n)) c.shown_count-count.ensures
    ∙ sym (ap (any p) (shown_members a.text.now a.tables.now a.class 0 (omega arith)))
