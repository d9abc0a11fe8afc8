-- `row_apart` meets its contract: every rank of the second method is tested.
use Rattle.std.proofs.Common.{refl, rules, tests}
use Rattle.std.proofs.lemmas.Iterator.{YieldsList-from_range}
use Rattle.std.proofs.lemmas.Iterator.Search.{all_from_yields_List}
use Rattle.model.specs.Base.{every, upto}
use Rattle.model.specs.Mode.{compatible}
use Rattle.vector_commute.specs.Ranks.{pair_apart}
use Rattle.vector_commute.specs.Commuting.{mode_mask}
use Rattle.vector_commute.proofs.row_apart.Goals as goal

pub returns : goal.returns
unfolding every upto
returns c =
    let a = c.args in
    all_from_yields_List (pair_apart compatible (mode_mask a.a) (mode_mask a.b) a.i) _ _ c.all.result c.all.ensures.ran (YieldsList-from_range 0 4 4 refl refl) (λ x b q k. search (rules, tests))
