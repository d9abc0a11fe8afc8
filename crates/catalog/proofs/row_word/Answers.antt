-- `catalog::row_word` meets its contract: it gets the word that the definition names.
use Prim.Native.Nat.{ℕ}
use mathlib.Core.Path.{ap, ◌∙◌}
use lib.ListN.{get_or}
use Rattle.catalog.specs.View.{class_word}
use Rattle.catalog.proofs.row_word.Goals as goal

pub returns : goal.returns
unfolding class_word
returns c =
    let a = c.args in
    c.get.ensures ∙ ap (λ (i : ℕ). get_or a.tables.now i 0) c.member_place.ensures
