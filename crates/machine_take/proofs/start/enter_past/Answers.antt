-- `enter_past` meets its contract: four stores, in the definition's order.
use Prim.Native.Nat.{ℕ}
use mathlib.Core.Path.{ap, ◌∙◌}
use mathlib.Core.List.{List}
use lib.ListN.{set}
use Rattle.layout.specs.Layout.{depth_at, steps_at, sum_at}
use Rattle.machine_words.specs.Request.{past_row}
use Rattle.machine_take.proofs.start.enter_past.Goals as goal

pub returns : goal.returns
unfolding past_row
returns c =
    let depth = c.put-2.ensures ∙ ap (λ (l : List ℕ). set l depth_at 0) c.put.ensures in
    let steps = c.put-3.ensures ∙ ap (λ (l : List ℕ). set l steps_at 0) depth in
    c.put-4.ensures ∙ ap (λ (l : List ℕ). set l sum_at 0) steps
