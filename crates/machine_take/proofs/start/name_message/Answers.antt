-- `name_message` meets its contract: five stores, in the definition's order.
use Prim.Native.Nat.{ℕ}
use mathlib.Core.Path.{ap, ◌∙◌}
use mathlib.Core.List.{List}
use lib.ListN.{set}
use Rattle.layout.specs.Layout.{kind_at, number_at, name_at, argument_at}
use Rattle.machine_words.specs.Request.{named_row}
use Rattle.machine_take.proofs.start.name_message.Goals as goal

pub returns : goal.returns
unfolding named_row
returns c =
    let w = c.args.wanted in
    let kind = c.put-2.ensures ∙ ap (λ (l : List ℕ). set l kind_at w.kind) c.put.ensures in
    let number = c.put-3.ensures ∙ ap (λ (l : List ℕ). set l number_at w.number) kind in
    let name = c.put-4.ensures ∙ ap (λ (l : List ℕ). set l name_at w.name) number in
    c.put-5.ensures ∙ ap (λ (l : List ℕ). set l argument_at w.argument) name
