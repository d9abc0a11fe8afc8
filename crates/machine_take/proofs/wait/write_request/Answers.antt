-- `write_request` meets its contract: the message's words, then the method's place.
use Prim.Native.Nat.{ℕ}
use mathlib.Core.Path.{ap, ◌∙◌}
use mathlib.Core.List.{List}
use lib.ListN.{set}
use Rattle.layout.specs.Layout.{place_at}
use Rattle.machine_words.specs.Line.{requested}
use Rattle.machine_take.proofs.wait.write_request.Goals as goal

pub returns : goal.returns
unfolding requested
returns c =
    let w = c.args.wanted in
    c.put.ensures ∙ ap (λ (l : List ℕ). set l place_at w.place) c.name_message.ensures
