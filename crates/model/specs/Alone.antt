-- A send run alone, as the plain course runs it (01, "To run a send, take its objects in the order above").
use Rattle.std.specs.Prelude.{ℕ, zero, suc, List, [], ◌∷◌}
use Rattle.std.proofs.Math.Option.{Option, none, some}
use Rattle.model.specs.Vector.{Program}
use Rattle.model.specs.Message.{Message, visited, act, Run, visit, plus_reply, Outcome, goes, ends, stops, turn}

-- An answer and the fields after it; none: "A run that would be stopped ends without an answer".
abbrev pub Ran : Type 0
Ran = Option (ℕ × List ℕ)

abbrev pub then_run : Ran → (ℕ → List ℕ → Ran) → Ran
then_run none next = none
then_run (some x) next = next x.0 x.1

abbrev pub go_on : Outcome → List ℕ → (Run → List ℕ → Ran) → Ran
go_on (goes r e) fields next = next r (act e fields)
go_on (ends v e) fields next = some (v, act e fields)
go_on stops fields next = none

-- "runs alone by the rules of a step until its body ends", within n steps
unfoldable pub finished : Program → ℕ → Run → List ℕ → Ran
unfolding turn
finished p zero r fields = none
finished p (suc n) r fields = go_on (turn p r fields) fields (λ next after. finished p n next after)

-- "On each, its own class's method of the name sent runs alone"; no object takes more than 1,024 steps.
unfoldable pub object_by_object : Program → Message → List ℕ → ℕ → List ℕ → Ran
unfolding finished
object_by_object p m [] sum fields = some (sum, fields)
object_by_object p m (o ∷ os) sum fields =
    then_run (finished p 1024 (visit p m (o ∷ []) 0) fields) (λ v after. object_by_object p m os (plus_reply sum v) after)

-- "The answer is the reply, or the replies' sum .. (0 with no objects)."
unfoldable pub alone : Program → Message → List ℕ → Ran
unfolding object_by_object visited
alone p m fields = object_by_object p m (visited p m.target) 0 fields
