-- What carrying out a turn leaves.
use Rattle.std.specs.Prelude.{◌≡◌, ℕ, List, Result}
use Rattle.refusals.specs.declared.Refusal.{Refusal}
use Rattle.machine_words.specs.declared.Outcome.{Outcome}
use Rattle.machine_words.specs.Row.{Left}
use Rattle.machine_words.specs.Said.{told}

-- The answer, the row and the values after a turn are those of the definition.
pub record Leaves (x : Left) (r : Result Outcome Refusal) (row values : List ℕ) : Type 0 where
  pub says : told r ≡ x.answered
  pub row_is : row ≡ x.row
  pub values_are : values ≡ x.values
