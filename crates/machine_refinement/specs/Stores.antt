-- What a store, and a new activation, leave in a row.
use Rattle.std.specs.Prelude.{ℕ, ◌+◌, ◌*◌, ◌≤◌, ◌<◌, ◌≡◌, ◌≢◌, List, length, get_or, set}
use Rattle.std.proofs.Common.{arith, ◌∙◌, get_or-set_same, get_or-set_other}
use Rattle.std.proofs.Math.ListN.{length-set}
use Rattle.layout.specs.Layout.{activations_at, next_at, end_at, activation_words}
use Rattle.model.specs.Library.{Library}
use Rattle.model.specs.Message.{opened}
use Rattle.machine_words.specs.Row.{act, with_act, new_act}
use Rattle.machine_refinement.specs.Rep.{between, activation_of}
use Rattle.machine_refinement.specs.Runs.{activation_is}

-- A word of a row after a store at another place, and after one at its own.
pub else_word : (row : List ℕ) (i v j : ℕ) → j ≢ i → get_or (set row i v) j 0 ≡ get_or row j 0
else_word row i v j ne = get_or-set_other row i j v 0 ne

pub new_word : (row : List ℕ) (i v : ℕ) → i < length row → get_or (set row i v) i 0 ≡ v
new_word row i v h = get_or-set_same row i v 0 h

module _ (row : List ℕ) (k first end argument : ℕ) where
  abbrev at : ℕ → ℕ
  at i = activations_at + k * activation_words + i

  -- The five stores of a new activation, one after another; the last is of its reply.
  abbrev one : List ℕ
  one = set row (at 0) first

  abbrev two : List ℕ
  two = set one (at 1) end

  abbrev three : List ℕ
  three = set two (at 2) argument

  abbrev four : List ℕ
  four = set three (at 3) 0

  long_four : length four ≡ length row
  long_four = length-set three (at 3) 0 ∙ length-set two (at 2) argument ∙ length-set one (at 1) end ∙ length-set row (at 0) first

  -- A new activation changes five words and no length.
  pub act_length : length (new_act row k first end argument) ≡ length row
  unfolding new_act with_act
  act_length = length-set four (at 4) 0 ∙ long_four

  pub act_other : (i : ℕ) → (activations_at + k * activation_words ≤ i → i < activations_at + k * activation_words + activation_words → ⊥) → get_or (new_act row k first end argument) i 0 ≡ get_or row i 0
  unfolding new_act with_act
  act_other i out =
      else_word four (at 4) 0 i (λ e. out (omega arith) (omega arith)) ∙ else_word three (at 3) 0 i (λ e. out (omega arith) (omega arith))
      ∙ else_word two (at 2) argument i (λ e. out (omega arith) (omega arith)) ∙ else_word one (at 1) end i (λ e. out (omega arith) (omega arith))
      ∙ else_word row (at 0) first i (λ e. out (omega arith) (omega arith))

  module _ (l : Library) (room : activations_at + k * activation_words + activation_words ≤ length row) where
    -- It starts and ends where the body does.
    pub act_start : act (new_act row k first end argument) k next_at ≡ first
    unfolding new_act with_act act
    act_start =
        else_word four (at 4) 0 (at 0) (omega arith) ∙ else_word three (at 3) 0 (at 0) (omega arith) ∙ else_word two (at 2) argument (at 0) (omega arith)
        ∙ else_word one (at 1) end (at 0) (omega arith) ∙ new_word row (at 0) first (omega arith)

    pub act_end : act (new_act row k first end argument) k end_at ≡ end
    unfolding new_act with_act act
    act_end =
        else_word four (at 4) 0 (at 1) (omega arith) ∙ else_word three (at 3) 0 (at 1) (omega arith) ∙ else_word two (at 2) argument (at 1) (omega arith)
        ∙ new_word one (at 1) end (omega (arith, length-set row (at 0) first))

    -- It is an activation with its own arg, and got and reply 0.
    pub act_opened : activation_of l (new_act row k first end argument) k ≡ opened (between l first end) argument
    unfolding new_act with_act act
    act_opened =
        let long₂ = length-set one (at 1) end ∙ length-set row (at 0) first in
        let long₃ = length-set two (at 2) argument in
        activation_is l (new_act row k first end argument) k first end argument 0 0 act_start act_end
        (else_word four (at 4) 0 (at 2) (omega arith) ∙ else_word three (at 3) 0 (at 2) (omega arith) ∙ new_word two (at 2) argument (omega arith))
        (else_word four (at 4) 0 (at 3) (omega arith) ∙ new_word three (at 3) 0 (omega arith)) (new_word four (at 4) 0 (omega (arith, long_four)))
