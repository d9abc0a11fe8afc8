-- What a call leaves, in the definition's terms.
use Rattle.std.specs.Prelude.{◌≡◌, Result, refl, Err}
use Rattle.std.proofs.Common.{arith}
use Rattle.refusals.specs.Numbers.{refusal_number}
use Rattle.refusals.specs.declared.Refusal.TheVariants.{TooShort, OtherCount, NoStatement, Misfit, NoSlot, NotOpen, Running, NotRunning, NothingThere, Waiting, Circle}
use Rattle.refusals.specs.declared.Refusal.{Refusal}
use Rattle.machine_words.specs.declared.Outcome.{Outcome}
use Rattle.machine_words.specs.Said.{told}
use Rattle.machine_words.specs.Calls.{Lent, After, refused}

-- The answer of a call, and what it left of what was lent, are those of the definition.
pub record Leaves (after : After) (r : Result Outcome Refusal) (y : Lent) : Type 0 where
  pub says : told r ≡ after.answered
  pub left : y ≡ after.lent

-- No refusal has the number 0.
pub refused_some : (r : Refusal) → refusal_number r ≡ 0 → ⊥
refused_some TooShort e = omega arith
refused_some OtherCount e = omega arith
refused_some NoStatement e = omega arith
refused_some Misfit e = omega arith
refused_some NoSlot e = omega arith
refused_some NotOpen e = omega arith
refused_some Running e = omega arith
refused_some NotRunning e = omega arith
refused_some NothingThere e = omega arith
refused_some Waiting e = omega arith
refused_some Circle e = omega arith

-- A refusal leaves all unchanged.
pub leaves_refused : (x : Lent) (r : Refusal) → Leaves (refused x (refusal_number r)) (Err r) x
leaves_refused x r = record { says = refl; left = refl }
