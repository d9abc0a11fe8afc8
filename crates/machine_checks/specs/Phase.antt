-- The phase of a slot that its row's first word stands for.
use Rattle.std.specs.Prelude.{◌≡◌, ℕ, suc, zero, ◌≤◌, cond, eqb, ltb, Result, Ok, Err, refl}
use Rattle.std.proofs.Common.{arith, ap}
use mathlib.Core.Logic.{◌⊎◌, ⊎_elim}
use Rattle.std.proofs.Math.Decide.{dec_le}
use borrow.Author.Tests.{ne_eqb, lt-ltb}
use Rattle.refusals.specs.Numbers.{refusal_in}
use Rattle.layout.specs.Layout.{closed_phase, idle_phase, running_phase, waiting_phase}
use Rattle.refusals.specs.declared.Refusal.{Refusal}
use Rattle.refusals.specs.declared.Refusal.TheVariants.{Misfit}
use Rattle.machine_checks.specs.declared.Phase.{Phase}
use Rattle.machine_checks.specs.declared.Phase.TheVariants.{Closed, Idle, Running, Waiting}

abbrev pub phase_number : Phase → ℕ
phase_number Closed = closed_phase
phase_number Idle = idle_phase
phase_number Running = running_phase
phase_number Waiting = waiting_phase

-- A word that is no phase does not fit.
abbrev pub phase_from : ℕ → Result Phase Refusal
phase_from n =
    cond (eqb n closed_phase) (Ok Closed)
    (cond (eqb n idle_phase) (Ok Idle)
    (cond (eqb n running_phase) (Ok Running)
    (cond (eqb n waiting_phase) (Ok Waiting) (Err Misfit))))

pub phase_fits : (n : ℕ) → refusal_in (phase_from n) ≡ cond (ltb 3 n) 24 0
phase_fits n = go (dec_le n 3)
  where
    small : (k : ℕ) → k ≤ 3 → refusal_in (phase_from k) ≡ cond (ltb 3 k) 24 0
    small zero h = refl
    small (suc zero) h = refl
    small (suc (suc zero)) h = refl
    small (suc (suc (suc zero))) h = refl
    small (suc (suc (suc (suc k)))) h = absurd (omega arith)

    go : Dec (n ≤ 3) → refusal_in (phase_from n) ≡ cond (ltb 3 n) 24 0
    go (yes h) = small n h
    go (no h) =
        rw (
          ne_eqb n 0 (λ e. h (omega arith)),
          ne_eqb n 1 (λ e. h (omega arith)),
          ne_eqb n 2 (λ e. h (omega arith)),
          ne_eqb n 3 (λ e. h (omega arith)),
          lt-ltb 3 n (omega (arith, h)),
        )

-- A phase by its number.
pub closed_is : (p : Phase) → phase_number p ≡ 0 → p ≡ Closed
closed_is Closed e = refl
closed_is Idle e = absurd (omega arith)
closed_is Running e = absurd (omega arith)
closed_is Waiting e = absurd (omega arith)

pub waiting_is : (p : Phase) → phase_number p ≡ 3 → p ≡ Waiting
waiting_is Closed e = absurd (omega arith)
waiting_is Idle e = absurd (omega arith)
waiting_is Running e = absurd (omega arith)
waiting_is Waiting e = refl

pub running_is : (p : Phase) → phase_number p ≡ 2 → p ≡ Running
running_is Closed e = absurd (omega arith)
running_is Idle e = absurd (omega arith)
running_is Running e = refl
running_is Waiting e = absurd (omega arith)

-- An open slot that does not wait.
pub ready_is : (p : Phase) → (p ≡ Idle) ⊎ (p ≡ Running) → (phase_number p ≡ 0 → ⊥) × (phase_number p ≡ 3 → ⊥)
ready_is p =
    ⊎_elim (λ e. (λ z. omega (arith, ap phase_number e), λ z. omega (arith, ap phase_number e)))
    (λ e. (λ z. omega (arith, ap phase_number e), λ z. omega (arith, ap phase_number e)))
