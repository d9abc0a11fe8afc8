-- The slots in a send's way, gathered in a mask from slot 0 on: the number of its trailing zeros is the lowest of them.
use Prim.Native.Nat.{ℕ, zero, suc, ◌+◌, ◌*◌, ◌/◌, ◌%◌, ◌^◌, ◌≤◌, ◌<◌}
use native.Mathlib.Omega.{arith}
use Rattle.std.proofs.Common.{pow-suc, mul_assoc, add-one, sym, ◌∙◌, pow_pos}
use Rattle.std.specs.Prelude.{◌≡◌, Bool, not, cond, ◌&&◌}
use Rattle.std.proofs.Math.Path.{refl, ap, ap₂, subst}
use Rattle.std.proofs.Math.Bool.{true, false}
use Rattle.std.proofs.Math.Option.{none, some, or_else}
use Rattle.std.proofs.Math.Pow.{shl_exact}
use Rattle.std.specs.Int.Bits.{bit_or, or_shifted_r}
use Rattle.std.specs.Int.Count.{under, count_trailing_zeros}
use Rattle.std.proofs.Math.Dec.{eqb}
use borrow.Author.Tests.{eq-eqb, ne_eqb}
use Rattle.model.specs.Base.{least, digit}

-- Bit k is 1 exactly for the numbers k below n for which p holds.
unfoldable pub gathered : (ℕ → Bool) → ℕ → ℕ
gathered p zero = 0
gathered p (suc n) = gathered p n + digit (p n) * 2 ^ n

double : (n : ℕ) → 2 ^ suc n ≡ 2 ^ n * 2
double n = pow-suc 2 n

digit_le : (b : Bool) (x : ℕ) → digit b * x ≤ x
digit_le true x = omega arith
digit_le false x = omega arith

gathered_lt : (p : ℕ → Bool) (n : ℕ) → gathered p n < 2 ^ n
unfolding gathered
gathered_lt p zero = omega arith
gathered_lt p (suc n) = omega (arith, double n, gathered_lt p n, digit_le (p n) (2 ^ n))

-- ---- a turn of the loop

module _ (p : ℕ → Bool) (m n : ℕ) (h : n < 32) (e : m ≡ gathered p n) where
  pub gather : p n ≡ true → bit_or m ((1 * 2 ^ n) % 2 ^ 32) ≡ gathered p (n + 1)
  unfolding gathered
  gather t =
      let s : (1 * 2 ^ n) % 2 ^ 32 ≡ 1 * 2 ^ n = shl_exact {a = 1} 1 n 32 (omega arith) (omega arith) in
      let l : m < 2 ^ n = subst (λ (x : ℕ). x < 2 ^ n) (sym e) (gathered_lt p n) in
      let o = or_shifted_r 1 n m l in
      rw (add-one n, t, ← e) (ap (bit_or m) s ∙ o ∙ (omega arith))

  pub pass : p n ≡ false → m ≡ gathered p (n + 1)
  unfolding gathered
  pass t = rw (add-one n, t, ← e) (omega arith)

-- ---- all numbers but one

-- All but the number s.
abbrev pub besides : ℕ → (ℕ → Bool) → ℕ → Bool
besides s p n = not (eqb n s) && p n

module _ (s : ℕ) (p : ℕ → Bool) (n : ℕ) where
  pub beside_there : (n ≡ s → ⊥) → p n ≡ true → besides s p n ≡ true
  beside_there ne t = rw (ne_eqb n s ne, t)

  pub beside_own : n ≡ s → besides s p n ≡ false
  beside_own e = rw (eq-eqb n s e)

  pub beside_none : p n ≡ false → besides s p n ≡ false
  beside_none t = rw t (go (eqb n s))
    where
      go : (b : Bool) → (not b && false) ≡ false
      go true = refl
      go false = refl

-- ---- trailing zeros

zeros_of_bit : (n k : ℕ) → n < k → count_trailing_zeros k (2 ^ n) ≡ n
unfolding count_trailing_zeros
zeros_of_bit n zero h = absurd (omega arith)
zeros_of_bit zero (suc k) h = refl
zeros_of_bit (suc n) (suc k) h =
    let d : 2 ^ suc n % 2 ≡ 0 = omega (arith, double n) in
    let q : 2 ^ suc n / 2 ≡ 2 ^ n = omega (arith, double n) in
    ap₂ (λ (x y : ℕ). under x (count_trailing_zeros k y)) d q ∙ ap suc (zeros_of_bit n k (omega arith))

-- A bit above the lowest one does not alter the trailing zeros.
zeros_below : (n k m a : ℕ) → m < 2 ^ n → (m ≡ 0 → ⊥) → count_trailing_zeros k (m + a * 2 ^ n) ≡ count_trailing_zeros k m
unfolding count_trailing_zeros
zeros_below n zero m a l z = refl
zeros_below zero (suc k) m a l z = absurd (z (omega arith))
zeros_below (suc n) (suc k) m a l z =
    let b : ℕ = a * 2 ^ n in
    let w : a * 2 ^ suc n ≡ b * 2 = ap (λ (x : ℕ). a * x) (double n) ∙ sym (mul_assoc a (2 ^ n) 2) in
    let d : (m + a * 2 ^ suc n) % 2 ≡ m % 2 = omega arith in
    let q : (m + a * 2 ^ suc n) / 2 ≡ m / 2 + b = omega arith in
    ap₂ (λ (x y : ℕ). under x (count_trailing_zeros k y)) d q ∙ go (m % 2) refl (zeros_below n k (m / 2) a (omega (arith, double n)))
  where
    go : (d : ℕ) → m % 2 ≡ d → ((m / 2 ≡ 0 → ⊥) → count_trailing_zeros k (m / 2 + a * 2 ^ n) ≡ count_trailing_zeros k (m / 2))
        → under d (count_trailing_zeros k (m / 2 + a * 2 ^ n)) ≡ under d (count_trailing_zeros k (m / 2))
    go zero e rest = ap suc (rest (λ x. z (omega arith)))
    go (suc d) e rest = refl

-- ---- the lowest slot

module _ (p : ℕ → Bool) where
  -- Without a bit there is no slot.
  pub least_none : (n : ℕ) → gathered p n ≡ 0 → least p n ≡ none
  unfolding gathered least
  least_none zero e = refl
  least_none (suc n) e = go (p n) refl (least_none n low)
    where
      low : gathered p n ≡ 0
      low = omega arith

      go : (t : Bool) → p n ≡ t → least p n ≡ none → or_else (least p n) (cond (p n) (some n) none) ≡ none
      go true t rest = absurd (omega (arith, pow_pos n, ap (λ (b : Bool). gathered p n + digit b * 2 ^ n) t))
      go false t rest = rw (rest, t)

  pub least_some : (k n : ℕ) → n ≤ k → (gathered p n ≡ 0 → ⊥) → least p n ≡ some (count_trailing_zeros k (gathered p n))
  unfolding gathered least
  least_some k zero h z = absurd (z refl)
  least_some k (suc n) h z = go (gathered p n) refl (least_some k n (omega arith))
    where
      above : (t : Bool) → p n ≡ t → gathered p n ≡ 0 → or_else (least p n) (cond (p n) (some n) none) ≡ some (count_trailing_zeros k (gathered p n + digit (p n) * 2 ^ n))
      above true t e =
          let w : 0 + 1 * 2 ^ n ≡ 2 ^ n = omega arith in
          rw (least_none n e, e, t, w, zeros_of_bit n k (omega arith))
      above false t e = absurd (z (rw (e, t) (omega arith)))

      go : (m : ℕ) → gathered p n ≡ m → ((gathered p n ≡ 0 → ⊥) → least p n ≡ some (count_trailing_zeros k (gathered p n)))
          → or_else (least p n) (cond (p n) (some n) none) ≡ some (count_trailing_zeros k (gathered p n + digit (p n) * 2 ^ n))
      go zero e rest = above (p n) refl e
      go (suc m) e rest =
          let low : gathered p n ≡ 0 → ⊥ = λ x. omega arith in
          rw (rest low, zeros_below n k (gathered p n) (digit (p n)) (gathered_lt p n) low)
