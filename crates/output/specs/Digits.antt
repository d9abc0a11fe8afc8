-- The decimal digits of a number as a recursion writes them.
use Rattle.std.specs.Prelude.{ℕ, zero, suc, ◌+◌, ◌-◌, ◌/◌, ◌%◌, ◌≤◌, ◌<◌, ◌≡◌, refl, Bool, true, false, cond, [], ◌∷◌, ◌++◌, length, ltb}
use Rattle.std.proofs.Common.{ap, arith, length-append, lt-ltb, le-ltb}
use Rattle.model.specs.Tables.{digits}

pub digits_none : (n k : ℕ) → n ≡ 0 → [] ≡ digits n k
unfolding digits
digits_none n k e = rw e

pub digits_last : (n k : ℕ) → (n ≡ 0 → ⊥) → k < 10 → (48 + k) ∷ [] ≡ digits n k
unfolding digits
digits_last zero k h l = absurd (h refl)
digits_last (suc n) k h l = rw (lt-ltb k 10 l)

pub digits_more : (n k : ℕ) → (n ≡ 0 → ⊥) → 10 ≤ k → digits (n - 1) (k / 10) ++ ((48 + k % 10) ∷ []) ≡ digits n k
unfolding digits
digits_more zero k h l = absurd (h refl)
digits_more (suc n) k h l =
    let e : suc n - 1 ≡ n = omega arith in
    rw (le-ltb k 10 l) (ap (λ (m : ℕ). digits m (k / 10) ++ ((48 + k % 10) ∷ [])) e)

pub digits_le : (n k : ℕ) → length (digits n k) ≤ n
unfolding digits
digits_le zero k = omega arith
digits_le (suc n) k = go (ltb k 10) (digits_le n (k / 10))
  where
    go : (t : Bool) → length (digits n (k / 10)) ≤ n → length (cond t ((48 + k) ∷ []) (digits n (k / 10) ++ ((48 + k % 10) ∷ []))) ≤ suc n
    go true h = omega arith
    go false h = omega (arith, length-append (digits n (k / 10)) ((48 + k % 10) ∷ []))
