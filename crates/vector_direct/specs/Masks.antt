-- Masks of tests over a list, as the code makes them: a union, an intersection, a difference, and one more bit at the top.
use Prim.Native.Nat.{ℕ, zero, suc, ◌+◌, ◌-◌, ◌*◌, ◌/◌, ◌%◌, ◌^◌, min, max, ◌≤◌, ◌<◌}
use Rattle.std.specs.Prelude.{◌≡◌, Bool, true, false, ◌&&◌, ◌||◌}
use Rattle.std.proofs.Math.Path.{refl, ap}
use Rattle.std.proofs.Common.{sym, ap₂, ◌∙◌, not-suc-le-zero, pow-suc, pow_pos}
use Rattle.std.proofs.Math.Bool.{not}
use mathlib.Core.List.{List, [], ◌∷◌, ◌++◌, map}
use native.Mathlib.Omega.{arith}
use Rattle.std.proofs.Math.ListN.{length, length-map}
use Rattle.std.proofs.Math.Pow.{pow_mono}
use Rattle.std.specs.Int.Bits.{bit_and, bit_or, and_step, or_step, or_zero_r, or_shifted_r}
use Rattle.model.specs.Base.{upto, digit}
use Rattle.model.specs.Image.{mask}
use Rattle.laws.specs.Upto.{length_upto, upto_more}
use Rattle.laws.specs.Bits.{digit_lt, mask_lt}

-- ---- the lowest bit

module _ (m : ℕ) (b : Bool) where
  pub cons_half : (m * 2 + digit b) / 2 ≡ m
  cons_half = omega (arith, digit_lt b)

  pub cons_digit : (m * 2 + digit b) % 2 ≡ digit b
  cons_digit = omega (arith, digit_lt b)

both : (a b : Bool) → min (digit a) (digit b) ≡ digit (a && b)
both true true = refl
both true false = refl
both false true = refl
both false false = refl

either : (a b : Bool) → max (digit a) (digit b) ≡ digit (a || b)
either true true = refl
either true false = refl
either false true = refl
either false false = refl

module _ (m n : ℕ) (a b : Bool) where
  pub and_cons : bit_and (m * 2 + digit a) (n * 2 + digit b) ≡ bit_and m n * 2 + digit (a && b)
  and_cons =
      and_step (m * 2 + digit a) (n * 2 + digit b)
      ∙ ap₂ (λ (x y : ℕ). x * 2 + y) (ap₂ bit_and (cons_half m a) (cons_half n b)) (ap₂ min (cons_digit m a) (cons_digit n b) ∙ both a b)

  pub or_cons : bit_or (m * 2 + digit a) (n * 2 + digit b) ≡ bit_or m n * 2 + digit (a || b)
  or_cons =
      or_step (m * 2 + digit a) (n * 2 + digit b)
      ∙ ap₂ (λ (x y : ℕ). x * 2 + y) (ap₂ bit_or (cons_half m a) (cons_half n b)) (ap₂ max (cons_digit m a) (cons_digit n b) ∙ either a b)

not_cons : (n m : ℕ) (b : Bool) → m < 2 ^ n → (2 ^ suc n - 1) - (m * 2 + digit b) ≡ ((2 ^ n - 1) - m) * 2 + digit (not b)
not_cons n m true h = let e = pow-suc 2 n in let p = pow_pos n in omega arith
not_cons n m false h = let e = pow-suc 2 n in let p = pow_pos n in omega arith

-- The complement of a mask of n tests among n bits.
pub mask_not : (n : ℕ) (bs : List Bool) → length bs ≡ n → (2 ^ n - 1) - mask bs ≡ mask (map not bs)
unfolding mask
mask_not zero [] e = refl
mask_not zero (b ∷ bs) e = absurd (omega arith)
mask_not (suc n) [] e = absurd (omega arith)
mask_not (suc n) (b ∷ bs) e =
    let k : length bs ≡ n = omega arith in
    not_cons n (mask bs) b (rw k at (mask_lt bs)) ∙ ap (λ (m : ℕ). m * 2 + digit (not b)) (mask_not n bs k)

-- ---- tests of the same list

module _ {A : Type 0} where
  pub mask_same : (p q : A → Bool) (xs : List A) → ((x : A) → p x ≡ q x) → mask (map p xs) ≡ mask (map q xs)
  mask_same p q xs h = ap (λ (t : A → Bool). mask (map t xs)) (λ i x. h x i)

  pub mask_none : (xs : List A) → mask (map (λ x. false) xs) ≡ 0
  unfolding mask
  mask_none [] = refl
  mask_none (x ∷ xs) = let e = mask_none xs in omega arith

  pub mask_or : (p q : A → Bool) (xs : List A) → bit_or (mask (map p xs)) (mask (map q xs)) ≡ mask (map (λ x. p x || q x) xs)
  unfolding mask
  mask_or p q [] = refl
  mask_or p q (x ∷ xs) = or_cons (mask (map p xs)) (mask (map q xs)) (p x) (q x) ∙ ap (λ (m : ℕ). m * 2 + digit (p x || q x)) (mask_or p q xs)

  pub mask_and : (p q : A → Bool) (xs : List A) → bit_and (mask (map p xs)) (mask (map q xs)) ≡ mask (map (λ x. p x && q x) xs)
  unfolding mask
  mask_and p q [] = refl
  mask_and p q (x ∷ xs) = and_cons (mask (map p xs)) (mask (map q xs)) (p x) (q x) ∙ ap (λ (m : ℕ). m * 2 + digit (p x && q x)) (mask_and p q xs)

  -- The bits of one mask that are not in the other, among n bits.
  pub mask_without : (p q : A → Bool) (n : ℕ) (xs : List A) → length xs ≤ n
      → bit_and (mask (map p xs)) ((2 ^ n - 1) - mask (map q xs)) ≡ mask (map (λ x. p x && not (q x)) xs)
  unfolding mask
  mask_without p q n [] h = refl
  mask_without p q zero (x ∷ xs) h = absurd (not-suc-le-zero h)
  mask_without p q (suc n) (x ∷ xs) h =
      let k : length (map q xs) ≤ n = omega (arith, length-map xs q) in
      let l : mask (map q xs) < 2 ^ n = omega (arith, mask_lt (map q xs), pow_mono k) in
      ap (bit_and (mask (map p xs) * 2 + digit (p x))) (not_cons n (mask (map q xs)) (q x) l)
      ∙ and_cons (mask (map p xs)) ((2 ^ n - 1) - mask (map q xs)) (p x) (not (q x))
      ∙ ap (λ (m : ℕ). m * 2 + digit (p x && not (q x))) (mask_without p q n xs (omega arith))

-- ---- a loop that adds a bit at each turn

mask_last : (bs : List Bool) (b : Bool) → mask (bs ++ (b ∷ [])) ≡ mask bs + digit b * 2 ^ length bs
unfolding mask
mask_last [] true = refl
mask_last [] false = refl
mask_last (c ∷ bs) true = let e = pow-suc 2 (length bs) in let h = mask_last bs true in omega arith
mask_last (c ∷ bs) false = let e = pow-suc 2 (length bs) in let h = mask_last bs false in omega arith

pub mask_more : (t : ℕ → Bool) (n : ℕ) → mask (upto t (n + 1)) ≡ bit_or (mask (upto t n)) (digit (t n) * 2 ^ n)
mask_more t n =
    let e = length_upto t n in
    let l : mask (upto t n) < 2 ^ n = rw e at (mask_lt (upto t n)) in
    let m : mask (upto t n) + digit (t n) * 2 ^ n ≡ digit (t n) * 2 ^ n + mask (upto t n) = omega arith in
    ap mask (upto_more t n) ∙ mask_last (upto t n) (t n)
    ∙ ap (λ (k : ℕ). mask (upto t n) + digit (t n) * 2 ^ k) e ∙ m
    ∙ sym (or_shifted_r (digit (t n)) n (mask (upto t n)) l)

-- The branch of a turn that sets no bit.
module _ (m k : ℕ) (t : Bool) where
  pub bit_out : t ≡ false → m ≡ bit_or m (digit t * 2 ^ k)
  bit_out e =
      let z : digit t * 2 ^ k ≡ 0 = ap (λ (b : Bool). digit b * 2 ^ k) e ∙ omega arith in
      sym (ap (bit_or m) z ∙ or_zero_r m)

-- A turn of the loop, with what `with_bit` answers.
pub mask_turn : (t : ℕ → Bool) (j m r : ℕ) (b : Bool) → j < 32 → m ≡ mask (upto t j) → b ≡ t j → r ≡ bit_or m (digit b * 2 ^ (j % 32)) → r ≡ mask (upto t (j + 1))
mask_turn t j m r b h e q k =
    let i : j % 32 ≡ j = omega arith in
    k ∙ ap₂ bit_or e (ap₂ (λ (d : Bool) (n : ℕ). digit d * 2 ^ n) q i) ∙ sym (mask_more t j)
