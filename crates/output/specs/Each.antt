-- Lists and sums made by counting: one more piece, how long they are, and when two are equal.
use Prim.Native.Nat.{ℕ, zero, suc, ◌+◌, ◌*◌, ◌≤◌, ◌<◌}
use Rattle.std.specs.Prelude.{◌≡◌, get_or}
use Rattle.std.proofs.Math.Path.{refl, sym, ap, ap₂}
use Rattle.std.proofs.Common.{◌∙◌, suc-mul, mul-suc, mul-add, add-one, arith, ext_get_or}
use mathlib.Core.List.{List, [], ◌∷◌, ◌++◌, map, flat_map, append-nil, append_assoc, map-append}
use Rattle.std.proofs.Math.ListN.{length, length-append}
use Rattle.model.specs.Base.{upto}
use Rattle.laws.specs.Upto.{length_upto, get_d_upto}

-- The numbers below n.
abbrev pub numbers : ℕ → List ℕ
numbers n = upto (λ k. k) n

-- f 0 + f 1 + .. + f (n - 1).
unfoldable pub total : (ℕ → ℕ) → ℕ → ℕ
total f zero = 0
total f (suc n) = total f n + f n

pub total_more : (f : ℕ → ℕ) (n : ℕ) → total f (n + 1) ≡ total f n + f n
unfolding total
total_more f n = rw add-one

pub total_times : (w : ℕ) (f : ℕ → ℕ) (n : ℕ) → total (λ k. w * f k) n ≡ w * total f n
unfolding total
total_times w f zero = omega arith
total_times w f (suc n) = ap (λ (m : ℕ). m + w * f n) (total_times w f n) ∙ sym (mul-add w (total f n) (f n))

pub total_le : (b : ℕ) (f : ℕ → ℕ) (n : ℕ) → ((k : ℕ) → f k ≤ b) → total f n ≤ n * b
unfolding total
total_le b f zero h = omega arith
total_le b f (suc n) h = let e = suc-mul n b in omega (arith, total_le b f n h, h n)

pub total_same : (f g : ℕ → ℕ) (n : ℕ) → ((k : ℕ) → f k ≡ g k) → total f n ≡ total g n
unfolding total
total_same f g zero h = refl
total_same f g (suc n) h = ap₂ ◌+◌ (total_same f g n h) (h n)

pub total_all : (w n : ℕ) → total (λ k. w) n ≡ w * n
unfolding total
total_all w zero = omega arith
total_all w (suc n) = ap (λ (m : ℕ). m + w) (total_all w n) ∙ sym (mul-suc w n)

-- ---- one element a number

module _ {A : Type 0} where
  -- A list by its elements.
  pub listed : (d : A) (xs : List A) → xs ≡ upto (λ k. get_or xs k d) (length xs)
  listed d xs =
      ext_get_or d xs (upto (λ k. get_or xs k d) (length xs)) (sym (length_upto (λ k. get_or xs k d) (length xs)))
      (λ i h. sym (get_d_upto (λ k. get_or xs k d) (length xs) i d h))

module _ {A B : Type 0} where
  pub map_upto : (f : A → B) (g : ℕ → A) (n : ℕ) → map f (upto g n) ≡ upto (λ k. f (g k)) n
  unfolding upto
  map_upto f g zero = refl
  map_upto f g (suc n) = map-append f (upto g n) (g n ∷ []) ∙ ap (λ (l : List B). l ++ (f (g n) ∷ [])) (map_upto f g n)

  pub map_listed : (d : A) (f : A → B) (xs : List A) → map f xs ≡ upto (λ k. f (get_or xs k d)) (length xs)
  map_listed d f xs = ap (map f) (listed d xs) ∙ map_upto f (λ k. get_or xs k d) (length xs)

pub map_numbers : {B : Type 0} (f : ℕ → B) (n : ℕ) → map f (numbers n) ≡ upto f n
map_numbers f n = map_upto f (λ k. k) n

-- ---- one piece a number

module _ {A B : Type 0} where
  each_append : (f : A → List B) (xs ys : List A) → flat_map f (xs ++ ys) ≡ flat_map f xs ++ flat_map f ys
  unfolding flat_map
  each_append f [] ys = refl
  each_append f (x ∷ xs) ys = ap (λ (l : List B). f x ++ l) (each_append f xs ys) ∙ sym (append_assoc (f x) (flat_map f xs) (flat_map f ys))

  each_one : (f : A → List B) (x : A) → flat_map f (x ∷ []) ≡ f x
  unfolding flat_map
  each_one f x = append-nil (f x)

module _ {A B : Type 0} where
  pub each_upto : (f : A → List B) (g : ℕ → A) (n : ℕ) → flat_map f (upto g n) ≡ flat_map (λ k. f (g k)) (numbers n)
  unfolding upto flat_map
  each_upto f g zero = refl
  each_upto f g (suc n) =
      each_append f (upto g n) (g n ∷ [])
      ∙ ap (λ (l : List B). l ++ (f (g n) ++ [])) (each_upto f g n)
      ∙ sym (each_append (λ k. f (g k)) (numbers n) (n ∷ []))

  pub each_listed : (d : A) (f : A → List B) (xs : List A) → flat_map f xs ≡ flat_map (λ k. f (get_or xs k d)) (numbers (length xs))
  each_listed d f xs = ap (flat_map f) (listed d xs) ∙ each_upto f (λ k. get_or xs k d) (length xs)

module _ {B : Type 0} where
  pub each_suc : (f : ℕ → List B) (n : ℕ) → flat_map f (numbers (suc n)) ≡ flat_map f (numbers n) ++ f n
  unfolding upto
  each_suc f n = each_append f (numbers n) (n ∷ []) ∙ ap (λ (l : List B). flat_map f (numbers n) ++ l) (each_one f n)

  pub each_more : (f : ℕ → List B) (n : ℕ) → flat_map f (numbers (n + 1)) ≡ flat_map f (numbers n) ++ f n
  each_more f n = ap (λ (k : ℕ). flat_map f (numbers k)) (add-one n) ∙ each_suc f n

  pub each_same : (f g : ℕ → List B) (n : ℕ) → ((k : ℕ) → k < n → f k ≡ g k) → flat_map f (numbers n) ≡ flat_map g (numbers n)
  unfolding upto flat_map
  each_same f g zero h = refl
  each_same f g (suc n) h =
      each_suc f n ∙ ap₂ ◌++◌ (each_same f g n (λ k l. h k (omega arith))) (h n (omega arith)) ∙ sym (each_suc g n)

  pub length_each : (f : ℕ → List B) (n : ℕ) → length (flat_map f (numbers n)) ≡ total (λ k. length (f k)) n
  unfolding upto total flat_map
  length_each f zero = refl
  length_each f (suc n) =
      ap length (each_suc f n)
      ∙ length-append (flat_map f (numbers n)) (f n)
      ∙ ap (λ (m : ℕ). m + length (f n)) (length_each f n)

  pub each_le : (b : ℕ) (f : ℕ → List B) (n : ℕ) → ((k : ℕ) → length (f k) ≤ b) → length (flat_map f (numbers n)) ≤ n * b
  each_le b f n h = omega (arith, length_each f n, total_le b (λ k. length (f k)) n h)
