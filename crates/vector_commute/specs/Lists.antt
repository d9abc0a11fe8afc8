-- Lists made by counting: a run of such a list, its members, and that every list is one; and tests of every element.
use Prim.Native.Nat.{ℕ, zero, suc, ◌+◌, ◌-◌, min, ◌<◌}
use Rattle.std.specs.Prelude.{◌≡◌, ◌⊎◌, Bool, ◌&&◌, ◌||◌, length, get_or, take, drop, eqb, ltb}
use Rattle.std.proofs.Math.Path.{refl, ap}
use Rattle.std.proofs.Common.{sym, ap₂, ◌∙◌, inl, inr, arith, length-take, length-drop, ext_get_or, get_or-take, get_or-drop, ltb-true, ltb-false, lt-ltb, le-ltb, eqb-true, ne_eqb}
use Rattle.std.proofs.Math.Bool.{true, false, not, and-true}
use mathlib.Core.List.Memᴰ
use mathlib.Core.List.{List, [], ◌∷◌, ◌++◌, Memᴰ}
use Rattle.std.proofs.lemmas.Bool.{eqb-false}
use Rattle.model.specs.Base.{any, every, upto}
use Rattle.laws.specs.Lists.{both_left, both_right}
use Rattle.laws.specs.Upto.{length_upto, get_d_upto}

pub listed : {A : Type 0} (d : A) (xs : List A) → xs ≡ upto (λ k. get_or xs k d) (length xs)
listed d xs =
    ext_get_or d xs (upto (λ k. get_or xs k d) (length xs)) (sym (length_upto (λ k. get_or xs k d) (length xs)))
    (λ i h. sym (get_d_upto (λ k. get_or xs k d) (length xs) i d h))

pub upto_in : {A : Type 0} (f : ℕ → A) (n : ℕ) {a : A} → Memᴰ a (upto f n) → (k : ℕ) × (k < n) × (a ≡ f k)
unfolding upto
upto_in f zero m = absurd (Memᴰ.not-nil m)
upto_in {A} f (suc n) {a} m = go (λ i. upto_in f n i) (Memᴰ.append_cases (upto f n) m)
  where
    go : (Memᴰ a (upto f n) → (k : ℕ) × (k < n) × (a ≡ f k)) → Memᴰ a (upto f n) ⊎ Memᴰ a (f n ∷ []) → (k : ℕ) × (k < suc n) × (a ≡ f k)
    go ih (inl i) = let (k, h, e) = ih i in (k, omega arith, e)
    go ih (inr i) = (n, omega arith, Memᴰ.eq_of_singleton i)

-- The element at a place within the list, whatever the default is.
pub at_place : {A : Type 0} (xs : List A) (k : ℕ) (d e : A) → k < length xs → get_or xs k d ≡ get_or xs k e
at_place [] k d e h = absurd (omega arith)
at_place (x ∷ xs) zero d e h = refl
at_place (x ∷ xs) (suc k) d e h = at_place xs k d e (omega arith)

-- A run of such a list, cut at its end.
pub run_upto : {A : Type 0} (f : ℕ → A) (d : A) (n first count : ℕ) → take count (drop first (upto f n)) ≡ upto (λ i. f (first + i)) (min count (n - first))
run_upto f d n first count =
    ext_get_or d (take count (drop first (upto f n))) (upto (λ i. f (first + i)) (min count (n - first))) same_length same_elements
  where
    long : length (take count (drop first (upto f n))) ≡ min count (n - first)
    long = omega (arith, length-take count (drop first (upto f n)), length-drop first (upto f n), length_upto f n)

    same_length : length (take count (drop first (upto f n))) ≡ length (upto (λ i. f (first + i)) (min count (n - first)))
    same_length = long ∙ sym (length_upto (λ i. f (first + i)) (min count (n - first)))

    same_elements : (i : ℕ) → i < length (take count (drop first (upto f n))) → get_or (take count (drop first (upto f n))) i d ≡ get_or (upto (λ i. f (first + i)) (min count (n - first))) i d
    same_elements i h =
        let l : i < min count (n - first) = omega (arith, long) in
        get_or-take count (drop first (upto f n)) i d (omega arith)
        ∙ get_or-drop first (upto f n) i d
        ∙ get_d_upto f n (first + i) d (omega arith)
        ∙ sym (get_d_upto (λ i. f (first + i)) (min count (n - first)) i d l)

-- ---- tests of every element

module _ {A : Type 0} where
  -- Every element passes where none fails.
  every_any : (p : A → Bool) (xs : List A) → every p xs ≡ not (any (λ x. not (p x)) xs)
  unfolding every any
  every_any p [] = refl
  every_any p (x ∷ xs) = go (p x) (every_any p xs)
    where
      go : (t : Bool) → every p xs ≡ not (any (λ y. not (p y)) xs) → (t && every p xs) ≡ not (not t || any (λ y. not (p y)) xs)
      go true e = e
      go false e = refl

  pub every_at : (p : A → Bool) (d : A) (xs : List A) → every p xs ≡ true → (k : ℕ) → k < length xs → p (get_or xs k d) ≡ true
  unfolding every
  every_at p d [] e k h = absurd (omega arith)
  every_at p d (x ∷ xs) e zero h = both_left (p x) (every p xs) e
  every_at p d (x ∷ xs) e (suc k) h = every_at p d xs (both_right (p x) (every p xs) e) k (omega arith)

  pub every_true : (xs : List A) → every (λ x. true) xs ≡ true
  unfolding every
  every_true [] = refl
  every_true (x ∷ xs) = every_true xs

  -- The conjunction of two tests, and of a test with one that ignores the element.
  pub every_and : (p q : A → Bool) (xs : List A) → every (λ x. p x && q x) xs ≡ (every p xs && every q xs)
  unfolding every
  every_and p q [] = refl
  every_and p q (x ∷ xs) = ap (λ (t : Bool). (p x && q x) && t) (every_and p q xs) ∙ go (p x) (q x) (every p xs)
    where
      go : (a b c : Bool) → ((a && b) && (c && every q xs)) ≡ ((a && c) && (b && every q xs))
      go true true c = refl
      go true false true = refl
      go true false false = refl
      go false b c = refl

  pub every_or : (t : Bool) (p : A → Bool) (xs : List A) → every (λ x. t || p x) xs ≡ (t || every p xs)
  every_or true p xs = every_true xs
  every_or false p xs = refl

  every_append : (p : A → Bool) (xs ys : List A) → every p (xs ++ ys) ≡ (every p xs && every p ys)
  unfolding every
  every_append p [] ys = refl
  every_append p (x ∷ xs) ys = go (p x) (every_append p xs ys)
    where
      go : (t : Bool) → every p (xs ++ ys) ≡ (every p xs && every p ys) → (t && every p (xs ++ ys)) ≡ ((t && every p xs) && every p ys)
      go true e = e
      go false e = refl

-- A test of one number below n.
pub every_one : (f : ℕ → Bool) (x n : ℕ) → every (λ i. not (eqb x i) || f i) (upto (λ i. i) n) ≡ (not (ltb x n) || f x)
unfolding every upto
every_one f x zero = sym (ap (λ (t : Bool). not t || f x) (le-ltb x 0 (omega arith)))
every_one f x (suc n) =
    every_append (λ i. not (eqb x i) || f i) (upto (λ i. i) n) (n ∷ [])
    ∙ ap₂ ◌&&◌ (every_one f x n) (and-true (not (eqb x n) || f n))
    ∙ go (ltb x n) refl (eqb x n) refl
  where
    go : (a : Bool) → ltb x n ≡ a → (b : Bool) → eqb x n ≡ b → ((not (ltb x n) || f x) && (not (eqb x n) || f n)) ≡ (not (ltb x (suc n)) || f x)
    go true l b e =
        let h = ltb-true x n l in
        rw (l, ne_eqb x n (λ q. omega arith), lt-ltb x (suc n) (omega arith)) (and-true (f x))
    go false l true e = let q : x ≡ n = eqb-true x n e in rw (l, e, lt-ltb x (suc n) (omega arith)) (ap f (sym q))
    go false l false e =
        let h = ltb-false x n l in
        let q = eqb-false x n e in
        rw (l, e, le-ltb x (suc n) (omega arith))
