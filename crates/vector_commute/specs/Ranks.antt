-- Compatibility of ranks by a table, and masks by rank. For any table: two vectors are compatible at every field where no pair
-- of ranks that the table forbids has a field in common.
use Rattle.std.specs.Prelude.{ℕ, ◌+◌, ◌*◌, ◌≤◌, ◌<◌, ◌≡◌, refl, Bool, true, false, not, ◌&&◌, ◌||◌, length, get_or, ltb}
use Rattle.std.proofs.Common.{sym, ◌∙◌, arith, eq-eqb, ne_eqb, eqb-true, ltb-true, ltb-false}
use Rattle.std.proofs.Math.Path.{ap}
use Rattle.std.proofs.Math.Bool.{or-true}
use mathlib.Core.List.{List, [], ◌∷◌, map}
use Rattle.std.proofs.Math.ListN.{get_or-eq_default}
use Rattle.std.specs.Int.Bits.{bit_and, and_zero_r}
use Rattle.std.proofs.Math.Dec.{eqb}
use Rattle.std.proofs.lemmas.Bool.{eqb-false}
use Rattle.model.specs.Base.{every, upto, digit}
use Rattle.model.specs.Image.{mask}
use Rattle.vector_direct.specs.Masks.{and_cons}
use Rattle.vector_commute.specs.Lists.{every_at, every_true, every_and, every_or, every_one}

-- Each row has an entry for each rank.
abbrev pub Square : List (List Bool) → Type 0
Square table = every (λ row. eqb (length row) (length table)) table ≡ true

module _ (table : List (List Bool)) where
  -- Whether two ranks are compatible; a number that is no rank is compatible with every rank.
  abbrev pub goes : ℕ → ℕ → Bool
  goes i j = get_or (get_or table i []) j true

  abbrev pub ranks : List ℕ
  ranks = upto (λ i. i) (length table)

  -- For the masks f i and g j of two vectors' ranks: the ranks are compatible, or the masks have no field in common.
  abbrev pub pair_apart : (ℕ → ℕ) → (ℕ → ℕ) → ℕ → ℕ → Bool
  pair_apart f g i j = goes i j || eqb (bit_and (f i) (g j)) 0

  -- The same for rank i and every rank of the other vector, and for all ranks of both.
  abbrev pub row_apart : (ℕ → ℕ) → (ℕ → ℕ) → ℕ → Bool
  row_apart f g i = every (pair_apart f g i) ranks

  abbrev pub all_apart : (ℕ → ℕ) → (ℕ → ℕ) → Bool
  all_apart f g = every (row_apart f g) ranks

  module _ (square : Square table) where
    pub row_length : (i : ℕ) → i < length table → length (get_or table i []) ≡ length table
    row_length i h = eqb-true (length (get_or table i [])) (length table) (every_at (λ row. eqb (length row) (length table)) [] table square i h)

    row_past : (i j : ℕ) → length table ≤ i → goes i j ≡ true
    row_past i j h = ap (λ (row : List Bool). get_or row j true) (get_or-eq_default table [] h)

    place_past : (i j : ℕ) → length table ≤ j → goes i j ≡ true
    place_past i j h = go (ltb i (length table)) refl
      where
        go : (t : Bool) → ltb i (length table) ≡ t → goes i j ≡ true
        go true t =
            let l : length (get_or table i []) ≤ j = omega (arith, row_length i (ltb-true i (length table) t)) in
            get_or-eq_default (get_or table i []) true l
        go false t = row_past i j (ltb-false i (length table) t)

  -- Masks without a common field are apart.
  none_apart : (f g : ℕ → ℕ) → ((i j : ℕ) → bit_and (f i) (g j) ≡ 0) → all_apart f g ≡ true
  none_apart f g h =
      (λ k. every (λ i. every (λ j. goes i j || eqb (h i j k) 0) ranks) ranks)
      ∙ (λ k. every (λ i. every (λ j. or-true (goes i j) k) ranks) ranks)
      ∙ (λ k. every (λ i. every_true ranks k) ranks)
      ∙ every_true ranks

-- A test of one number, where it holds for every number from n on.
at_one : (f : ℕ → Bool) (x n : ℕ) → (n ≤ x → f x ≡ true) → every (λ i. not (eqb x i) || f i) (upto (λ i. i) n) ≡ f x
at_one f x n past = every_one f x n ∙ go (ltb x n) refl
  where
    go : (t : Bool) → ltb x n ≡ t → (not (ltb x n) || f x) ≡ f x
    go true t = rw t
    go false t = rw t (sym (past (ltb-false x n t)))

no_digit : (n : ℕ) (b : Bool) → eqb (n * 2 + digit b) 0 ≡ (not b && eqb n 0)
no_digit n true = ne_eqb (n * 2 + 1) 0 (λ e. omega arith)
no_digit n false = go (eqb n 0) refl
  where
    go : (t : Bool) → eqb n 0 ≡ t → eqb (n * 2 + 0) 0 ≡ eqb n 0
    go true t = eq-eqb (n * 2 + 0) 0 (omega (arith, eqb-true n 0 t)) ∙ sym t
    go false t = ne_eqb (n * 2 + 0) 0 (λ e. eqb-false n 0 t (omega arith)) ∙ sym t

split : (g a b r : Bool) → (g || (not (a && b) && r)) ≡ ((not a || (not b || g)) && (g || r))
split true true true r = refl
split true true false r = refl
split true false b r = refl
split false true true r = refl
split false true false r = refl
split false false b r = refl

module _ {A : Type 0} (rank : A → ℕ) where
  -- The mask of the elements of rank i.
  unfoldable pub rank_mask : List A → ℕ → ℕ
  unfolding mask
  rank_mask xs i = mask (map (λ x. eqb (rank x) i) xs)

  -- Whether the ranks of the elements are compatible at each place that both lists have.
  unfoldable pub together : List (List Bool) → List A → List A → Bool
  together table [] ys = true
  together table (x ∷ xs) [] = true
  together table (x ∷ xs) (y ∷ ys) = goes table (rank x) (rank y) && together table xs ys

  module _ (table : List (List Bool)) (square : Square table) where
    abbrev all : List ℕ
    all = ranks table

    -- One place more: its pair of ranks is compatible, and the others are as before.
    one_more : (x y : A) (f g : ℕ → ℕ)
        → all_apart table (λ i. f i * 2 + digit (eqb (rank x) i)) (λ j. g j * 2 + digit (eqb (rank y) j)) ≡ (goes table (rank x) (rank y) && all_apart table f g)
    one_more x y f g =
        (λ k. every (λ i. every (λ j. cell i j k) all) all)
        ∙ (λ k. every (λ i. every_and (λ j. not (eqb (rank x) i) || (not (eqb (rank y) j) || goes table i j)) (pair_apart table f g i) all k) all)
        ∙ every_and (λ i. every (λ j. not (eqb (rank x) i) || (not (eqb (rank y) j) || goes table i j)) all) (row_apart table f g) all
        ∙ ap (λ (t : Bool). t && all_apart table f g) own
      where
        cell : (i j : ℕ) → pair_apart table (λ i. f i * 2 + digit (eqb (rank x) i)) (λ j. g j * 2 + digit (eqb (rank y) j)) i j
            ≡ ((not (eqb (rank x) i) || (not (eqb (rank y) j) || goes table i j)) && pair_apart table f g i j)
        cell i j =
            let a = eqb (rank x) i in
            let b = eqb (rank y) j in
            ap (λ (n : ℕ). goes table i j || eqb n 0) (and_cons (f i) (g j) a b)
            ∙ ap (λ (t : Bool). goes table i j || t) (no_digit (bit_and (f i) (g j)) (a && b))
            ∙ split (goes table i j) a b (eqb (bit_and (f i) (g j)) 0)

        own : every (λ i. every (λ j. not (eqb (rank x) i) || (not (eqb (rank y) j) || goes table i j)) all) all ≡ goes table (rank x) (rank y)
        own =
            (λ k. every (λ i. every_or (not (eqb (rank x) i)) (λ j. not (eqb (rank y) j) || goes table i j) all k) all)
            ∙ (λ k. every (λ i. not (eqb (rank x) i) || at_one (goes table i) (rank y) (length table) (place_past table square i (rank y)) k) all)
            ∙ at_one (λ i. goes table i (rank y)) (rank x) (length table) (row_past table square (rank x) (rank y))

    pub ranks_apart : (xs ys : List A) → all_apart table (rank_mask xs) (rank_mask ys) ≡ together table xs ys
    unfolding rank_mask mask together
    ranks_apart [] ys = none_apart table (rank_mask []) (rank_mask ys) (λ i j. refl)
    ranks_apart (x ∷ xs) [] = none_apart table (rank_mask (x ∷ xs)) (rank_mask []) (λ i j. and_zero_r (rank_mask (x ∷ xs) i))
    ranks_apart (x ∷ xs) (y ∷ ys) = one_more x y (rank_mask xs) (rank_mask ys) ∙ ap (λ (t : Bool). goes table (rank x) (rank y) && t) (ranks_apart xs ys)
