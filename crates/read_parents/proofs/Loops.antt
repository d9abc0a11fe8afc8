-- Loops over pairs and over numbers, and the number of a line's words.
use Rattle.std.specs.List.{list_any, range_with_len}
use Rattle.std.proofs.lemmas.List.FromFn.{get_or-range_with_len, length-range_with_len}
use Rattle.laws.specs.Upto.{length_upto, get_d_upto}
use Rattle.std.specs.Prelude.{zero, suc, ◌+◌, ◌<◌, ◌++◌, true, refl, ℕ, ◌≤◌, ◌≡◌, Bool, false, ◌||◌, List, [], ◌∷◌, length}
use Rattle.std.proofs.Common.{sym, ap, ◌∙◌, arith, ext_get_or}
use Rattle.model.specs.Base.{any, some_pair, upto}
use Rattle.text_lex.specs.Piece.{words_after, span, span_after}

-- A loop over pairs that takes the first item off those left: at the end, and at an item that is or is not related to a later one.
module _ {A : Type 0} (r : A → A → Bool) {xs : List A} where
  pub pair_none : xs ≡ [] → some_pair r xs ≡ false
  unfolding some_pair
  pair_none e = ap (some_pair r) e

  pub pair_first : {x : A} {rest : List A} {t : Bool} → xs ≡ x ∷ rest → any (r x) rest ≡ t → some_pair r xs ≡ (t || some_pair r rest)
  unfolding some_pair
  pair_first {rest = rest} e h = ap (some_pair r) e ∙ ap (λ (b : Bool). b || some_pair r rest) h

any_same : {A : Type 0} (p : A → Bool) (xs : List A) → list_any p xs ≡ any p xs
unfolding any
any_same p [] = refl
any_same p (x ∷ xs) = ap (λ (t : Bool). p x || t) (any_same p xs)

any_append : {A : Type 0} (p : A → Bool) (xs ys : List A) → any p (xs ++ ys) ≡ (any p xs || any p ys)
unfolding any
any_append p [] ys = refl
any_append p (x ∷ xs) ys = go (p x) (any_append p xs ys)
  where
    go : (t : Bool) → any p (xs ++ ys) ≡ (any p xs || any p ys) → (t || any p (xs ++ ys)) ≡ ((t || any p xs) || any p ys)
    go true e = refl
    go false e = e

numbers : (n : ℕ) → range_with_len 0 n ≡ upto (λ j. j) n
numbers n =
    ext_get_or 0 (range_with_len 0 n) (upto (λ j. j) n) (length-range_with_len 0 n ∙ sym (length_upto (λ j. j) n))
    (λ i h.
    let l : i < n = omega (arith, length-range_with_len 0 n) in
    let z : 0 + i ≡ i = omega arith in
    get_or-range_with_len 0 n i 0 l ∙ z ∙ sym (get_d_upto (λ j. j) n i 0 l))

-- std's `any` over the numbers below n is the model's over the items that they count.
pub any_counted : {A : Type 0} (p : A → Bool) (f : ℕ → A) (n : ℕ) → list_any (λ j. p (f j)) (range_with_len 0 n) ≡ any p (upto f n)
unfolding upto any
any_counted p f n = any_same (λ j. p (f j)) (range_with_len 0 n) ∙ ap (any (λ j. p (f j))) (numbers n) ∙ go n
  where
    go : (n : ℕ) → any (λ j. p (f j)) (upto (λ j. j) n) ≡ any p (upto f n)
    go zero = refl
    go (suc n) =
        any_append (λ j. p (f j)) (upto (λ j. j) n) (n ∷ []) ∙ ap (λ (t : Bool). t || (p (f n) || false)) (go n) ∙ sym (any_append p (upto f n) (f n ∷ []))

few : (ws : List (List ℕ)) → length ws ≤ span ws
unfolding span
few [] = omega arith
few (w ∷ ws) = omega (arith, few ws)

-- No line has more words than bytes.
pub words_few : (s : List ℕ) → length (words_after s) ≤ length s
words_few s = omega (arith, few (words_after s), span_after 32 s)
