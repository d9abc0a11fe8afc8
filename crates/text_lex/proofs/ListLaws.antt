-- The model's tests of whole lists (`same`, `every`, `any`) as a loop at place i, or a chain of tests, makes them.
use Prim.Native.Nat.{ℕ, ◌+◌, ◌≤◌, ◌<◌}
use mathlib.Core.Path.{◌≡◌, refl, sym, ap, ◌∙◌}
use mathlib.Core.Bool.{Bool, true, false, ◌||◌}
use mathlib.Core.List.{List, [], ◌∷◌}
use native.Mathlib.Numerals.{add-one}
use lib.ListN.{length, drop, get_or, drop_of_length-le}
use lib.Seq.{drop-cons}
use lib.Dec.{eqb}
use borrow.Author.Tests.{eq-eqb, ne_eqb}
use Rattle.model.specs.Base.{same, any, every}
use Rattle.model.specs.Word.{begins_with_letter, is_name_byte, is_reserved, reserved}
use Rattle.text_lex.specs.Among.{of_length, none_of_length, among, by_length}

module _ (a b : List ℕ) (i : ℕ) where
  pub same_end : length a ≤ i → length b ≤ i → same (drop i a) (drop i b) ≡ true
  unfolding same
  same_end h k = rw (drop_of_length-le a h, drop_of_length-le b k)

  pub same_differ : i < length a → i < length b → (get_or a i 0 ≡ get_or b i 0 → ⊥) → same (drop i a) (drop i b) ≡ false
  unfolding same
  same_differ h k e = rw (drop-cons a i 0 h, drop-cons b i 0 k, ne_eqb _ _ e)

  pub same_more : i < length a → i < length b → get_or a i 0 ≡ get_or b i 0 → same (drop i a) (drop i b) ≡ same (drop (i + 1) a) (drop (i + 1) b)
  unfolding same
  same_more h k e = rw (add-one, drop-cons a i 0 h, drop-cons b i 0 k, eq-eqb _ _ e)

module _ (p : ℕ → Bool) (s : List ℕ) (i : ℕ) where
  pub every_end : length s ≤ i → every p (drop i s) ≡ true
  unfolding every
  every_end h = rw (drop_of_length-le s h)

  pub every_stop : i < length s → p (get_or s i 0) ≡ false → every p (drop i s) ≡ false
  unfolding every
  every_stop h e = rw (drop-cons s i 0 h, e)

  pub every_more : i < length s → p (get_or s i 0) ≡ true → every p (drop i s) ≡ every p (drop (i + 1) s)
  unfolding every
  every_more h e = rw (add-one, drop-cons s i 0 h, e)

-- A letter may stand in a name: where the first byte is one, the other bytes decide.
pub every_behind : (w : List ℕ) → begins_with_letter w ≡ true → every is_name_byte (drop 1 w) ≡ every is_name_byte w
unfolding every
every_behind [] e = refl
every_behind (b ∷ w) e = rw e

-- The reserved words of n bytes.
abbrev pub reserved_of : ℕ → List (List ℕ)
reserved_of n = of_length (λ v. v) n reserved

module _ (w : List ℕ) where
  abbrev one_of : List (List ℕ) → Bool
  one_of vs = among (λ v. v) (λ v t u. t || u) false vs w

  -- A chain of comparisons, one after the other.
  abbrev pub chain : Bool → List (List ℕ) → Bool
  chain t [] = t
  chain t (v ∷ vs) = chain (t || same w v) vs

  chained : (t : Bool) (vs : List (List ℕ)) → chain t vs ≡ (t || one_of vs)
  chained true [] = refl
  chained false [] = refl
  chained true (v ∷ vs) = chained true vs
  chained false (v ∷ vs) = chained (same w v) vs

  -- Only the reserved words of the word's own length need be compared with it.
  pub reserved_of_law : (n : ℕ) → length w ≡ n → chain false (reserved_of n) ≡ is_reserved w
  unfolding is_reserved any
  reserved_of_law n h = chained false (reserved_of n) ∙ sym (rw h at (by_length (λ v. v) (λ v t u. t || u) false (λ v u. refl) reserved w))

  pub reserved_none : any (λ v. eqb (length w) (length v)) reserved ≡ false → false ≡ is_reserved w
  reserved_none e = ap (chain false) (sym (none_of_length (λ v. v) (length w) reserved e)) ∙ reserved_of_law (length w) refl
