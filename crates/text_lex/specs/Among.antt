-- Looking up a word among several: only those of its own length need be compared with it.
use Rattle.std.specs.Prelude.{ℕ, ◌≡◌, Bool, true, false, cond, length, eqb}
use Rattle.std.proofs.Math.Path.{refl}
use Rattle.std.proofs.Common.{ap, ◌∙◌, arith}
use mathlib.Core.List.{List, [], ◌∷◌}
use Rattle.std.proofs.lemmas.Bool.{eqb-false}
use Rattle.model.specs.Base.{same, any}
use Rattle.text_lex.specs.Tests.{and_false, or_false}

-- Words of different lengths differ.
pub same_lengths : (a b : List ℕ) → (length a ≡ length b → ⊥) → same a b ≡ false
unfolding same
same_lengths [] [] h = absurd (h refl)
same_lengths [] (y ∷ ys) h = refl
same_lengths (x ∷ xs) [] h = refl
same_lengths (x ∷ xs) (y ∷ ys) h = and_false (eqb x y) (same_lengths xs ys (omega arith))

module _ {B : Type 0} (word : B → List ℕ) where
  -- The entries whose words have n bytes.
  abbrev pub of_length : ℕ → List B → List B
  of_length n [] = []
  of_length n (b ∷ bs) = cond (eqb n (length (word b))) (b ∷ of_length n bs) (of_length n bs)

  pub none_of_length : (n : ℕ) (bs : List B) → any (λ b. eqb n (length (word b))) bs ≡ false → of_length n bs ≡ []
  unfolding any
  none_of_length n [] e = refl
  none_of_length n (b ∷ bs) e = let f = or_false (eqb n (length (word b))) e in rw f.0 (none_of_length n bs f.1)

-- The entries are tried in turn, each by its word: `answer` combines the result of the test with that of the entries after it.
module _ {A B : Type 0} (word : B → List ℕ) (answer : B → Bool → A → A) (end : A) where
  abbrev pub among : List B → List ℕ → A
  among [] w = end
  among (b ∷ bs) w = answer b (same w (word b)) (among bs w)

  -- Where an entry whose test fails makes no difference, entries of other lengths may be left out.
  pub by_length : ((b : B) (a : A) → answer b false a ≡ a) → (bs : List B) (w : List ℕ) → among bs w ≡ among (of_length word (length w) bs) w
  by_length skip [] w = refl
  by_length skip (b ∷ bs) w = go (eqb (length w) (length (word b))) refl (by_length skip bs w)
    where
      go : (t : Bool) → eqb (length w) (length (word b)) ≡ t → among bs w ≡ among (of_length word (length w) bs) w
          → among (b ∷ bs) w ≡ among (cond t (b ∷ of_length word (length w) bs) (of_length word (length w) bs)) w
      go true e h = ap (answer b (same w (word b))) h
      go false e h = rw (same_lengths w (word b) (eqb-false _ _ e)) (skip b (among bs w) ∙ h)
