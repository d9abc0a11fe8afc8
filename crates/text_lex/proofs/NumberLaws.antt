-- Numbers as a loop over digits computes them: one more digit, a number that has grown too large, and the answer for a whole word.
use Prim.Native.Nat.{ℕ, ◌+◌, ◌-◌, ◌*◌, ◌≤◌, ◌<◌}
use mathlib.Core.Path.{◌≡◌, refl, sym, ap, subst, ◌∙◌}
use mathlib.Core.Bool.{true, false, not, ◌&&◌}
use mathlib.Core.Option.{none, some}
use mathlib.Core.List.{List, [], ◌∷◌}
use native.Mathlib.Numerals.{add-one}
use native.Mathlib.Omega.{arith}
use lib.ListN.{length, drop, get_or, drop_of_length-le}
use lib.Seq.{drop-cons}
use lib.Dec.{eqb, leb}
use borrow.Author.Tests.{le-leb, lt-leb, leb-true}
use Rattle.model.specs.Base.{every}
use Rattle.model.specs.Word.{is_digit, decimal, well_begun, is_number}
use Rattle.text_lex.specs.Number.{number_of}
use Rattle.text_lex.specs.Tests.{and_false, and_true}

pub begun_short : (w : List ℕ) → length w < 2 → well_begun w ≡ eqb (length w) 1
begun_short [] h = refl
begun_short (b ∷ []) h = refl
begun_short (b ∷ c ∷ w) h = absurd (omega arith)

pub begun_long : (w : List ℕ) → 2 ≤ length w → well_begun w ≡ not (eqb (get_or w 0 0) 48)
begun_long [] h = absurd (omega arith)
begun_long (b ∷ []) h = absurd (omega arith)
begun_long (b ∷ c ∷ w) h = refl

module _ (n : ℕ) (w : List ℕ) (i : ℕ) where
  pub decimal_end : length w ≤ i → decimal n (drop i w) ≡ n
  unfolding decimal
  decimal_end h = rw (drop_of_length-le w h)

  pub decimal_more : i < length w → decimal n (drop i w) ≡ decimal (10 * n + get_or w i 0 - 48) (drop (i + 1) w)
  unfolding decimal
  decimal_more h = rw (add-one, drop-cons w i 0 h)

pub decimal_large : (n : ℕ) (w : List ℕ) → 4294967295 < n → 4294967295 < decimal n w
unfolding decimal
decimal_large n [] h = h
decimal_large n (b ∷ w) h = decimal_large (10 * n + b - 48) w (omega arith)

module _ (w : List ℕ) where
  pub ill_begun : well_begun w ≡ false → number_of w ≡ none
  unfolding number_of is_number
  ill_begun e = rw e

  pub no_digits : every is_digit w ≡ false → number_of w ≡ none
  unfolding number_of is_number
  no_digits e = rw (and_false (well_begun w) e)

  pub too_large : 4294967295 < decimal 0 w → number_of w ≡ none
  unfolding number_of is_number
  too_large h = rw (and_false (well_begun w && every is_digit w) (lt-leb (decimal 0 w) 4294967295 h))

  pub says : well_begun w ≡ true → every is_digit w ≡ true → decimal 0 w ≤ 4294967295 → number_of w ≡ some (decimal 0 w)
  unfolding number_of is_number
  says b e h = rw (b, e, le-leb (decimal 0 w) 4294967295 h)

pub digit_range : (b : ℕ) → is_digit b ≡ true → (48 ≤ b) × (b ≤ 57)
digit_range b e = let t = and_true (leb 48 b) e in (leb-true 48 b t.0, leb-true b 57 t.1)

-- A turn of a loop that has read the digits before place i, whose value is n, and reads the one there.
module _ (n : ℕ) (w : List ℕ) (i : ℕ) (value : decimal n (drop i w) ≡ decimal 0 w) (within : i < length w) where
  pub read_on : (m : ℕ) → m ≡ 10 * n + get_or w i 0 - 48 → decimal m (drop (i + 1) w) ≡ decimal 0 w
  read_on m e = ap (λ (k : ℕ). decimal k (drop (i + 1) w)) e ∙ sym (decimal_more n w i within) ∙ value

  -- A digit too many for 32 bits.
  pub overflow : 4294967295 < 10 * n + get_or w i 0 - 48 → number_of w ≡ none
  overflow h =
      let e = read_on (10 * n + get_or w i 0 - 48) refl in
      too_large w (subst (λ (k : ℕ). 4294967295 < k) e (decimal_large (10 * n + get_or w i 0 - 48) (drop (i + 1) w) h))
