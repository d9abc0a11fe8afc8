-- A list that a loop makes from another, front to back: what is done so far, and what is left.
use Rattle.std.specs.Prelude.{◌≡◌, ℕ, zero, suc, ◌+◌, ◌*◌, ◌/◌, ◌%◌, ◌^◌, ◌<◌, ◌≤◌, Bool, true, false, List, [], ◌∷◌, ◌++◌, length, take, drop, set, replicate, ◌≢◌, slice_index, slice_set, refl}
use Rattle.std.proofs.Common.{not-suc-le-zero, le_of_suc-le-suc, one-mul, add-one, arith, sym, ap, subst, ◌∙◌, shl_exact}
use Rattle.std.specs.Int.Count.{count_trailing_zeros}
use mir.Val.{bool_byte}
use borrow.Author.Tests.{lt-ltb, le-ltb, eq-eqb, ne_eqb}
use Rattle.layout.specs.Layout.{values_most, changed_at, marks_at, set_marks_at, notes_at}
use Rattle.model.specs.Base.{digit}
use Rattle.model.specs.Form.{Change}
use Rattle.model.specs.Undo.{decreased, restored}
use Rattle.laws.specs.Bits.{bit, zeros_bit, bit_fits}
use Rattle.laws.specs.Sums.{nothing_back}
use Rattle.machine_words.specs.Row.{note_at, is_set, note_word, with_mark, noted_row}

-- The first i elements are those of `made`, the others those of `old`.
abbrev pub over : ℕ → List ℕ → List ℕ → List ℕ
over i made old = take i made ++ drop i old

suc_injective : {m n : ℕ} → suc m ≡ suc n → m ≡ n
suc_injective e = omega arith

put_next : (i : ℕ) (made old : List ℕ) → length made ≡ length old → i < length old → slice_set (over i made old) i (slice_index made i) ≡ over (suc i) made old
put_next i made [] e h = absurd (not-suc-le-zero h)
put_next i [] (o ∷ os) e h = absurd (omega arith)
put_next zero (t ∷ ts) (o ∷ os) e h = refl
put_next (suc i) (t ∷ ts) (o ∷ os) e h = ap (λ (r : List ℕ). t ∷ r) (put_next i ts os (suc_injective e) (le_of_suc-le-suc h))

keep_next : (i : ℕ) (made old : List ℕ) → length made ≡ length old → i < length old → slice_index made i ≡ slice_index old i → over i made old ≡ over (suc i) made old
keep_next i made [] e h q = absurd (not-suc-le-zero h)
keep_next i [] (o ∷ os) e h q = absurd (omega arith)
keep_next zero (t ∷ ts) (o ∷ os) e h q = ap (λ (x : ℕ). x ∷ os) (sym q)
keep_next (suc i) (t ∷ ts) (o ∷ os) e h q = ap (λ (r : List ℕ). t ∷ r) (keep_next i ts os (suc_injective e) (le_of_suc-le-suc h) q)

pub over_length : (i : ℕ) (made old : List ℕ) → length made ≡ length old → length (over i made old) ≡ length old
over_length zero made old e = refl
over_length (suc i) [] [] e = refl
over_length (suc i) [] (o ∷ os) e = absurd (omega arith)
over_length (suc i) (t ∷ ts) [] e = absurd (omega arith)
over_length (suc i) (t ∷ ts) (o ∷ os) e = ap suc (over_length i ts os (suc_injective e))

-- The next element and those after it are still the old ones.
pub over_old : (i j : ℕ) (made old : List ℕ) → length made ≡ length old → i ≤ j → slice_index (over i made old) j ≡ slice_index old j
over_old zero j made old e h = refl
over_old (suc i) j [] [] e h = refl
over_old (suc i) j [] (o ∷ os) e h = absurd (omega arith)
over_old (suc i) j (t ∷ ts) [] e h = absurd (omega arith)
over_old (suc i) zero (t ∷ ts) (o ∷ os) e h = absurd (not-suc-le-zero h)
over_old (suc i) (suc j) (t ∷ ts) (o ∷ os) e h = over_old i j ts os (suc_injective e) (le_of_suc-le-suc h)

-- An element before that is the new one.
pub over_made : (i j : ℕ) (made old : List ℕ) → length made ≡ length old → j < i → slice_index (over i made old) j ≡ slice_index made j
over_made zero j made old e h = absurd (not-suc-le-zero h)
over_made (suc i) j [] [] e h = refl
over_made (suc i) j [] (o ∷ os) e h = absurd (omega arith)
over_made (suc i) j (t ∷ ts) [] e h = absurd (omega arith)
over_made (suc i) zero (t ∷ ts) (o ∷ os) e h = refl
over_made (suc i) (suc j) (t ∷ ts) (o ∷ os) e h = over_made i j ts os (suc_injective e) (le_of_suc-le-suc h)

-- Elements that stay as they are can be passed over.
pub over_skip : (i n : ℕ) (made old : List ℕ) → length made ≡ length old → i + n ≤ length old
    → ((j : ℕ) → i ≤ j → j < i + n → slice_index made j ≡ slice_index old j) → over i made old ≡ over (i + n) made old
over_skip i zero made old e h q = let a : i ≡ i + 0 = omega arith in ap (λ (k : ℕ). over k made old) a
over_skip i (suc n) made old e h q =
    let a : suc (i + n) ≡ i + suc n = omega arith in
    over_skip i n made old e (omega arith) (λ j g l. q j g (omega arith))
    ∙ keep_next (i + n) made old e (omega arith) (q (i + n) (omega arith) (omega arith)) ∙ ap (λ (k : ℕ). over k made old) a

-- At the end all is made.
pub over_all : (made old : List ℕ) → length made ≡ length old → over (length old) made old ≡ made
over_all [] [] e = refl
over_all [] (o ∷ os) e = absurd (omega arith)
over_all (t ∷ ts) [] e = absurd (omega arith)
over_all (t ∷ ts) (o ∷ os) e = ap (λ (r : List ℕ). t ∷ r) (over_all ts os (suc_injective e))

module _ (made old : List ℕ) (e : length made ≡ length old) (now : List ℕ) (i : ℕ) (h : i < length old) (q : now ≡ over i made old) where
  -- A turn that stores the element.
  pub over_put : (v : ℕ) → v ≡ slice_index made i → slice_set now i v ≡ over (i + 1) made old
  over_put v w = ap (λ (l : List ℕ). set l i v) q ∙ ap (λ (x : ℕ). set (over i made old) i x) w ∙ put_next i made old e h ∙ ap (λ (k : ℕ). over k made old) (sym (add-one i))

-- ---- reading a note

-- A difference of 32 bits is the value with the sum taken back.
pub less_is : (x sum r : ℕ) → x < 4294967296 → sum < 4294967296 → r < 4294967296 → (r + sum) % 4294967296 ≡ x → r ≡ decreased x sum
less_is x sum r h l f e = rw (lt-ltb x 4294967296 h) (omega arith)

module _ (row : List ℕ) (k : ℕ) where
  -- The bit that tells whether value k was set.
  abbrev pub marked : ℕ
  marked = slice_index row (set_marks_at + k / 32) / 2 ^ (k % 32) % 2

  module _ (v : ℕ) where
    pub back_old : k < values_most → marked ≡ 1 → slice_index row (notes_at + k) ≡ restored (note_at row k) v
    unfolding note_at bit
    back_old h e = rw (lt-ltb k values_most h, eq-eqb marked 1 e)

    pub back_less : k < values_most → (marked ≢ 1) → decreased v (slice_index row (notes_at + k)) ≡ restored (note_at row k) v
    unfolding note_at bit
    back_less h e = rw (lt-ltb k values_most h, ne_eqb marked 1 e)

    pub back_past : values_most ≤ k → v ≡ restored (note_at row k) v
    unfolding note_at
    back_past h = rw (le-ltb k values_most h) (sym (nothing_back v))

  -- ---- making a note

  module _ (how : Change) (x v : ℕ) where
    pub noted_past : values_most ≤ k → row ≡ noted_row row how k x v
    unfolding noted_row
    noted_past h = rw (le-ltb k values_most h)

    pub noted_kept : k < values_most → marked ≡ 1 → row ≡ noted_row row how k x v
    unfolding noted_row bit
    noted_kept h e = rw (lt-ltb k values_most h, eq-eqb marked 1 e)

    pub noted_new : k < values_most → (marked ≢ 1)
        → slice_set (with_mark (with_mark (slice_set row changed_at 1) marks_at k true) set_marks_at k (is_set how)) (notes_at + k) (note_word how (slice_index row (notes_at + k)) x v) ≡ noted_row row how k x v
    unfolding noted_row bit
    noted_new h e = rw (lt-ltb k values_most h, ne_eqb marked 1 e)

pub one_shifted : (k : ℕ) → k < 32 → (1 * 2 ^ k) % 2 ^ 32 ≡ 2 ^ k
one_shifted k h = shl_exact {a = 1} 1 k 32 (omega arith) (omega arith) ∙ one-mul (2 ^ k)

-- The bit of a test, as the code shifts it.
pub test_shifted : (test : Bool) (k : ℕ) → k < 32 → (bool_byte test * 2 ^ k) % 2 ^ 32 ≡ digit test * 2 ^ k
test_shifted true k h = one_shifted k h ∙ sym (one-mul (2 ^ k))
test_shifted false k h = omega arith

-- The lowest mark of a word other than 0, as the code shifts it: it is one of the word's.
module _ (left : ℕ) (few : left < 2 ^ 32) (some : left ≡ 0 → ⊥) where
  pub lowest_shifted : (1 * 2 ^ count_trailing_zeros 32 left) % 2 ^ 32 ≡ 2 ^ count_trailing_zeros 32 left
  lowest_shifted = one_shifted (count_trailing_zeros 32 left) (zeros_bit 32 left few some).0

  pub lowest_fits : (1 * 2 ^ count_trailing_zeros 32 left) % 2 ^ 32 ≤ left
  lowest_fits = subst (λ (m : ℕ). m ≤ left) (sym lowest_shifted) (bit_fits (count_trailing_zeros 32 left) left (zeros_bit 32 left few some).1)

pub zeros_at : (n k : ℕ) → ◌≡◌ {A = ℕ} (slice_index (replicate n 0) k) 0
zeros_at zero k = refl
zeros_at (suc n) zero = refl
zeros_at (suc n) (suc k) = zeros_at n k
