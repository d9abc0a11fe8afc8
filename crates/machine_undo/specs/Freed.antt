-- The undo notes cleared by their marks, word by word.
use Rattle.std.specs.Prelude.{◌≡◌, ℕ, zero, suc, ◌+◌, ◌-◌, ◌*◌, ◌/◌, ◌%◌, ◌^◌, ◌<◌, ◌≤◌, Bool, true, false, cond, List, length, ◌≢◌, bit_or, nat_lt, slice_index, slice_index_or, slice_set, refl}
use Rattle.std.proofs.Common.{arith, sym, ap, subst, ◌∙◌, length-set, ext_get_or, get_or-set_same, get_or-set_other, ltb-true, ltb-false, le-ltb}
use Rattle.std.proofs.Math.Decide.{ℕ_discrete}
use Rattle.std.specs.Int.Bits.{or_add_and}
use Rattle.std.proofs.lemmas.Nat.{and_le_l, and_le_r}
use Rattle.layout.specs.Layout.{values_most, marks_at, notes_at, row_words}
use Rattle.laws.specs.Bits.{bit, bit_zero, bit_past, less_else}
use Rattle.machine_words.specs.Row.{unnoted, zeroed}
use Rattle.machine_words.specs.Cleared.{zeroed_length, zeroed_at, unnoted_length, unnoted_before, unnoted_at}
use Rattle.machine_undo.specs.Over.{over, over_length, over_made, over_old, over_skip}

-- A mask's bits, the first of them at place `first`.
abbrev pub bit_from : ℕ → ℕ → ℕ → Bool
bit_from first m i = cond (nat_lt i first) false (bit m (i - first))

-- Where the notes of word w begin.
abbrev pub word_at : ℕ → ℕ
word_at w = notes_at + w * 32

from_at : (first m i : ℕ) → first ≤ i → bit_from first m i ≡ bit m (i - first)
from_at first m i h = ap (λ (b : Bool). cond b false (bit m (i - first))) (le-ltb i first h)

-- ---- the marks left of a word

module _ (first : ℕ) (row : List ℕ) where
  -- Without marks nothing is cleared.
  pub none_left : zeroed (bit_from first 0) row ≡ row
  none_left =
      let e = zeroed_length (bit_from first 0) row in
      ext_get_or 0 (zeroed (bit_from first 0) row) row e
      (λ i h. zeroed_at (bit_from first 0) row i (omega arith) ∙ ap (λ (b : Bool). cond b 0 (slice_index row i)) (go i (nat_lt i first)))
    where
      go : (i : ℕ) (b : Bool) → cond b false (bit 0 (i - first)) ≡ false
      go i true = refl
      go i false = bit_zero (i - first)

  -- With the note of a mark cleared, that mark is no longer needed.
  pub one_less : (left t : ℕ) → bit left t ≡ true → zeroed (bit_from first (left - 2 ^ t)) (slice_set row (first + t) 0) ≡ zeroed (bit_from first left) row
  one_less left t here =
      let s = length-set row (first + t) 0 in
      let e = zeroed_length (bit_from first (left - 2 ^ t)) (slice_set row (first + t) 0) ∙ s in
      ext_get_or 0 (zeroed (bit_from first (left - 2 ^ t)) (slice_set row (first + t) 0)) (zeroed (bit_from first left) row)
      (e ∙ sym (zeroed_length (bit_from first left) row))
      (λ i h. zeroed_at (bit_from first (left - 2 ^ t)) (slice_set row (first + t) 0) i (omega arith) ∙ go i (omega arith) (ℕ_discrete i (first + t))
      ∙ sym (zeroed_at (bit_from first left) row i (omega arith)))
    where
      cleared : (b : Bool) → ◌≡◌ {A = ℕ} (cond b 0 0) 0
      cleared true = refl
      cleared false = refl

      same : (i : ℕ) → (i ≢ first + t) → (b : Bool) → nat_lt i first ≡ b → cond b false (bit (left - 2 ^ t) (i - first)) ≡ cond b false (bit left (i - first))
      same i ne true e = refl
      same i ne false e = less_else t left (i - first) here (λ z. ne (omega (arith, ltb-false i first e)))

      go : (i : ℕ) → i < length row → Dec (i ≡ first + t) → cond (bit_from first (left - 2 ^ t) i) 0 (slice_index (slice_set row (first + t) 0) i) ≡ cond (bit_from first left i) 0 (slice_index row i)
      go i h (yes z) =
          let d : i - first ≡ t = omega arith in
          let v = ap (λ (j : ℕ). slice_index (slice_set row (first + t) 0) j) z ∙ get_or-set_same row (first + t) 0 0 (omega arith) in
          ap (cond (bit_from first (left - 2 ^ t) i) 0) v ∙ cleared (bit_from first (left - 2 ^ t) i)
          ∙ ap (λ (b : Bool). cond b 0 (slice_index row i)) (sym (from_at first left i (omega arith) ∙ ap (bit left) d ∙ here))
      go i h (no ne) =
          ap (cond (bit_from first (left - 2 ^ t) i) 0) (get_or-set_other row (first + t) i 0 0 ne)
          ∙ ap (λ (b : Bool). cond b 0 (slice_index row i)) (same i ne (nat_lt i first) refl)

-- ---- four words of marks

-- There are four words of marks from word w on, and they are 0.
pub record Unmarked (row : List ℕ) (w : ℕ) : Type 0 where
  pub room : w + 4 ≤ values_most / 32
  pub zeros : (d : ℕ) → d < 4 → slice_index row (marks_at + w + d) ≡ 0

-- A union is 0 where both parts are.
or_none : (a b : ℕ) → bit_or a b ≡ 0 → (a ≡ 0) × (b ≡ 0)
or_none a b e = (omega (arith, or_add_and a b, and_le_r a b), omega (arith, or_add_and a b, and_le_l a b))

module _ (row : List ℕ) (w : ℕ) where
  abbrev mark : ℕ → ℕ
  mark d = slice_index row (marks_at + w + d)

  pub four_unmarked : w < values_most / 32 → w % 4 ≡ 0 → bit_or (bit_or (bit_or (slice_index row (marks_at + w)) (mark 1)) (mark 2)) (mark 3) ≡ 0 → Unmarked row w
  four_unmarked h r e =
      let three = or_none (bit_or (bit_or (slice_index row (marks_at + w)) (mark 1)) (mark 2)) (mark 3) e in
      let two = or_none (bit_or (slice_index row (marks_at + w)) (mark 1)) (mark 2) three.0 in
      let one = or_none (slice_index row (marks_at + w)) (mark 1) two.0 in
      record { room = omega arith; zeros = go one.0 one.1 two.1 three.1 }
    where
      go : slice_index_or row (marks_at + w) 0 ≡ 0 → mark 1 ≡ 0 → mark 2 ≡ 0 → mark 3 ≡ 0 → (d : ℕ) → d < 4 → mark d ≡ 0
      go a b c f zero l = let e : marks_at + w + 0 ≡ marks_at + w = omega arith in ap (λ (i : ℕ). slice_index row i) e ∙ a
      go a b c f (suc zero) l = b
      go a b c f (suc (suc zero)) l = c
      go a b c f (suc (suc (suc zero))) l = f
      go a b c f (suc (suc (suc (suc d)))) l = absurd (omega arith)

-- ---- the loop over the words

module _ (row : List ℕ) (size : length row ≡ row_words) where
  -- Clearing the notes leaves the words before them as they are.
  pub unnoted_begun : row ≡ over (word_at 0) (unnoted row) row
  unnoted_begun = over_skip 0 notes_at (unnoted row) row (unnoted_length row) (omega arith) (λ j g h. unnoted_before row j (omega arith) (omega arith))

  module _ (now : List ℕ) (w : ℕ) (h : w < values_most / 32) (q : now ≡ over (word_at w) (unnoted row) row) where
    -- The marks are still those of the start.
    marks_are : (j : ℕ) → j < values_most / 32 → slice_index now (marks_at + j) ≡ slice_index row (marks_at + j)
    marks_are j l =
        ap (λ (r : List ℕ). slice_index r (marks_at + j)) q
        ∙ over_made (word_at w) (marks_at + j) (unnoted row) row (unnoted_length row) (omega arith) ∙ unnoted_before row (marks_at + j) (omega arith) (omega arith)

    -- Four words without marks are passed over.
    pub passed_over : Unmarked now w → now ≡ over (word_at (w + 4)) (unnoted row) row
    passed_over u =
        q ∙ over_skip (word_at w) 128 (unnoted row) row (unnoted_length row) (omega (arith, u.room)) same_there
        ∙ ap (λ (i : ℕ). over i (unnoted row) row) next
      where
        next : word_at w + 128 ≡ word_at (w + 4)
        next = omega arith

        none : (k : ℕ) → w ≤ k / 32 → k / 32 < w + 4 → bit (slice_index row (marks_at + k / 32)) (k % 32) ≡ false
        none k g l =
            let e : marks_at + w + (k / 32 - w) ≡ marks_at + k / 32 = omega arith in
            let z = sym (marks_are (k / 32) (omega (arith, u.room))) ∙ ap (λ (i : ℕ). slice_index now i) (sym e) ∙ u.zeros (k / 32 - w) (omega arith) in
            ap (λ (m : ℕ). bit m (k % 32)) z ∙ bit_zero (k % 32)

        same_there : (j : ℕ) → word_at w ≤ j → j < word_at w + 128 → slice_index (unnoted row) j ≡ slice_index row j
        same_there j g l =
            let e : notes_at + (j - notes_at) ≡ j = omega arith in
            subst (λ (i : ℕ). slice_index (unnoted row) i ≡ slice_index row i) e
            (unnoted_at row (j - notes_at) (omega (arith, u.room)) false (none (j - notes_at) (omega arith) (omega arith)))

    module _ (m : ℕ) (few : m < 2 ^ 32) (marks : m ≡ slice_index now (marks_at + w)) where
      -- A note of the word, by its mark.
      in_word : (k : ℕ) → k / 32 ≡ w → cond (bit m (k % 32)) 0 (slice_index row (notes_at + k)) ≡ slice_index (unnoted row) (notes_at + k)
      in_word k e = go (bit m (k % 32)) (ap (λ (n : ℕ). bit (slice_index row (marks_at + n)) (k % 32)) e ∙ ap (λ (n : ℕ). bit n (k % 32)) (sym (marks ∙ marks_are w h)))
        where
          go : (b : Bool) → bit (slice_index row (marks_at + k / 32)) (k % 32) ≡ b → cond b 0 (slice_index row (notes_at + k)) ≡ slice_index (unnoted row) (notes_at + k)
          go true f = sym (unnoted_at row k (omega arith) true f)
          go false f = sym (unnoted_at row k (omega arith) false f)

      at_place : (i : ℕ) → word_at w ≤ i → i < word_at (w + 1) → cond (bit m (i - word_at w)) 0 (slice_index row i) ≡ slice_index (unnoted row) i
      at_place i g u =
          subst (λ (j : ℕ). cond (bit m (i - word_at w)) 0 (slice_index row j) ≡ slice_index (unnoted row) j) place
          (ap (λ (d : ℕ). cond (bit m d) 0 (slice_index row (notes_at + (i - notes_at)))) mark ∙ in_word (i - notes_at) (omega arith))
        where
          place : notes_at + (i - notes_at) ≡ i
          place = omega arith

          mark : i - word_at w ≡ (i - notes_at) % 32
          mark = omega arith

      -- The notes of the word's marks are cleared.
      pub word_cleared : (next : List ℕ) → next ≡ zeroed (bit_from (word_at w) m) now → next ≡ over (word_at (w + 1)) (unnoted row) row
      word_cleared next e =
          let n = ap length q ∙ over_length (word_at w) (unnoted row) row (unnoted_length row) in
          let z = zeroed_length (bit_from (word_at w) m) now in
          e
          ∙ ext_get_or 0 (zeroed (bit_from (word_at w) m) now) (over (word_at (w + 1)) (unnoted row) row)
          (z ∙ n ∙ sym (over_length (word_at (w + 1)) (unnoted row) row (unnoted_length row)))
          (λ i l. zeroed_at (bit_from (word_at w) m) now i (omega arith) ∙ ap (λ (r : List ℕ). cond (bit_from (word_at w) m i) 0 (slice_index r i)) q
          ∙ go i (omega arith) (nat_lt i (word_at w)) (nat_lt i (word_at (w + 1))) refl refl)
        where
          before : (n i : ℕ) → i < n → slice_index (over n (unnoted row) row) i ≡ slice_index (unnoted row) i
          before n i h = over_made n i (unnoted row) row (unnoted_length row) h

          after : (n i : ℕ) → n ≤ i → slice_index (over n (unnoted row) row) i ≡ slice_index row i
          after n i h = over_old n i (unnoted row) row (unnoted_length row) h

          go : (i : ℕ) → i < length row → (a b : Bool) → nat_lt i (word_at w) ≡ a → nat_lt i (word_at (w + 1)) ≡ b
              → cond (bit_from (word_at w) m i) 0 (slice_index (over (word_at w) (unnoted row) row) i) ≡ slice_index (over (word_at (w + 1)) (unnoted row) row) i
          go i l true b e f = rw e (before (word_at w) i (ltb-true i (word_at w) e) ∙ sym (before (word_at (w + 1)) i (omega (arith, ltb-true i (word_at w) e))))
          go i l false true e f =
              rw e (ap (cond (bit m (i - word_at w)) 0) (after (word_at w) i (ltb-false i (word_at w) e)) ∙ at_place i (ltb-false i (word_at w) e) (ltb-true i (word_at (w + 1)) f)
              ∙ sym (before (word_at (w + 1)) i (ltb-true i (word_at (w + 1)) f)))
          go i l false false e f =
              let g = ltb-false i (word_at (w + 1)) f in
              rw e (ap (λ (b : Bool). cond b 0 (slice_index (over (word_at w) (unnoted row) row) i)) (bit_past m (i - word_at w) few (omega arith))
              ∙ after (word_at w) i (omega arith) ∙ sym (after (word_at (w + 1)) i (omega arith)))
