-- Cleared words: those that pass a test, and the undo notes that a row has made.
use Rattle.std.specs.Prelude.{ℕ, zero, suc, ◌+◌, ◌-◌, ◌/◌, ◌%◌, ◌<◌, ◌≡◌, refl, Bool, List, [], ◌∷◌, length, get_or, ltb}
use native.Mathlib.Omega.{arith}
use Rattle.std.proofs.Math.Path.{ap}
use Rattle.std.proofs.Common.{◌∙◌, lt-ltb, le-ltb}
use Rattle.std.proofs.Math.Bool.{false, cond}
use Rattle.layout.specs.Layout.{marks_at, notes_at}
use Rattle.laws.specs.Bits.{bit}
use Rattle.machine_words.specs.Row.{unnoted, zeroed}

-- ---- by a test

pub zeroed_length : (p : ℕ → Bool) (row : List ℕ) → length (zeroed p row) ≡ length row
unfolding zeroed
zeroed_length p [] = refl
zeroed_length p (w ∷ row) = ap suc (zeroed_length (λ i. p (suc i)) row)

pub zeroed_at : (p : ℕ → Bool) (row : List ℕ) (i : ℕ) → i < length row → get_or (zeroed p row) i 0 ≡ cond (p i) 0 (get_or row i 0)
unfolding zeroed
zeroed_at p [] i h = absurd (omega arith)
zeroed_at p (w ∷ row) zero h = refl
zeroed_at p (w ∷ row) (suc i) h = zeroed_at (λ i. p (suc i)) row i (omega arith)

-- ---- the notes

-- The undo notes that were made are cleared.
module _ (row : List ℕ) where
  -- Whether word i is the note of a value that is marked.
  abbrev made : ℕ → Bool
  made i = cond (ltb i notes_at) false (bit (get_or row (marks_at + (i - notes_at) / 32) 0) ((i - notes_at) % 32))

  pub unnoted_length : length (unnoted row) ≡ length row
  unfolding unnoted
  unnoted_length = zeroed_length made row

  pub unnoted_before : (i : ℕ) → i < notes_at → i < length row → get_or (unnoted row) i 0 ≡ get_or row i 0
  unfolding unnoted
  unnoted_before i h l =
      zeroed_at made row i l
      ∙ ap (λ (b : Bool). cond (cond b false (bit (get_or row (marks_at + (i - notes_at) / 32) 0) ((i - notes_at) % 32))) 0 (get_or row i 0)) (lt-ltb i notes_at h)

  -- Value k's note, by its mark.
  pub unnoted_at : (k : ℕ) → notes_at + k < length row → (b : Bool) → bit (get_or row (marks_at + k / 32) 0) (k % 32) ≡ b
      → get_or (unnoted row) (notes_at + k) 0 ≡ cond b 0 (get_or row (notes_at + k) 0)
  unfolding unnoted
  unnoted_at k l b e =
      let q : notes_at + k - notes_at ≡ k = omega arith in
      zeroed_at made row (notes_at + k) l
      ∙ ap (λ (b : Bool). cond (cond b false (bit (get_or row (marks_at + (notes_at + k - notes_at) / 32) 0) ((notes_at + k - notes_at) % 32))) 0 (get_or row (notes_at + k) 0))
      (le-ltb (notes_at + k) notes_at (omega arith))
      ∙ ap (λ (j : ℕ). cond (bit (get_or row (marks_at + j / 32) 0) (j % 32)) 0 (get_or row (notes_at + k) 0)) q
      ∙ ap (λ (b : Bool). cond b 0 (get_or row (notes_at + k) 0)) e
