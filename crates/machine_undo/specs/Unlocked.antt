-- The words where locks were taken, cleared eight by eight: the row's lock marks have a bit for each eight.
use Rattle.std.specs.Prelude.{◌≡◌, ℕ, ◌+◌, ◌-◌, ◌*◌, ◌/◌, ◌^◌, ◌<◌, ◌≤◌, Bool, true, false, cond, not, ◌&&◌, ◌||◌, List, length, replicate, ◌==◌, nat_eq, slice_index, refl}
use Rattle.std.proofs.Common.{arith, sym, ◌∙◌, true≢false, ext_get_or, eq-eqb, ne_eqb}
use Rattle.std.proofs.Math.Decide.{ℕ_discrete, dec_le, dec_lt}
use Rattle.std.proofs.Math.Path.{ap, fun_ext}
use Rattle.layout.specs.Layout.{lock_marks_at, row_words}
use Rattle.laws.specs.Bits.{bit, bit_zero, less_here, less_else}
use Rattle.machine_words.specs.Row.{zeroed, unlocked}
use Rattle.machine_words.specs.Cleared.{zeroed_length, zeroed_at}
use Rattle.machine_words.specs.Spans.{sets_else, sets_there}
use Rattle.std.proofs.lemmas.List.Edits.{sets}
use Rattle.std.proofs.Math.Seq.{length-sets}
use lib.ListN.{length-replicate}
use Rattle.machine_undo.specs.Over.{zeros_at}

-- ---- cleared words

zeroed_same : (p q : ℕ → Bool) (row : List ℕ) → ((i : ℕ) → p i ≡ q i) → zeroed p row ≡ zeroed q row
zeroed_same p q row e = ap (λ (r : ℕ → Bool). zeroed r row) (fun_ext e)

zeroed_none : (row : List ℕ) → zeroed (λ i. false) row ≡ row
zeroed_none row =
    ext_get_or 0 (zeroed (λ i. false) row) row (zeroed_length (λ i. false) row)
    (λ i h. zeroed_at (λ i. false) row i (let l = zeroed_length (λ i. false) row in omega arith))

zeroed_more : (p q : ℕ → Bool) (row : List ℕ) → zeroed q (zeroed p row) ≡ zeroed (λ i. p i || q i) row
zeroed_more p q row =
    let once = zeroed_length p row in
    let twice = zeroed_length q (zeroed p row) in
    let both = zeroed_length (λ i. p i || q i) row in
    ext_get_or 0 (zeroed q (zeroed p row)) (zeroed (λ i. p i || q i) row) (twice ∙ once ∙ sym both)
    (λ i h. zeroed_at q (zeroed p row) i (omega arith) ∙ ap (cond (q i) 0) (zeroed_at p row i (omega arith)) ∙ go (p i) (q i) (slice_index row i)
    ∙ sym (zeroed_at (λ i. p i || q i) row i (omega arith)))
  where
    go : (a b : Bool) (v : ℕ) → cond b 0 (cond a 0 v) ≡ cond (a || b) 0 v
    go true true v = refl
    go true false v = refl
    go false true v = refl
    go false false v = refl

-- ---- eight words

module _ (row : List ℕ) (size : length row ≡ row_words) (b : ℕ) (few : b < 32) where
  abbrev pub without : List ℕ
  without = zeroed (λ i. nat_eq (i / 8) b) row

  pub without_length : length without ≡ length row
  without_length = zeroed_length (λ i. nat_eq (i / 8) b) row

  pub without_here : (i : ℕ) → b * 8 ≤ i → i < b * 8 + 8 → slice_index without i ≡ 0
  without_here i g h =
      zeroed_at (λ i. nat_eq (i / 8) b) row i (omega arith) ∙ ap (λ (t : Bool). cond t 0 (slice_index row i)) (eq-eqb (i / 8) b (omega arith))

  without_else : (i : ℕ) → i < row_words → (b * 8 ≤ i → i < b * 8 + 8 → ⊥) → slice_index without i ≡ slice_index row i
  without_else i h out =
      zeroed_at (λ i. nat_eq (i / 8) b) row i (omega arith)
      ∙ ap (λ (t : Bool). cond t 0 (slice_index row i)) (ne_eqb (i / 8) b (λ e. out (omega arith) (omega arith)))

  -- Eight zeros in their place.
  pub eight_cleared : sets row (b * 8) (replicate 8 0) ≡ without
  eight_cleared =
      ext_get_or 0 (sets row at zeros) without (length-sets row at zeros ∙ sym without_length)
      (λ i h. go i (omega (arith, length-sets row at zeros)) (dec_le at i) (dec_lt i (at + 8)))
    where
      at : ℕ
      at = b * 8

      zeros : List ℕ
      zeros = replicate 8 0

      eight : length zeros ≡ 8
      eight = length-replicate {A = ℕ} 8 0

      go : (i : ℕ) → i < row_words → Dec (at ≤ i) → Dec (i < at + 8) → slice_index (sets row at zeros) i ≡ slice_index without i
      go i h (no x) y = sets_else zeros row at i (λ g l. x g) ∙ sym (without_else i h (λ g l. x g))
      go i h (yes x) (no y) = sets_else zeros row at i (λ g l. y (omega (arith, eight))) ∙ sym (without_else i h (λ g l. y l))
      go i h (yes x) (yes y) =
          let e : at + (i - at) ≡ i = omega arith in
          ap (λ (m : ℕ). slice_index (sets row at zeros) m) (sym e)
          ∙ sets_there zeros row at (i - at) (omega (arith, eight)) (omega (arith, eight))
          ∙ zeros_at 8 (i - at) ∙ sym (without_here i x y)

-- ---- all that the marks name

module _ (row : List ℕ) (marks : ℕ) where
  -- The row with the words cleared that the marks name and `left` no longer does.
  abbrev pub less_than : ℕ → List ℕ
  less_than left = zeroed (λ i. bit marks (i / 8) && not (bit left (i / 8))) row

  pub less_length : (left : ℕ) → length (less_than left) ≡ length row
  less_length left = zeroed_length (λ i. bit marks (i / 8) && not (bit left (i / 8))) row

  pub less_none : row ≡ less_than marks
  less_none = sym (zeroed_same (λ i. bit marks (i / 8) && not (bit marks (i / 8))) (λ i. false) row (λ i. go (bit marks (i / 8))) ∙ zeroed_none row)
    where
      go : (t : Bool) → (t && not t) ≡ false
      go true = refl
      go false = refl

  pub less_all : less_than 0 ≡ zeroed (λ i. bit marks (i / 8)) row
  less_all =
      zeroed_same (λ i. bit marks (i / 8) && not (bit 0 (i / 8))) (λ i. bit marks (i / 8)) row
      (λ i. ap (λ (t : Bool). bit marks (i / 8) && not t) (bit_zero (i / 8)) ∙ go (bit marks (i / 8)))
    where
      go : (t : Bool) → (t && true) ≡ t
      go true = refl
      go false = refl

  module _ (left t : ℕ) (here : bit left t ≡ true) (named : (d : ℕ) → bit left d ≡ true → bit marks d ≡ true) where
    pub named_less : (d : ℕ) → bit (left - 2 ^ t) d ≡ true → bit marks d ≡ true
    named_less d e = go (ℕ_discrete d t)
      where
        go : Dec (d ≡ t) → bit marks d ≡ true
        go (yes z) = absurd (true≢false (sym e ∙ ap (bit (left - 2 ^ t)) z ∙ less_here t left here))
        go (no ne) = named d (sym (less_else t left d here ne) ∙ e)

    -- Eight more words are cleared.
    pub less_more : (now next : List ℕ) → now ≡ less_than left → next ≡ zeroed (λ i. nat_eq (i / 8) t) now → next ≡ less_than (left - 2 ^ t)
    less_more now next e f =
        f ∙ ap (zeroed (λ i. nat_eq (i / 8) t)) e
        ∙ zeroed_more (λ i. bit marks (i / 8) && not (bit left (i / 8))) (λ i. nat_eq (i / 8) t) row
        ∙ zeroed_same (λ i. (bit marks (i / 8) && not (bit left (i / 8))) || i / 8 == t) (λ i. bit marks (i / 8) && not (bit (left - 2 ^ t) (i / 8))) row
        (λ i. go (i / 8) (ℕ_discrete (i / 8) t))
      where
        gone : (x : Bool) → ((true && x) || true) ≡ true
        gone true = refl
        gone false = refl

        same : (x y : Bool) → ((x && not y) || false) ≡ (x && not y)
        same true true = refl
        same true false = refl
        same false y = refl

        go : (d : ℕ) → Dec (d ≡ t) → ((bit marks d && not (bit left d)) || d == t) ≡ (bit marks d && not (bit (left - 2 ^ t) d))
        go d (yes z) =
            let m : bit marks d ≡ true = named d (ap (bit left) z ∙ here) in
            let l : bit (left - 2 ^ t) d ≡ false = ap (bit (left - 2 ^ t)) z ∙ less_here t left here in
            rw (m, l, eq-eqb d t z) (gone (not (bit left d)))
        go d (no ne) = rw (less_else t left d here ne, ne_eqb d t ne) (same (bit marks d) (bit left d))

  pub unlocked_is : marks ≡ slice_index row lock_marks_at → zeroed (λ i. bit marks (i / 8)) row ≡ unlocked row
  unfolding unlocked
  unlocked_is e = ap (λ (m : ℕ). zeroed (λ i. bit m (i / 8)) row) e
