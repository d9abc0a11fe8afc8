-- The words of a waiting send in its slot's row, as the code clears and writes them.
use Rattle.std.specs.Prelude.{ℕ, ◌+◌, ◌-◌, ◌≤◌, ◌≡◌, List, ◌++◌, take, drop, replicate}
use native.Mathlib.Omega.{arith}
use Rattle.std.proofs.Common.{sym, ◌∙◌}
use Rattle.std.proofs.Math.Path.{ap}
use Rattle.std.proofs.Math.ListN.{length, set, length-set}
use Rattle.std.proofs.lemmas.List.{length-replicate}
use Rattle.std.proofs.lemmas.List.Edits.{sets}
use Rattle.std.proofs.Math.Seq.{length-sets}
use Rattle.layout.specs.Layout.{table_words, phase_at, waiting_at, waiting_words, row_words}
use Rattle.machine_words.specs.Request.{Wanted, named_row, locked}
use Rattle.machine_words.specs.Line.{tables_of, row_start, row_of, with_row, requested, waiting_row, withdrawn}
use Rattle.machine_words.specs.Spans.{take_sets, lent_sets, sets_within, set_within}
use Rattle.machine_checks.specs.Lent.{Within, Span, part_at, lent_at, row_size}
use Rattle.machine_take.specs.Taken.{row_span, locked_length, written_again}

pub withdrawn_length : (row : List ℕ) → length (withdrawn row) ≡ length row
unfolding withdrawn
withdrawn_length row =
    let cleared : List ℕ = sets row waiting_at (replicate waiting_words 0) in
    length-set cleared phase_at 1 ∙ length-sets row waiting_at (replicate waiting_words 0)

requested_length : (q : Wanted) (waiting : List ℕ) → length (requested q waiting) ≡ length waiting
requested_length q waiting = unfold requested named_row in simp length-set

-- The words of the waiting send, as a part of the state.
pub waiting_span : (ws : List ℕ) (s : ℕ) → Within ws s → Span ws (row_start s + waiting_at) waiting_words
waiting_span ws s h = record { above = omega arith; fits = omega (arith, h.slot, h.long) }

-- The slot's row begins at a.
module _ (text ws : List ℕ) (s : ℕ) (h : Within ws s) (q : Wanted) (a : ℕ) (b : a ≡ row_start s) where
  abbrev at : ℕ
  at = a + waiting_at

  abbrev none : List ℕ
  none = replicate waiting_words 0

  none_size : length none ≡ waiting_words
  none_size = length-replicate {A = ℕ} waiting_words 0

  above : table_words ≤ at
  above = omega (arith, b)

  fits : at + waiting_words ≤ length ws
  fits = omega (arith, b, h.slot, h.long)

  -- Written in the row, or at its place in the state.
  in_row : (vs : List ℕ) → length vs ≡ waiting_words → sets ws at vs ≡ with_row ws s (sets (row_of ws s) waiting_at vs)
  unfolding row_of
  in_row vs size = rw b (sets_within ws (row_start s) row_words waiting_at vs (row_span ws s h).fits (omega (arith, size)))

  pub cleared_lent : (e : ℕ) → e ≡ row_start s + row_words → (row : List ℕ) → length row ≡ row_words → row ≡ sets (take (e - a) (drop a ws)) waiting_at none
      → take a ws ++ (row ++ drop (e - a) (drop a ws)) ≡ sets ws at none
  cleared_lent e c row long r =
      lent_at ws s h a e b c row (sets (row_of ws s) waiting_at none) long (r ∙ ap (λ (l : List ℕ). sets l waiting_at none) (part_at ws s a e b c))
      ∙ sym (in_row none none_size)

  -- The send's words, then its locks, then the phase.
  module _ (now : List ℕ) (c : now ≡ sets ws at none) where
    pub cleared_within : Within now s
    cleared_within = record { slot = h.slot; long = omega (arith, h.long, ap length c, length-sets ws at none) }

    module _ (words : List ℕ) (size : length words ≡ waiting_words) (w : words ≡ requested q (take (at + waiting_words - at) (drop at now))) where
      abbrev asked : List ℕ
      asked = take at now ++ (words ++ drop (at + waiting_words - at) (drop at now))

      pub asked_is : asked ≡ sets ws at (requested q none)
      asked_is =
          let k : at + waiting_words - at ≡ waiting_words = omega arith in
          let r = w ∙ ap (λ (n : ℕ). requested q (take n (drop at now))) k in
          let fits_now : at + waiting_words ≤ length now = omega (arith, fits, ap length c, length-sets ws at none) in
          written_again ws at waiting_words fits (requested q) (requested_length q) now asked none none_size c
          (lent_sets now at waiting_words fits_now words (requested q (take waiting_words (drop at now))) size r)

      pub asked_span : Span asked at waiting_words
      asked_span = record { above = above; fits = omega (arith, fits, ap length asked_is, length-sets ws at (requested q none)) }

      module _ (held : List ℕ) (l : held ≡ sets asked at (locked text (tables_of asked) q (take waiting_words (drop at asked)))) where
        abbrev locks : List ℕ
        locks = locked text (tables_of ws) q (requested q none)

        locks_size : length locks ≡ waiting_words
        locks_size = locked_length text (tables_of ws) q (requested q none) ∙ requested_length q none ∙ none_size

        abbrev row : List ℕ
        row = sets (row_of ws s) waiting_at locks

        held_is : held ≡ with_row ws s row
        held_is =
            let tables : tables_of asked ≡ tables_of ws = ap tables_of asked_is ∙ take_sets (requested q none) ws table_words at above in
            written_again ws at waiting_words fits (locked text (tables_of ws) q) (locked_length text (tables_of ws) q) asked held (requested q none)
            (requested_length q none ∙ none_size) asked_is
            (l ∙ ap (λ (t : List ℕ). sets asked at (locked text t q (take waiting_words (drop at asked)))) tables)
            ∙ in_row locks locks_size

        row_long : length row ≡ row_words
        row_long = length-sets (row_of ws s) waiting_at locks ∙ row_size ws s h

        pub held_back : (now' : List ℕ) → now' ≡ set held a 3 → now' ≡ with_row ws s (waiting_row text (tables_of ws) q (row_of ws s))
        unfolding waiting_row
        held_back now' p =
            let e : row_start s + 0 ≡ row_start s = omega arith in
            let fits_held : row_start s + row_words ≤ length held = omega (arith, (row_span ws s h).fits, ap length held_is, length-sets ws (row_start s) row) in
            written_again ws (row_start s) row_words (row_span ws s h).fits (λ l. set l phase_at 3) (λ l. length-set l phase_at 3) held now' row row_long held_is
            (p ∙ ap (λ (i : ℕ). set held i 3) (b ∙ sym e) ∙ set_within held (row_start s) row_words phase_at 3 fits_held (omega arith))
