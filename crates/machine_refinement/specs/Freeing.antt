-- A freed row: its length, and that it is blank where every word not marked as written is 0.
use Rattle.std.specs.Prelude.{ℕ, ◌+◌, ◌-◌, ◌/◌, ◌%◌, ◌≤◌, ◌<◌, ◌≡◌, Bool, List, ◌++◌, drop, replicate, eqb}
use native.Mathlib.Omega.{arith}
use Rattle.std.proofs.Math.Decide.{dec_lt}
use Rattle.std.proofs.Math.Path.{refl, ap}
use Rattle.std.proofs.Common.{sym, ◌∙◌, length-append, length-drop, get_or-drop, get_or-append-add, ext_get_or, eqb-true}
use Rattle.std.proofs.Math.Bool.{true, false, cond}
use Rattle.std.proofs.Math.ListN.{length, get_or, get_or-append}
use Rattle.std.proofs.lemmas.List.{length-replicate, get_or-replicate}
use Rattle.layout.specs.Layout.{values_most, depth_at, changed_at, lock_marks_at, called_at, head_spare_at, shallow_at, object_locks_at, marks_at, waiting_at, notes_at, row_words}
use Rattle.laws.specs.Bits.{bit, bit_zero}
use Rattle.machine_words.specs.Row.{blank, unnoted, unlocked, released, freed}
use Rattle.machine_words.specs.Cleared.{zeroed_length, zeroed_at, unnoted_length, unnoted_before, unnoted_at}
use Rattle.machine_refinement.specs.Rep.{Shallow, Clean}
use Rattle.machine_refinement.specs.Runs.{Alike}
use Rattle.machine_refinement.specs.Locks.{blank_word}

pub blank_long : length blank ≡ row_words
blank_long = length-replicate {A = ℕ} row_words 0

-- ---- a row that stays clean

-- A row with the marks and marked words of a clean row is clean, where its activations are shallow without a self-call.
pub clean_kept : (row row' : List ℕ) → Alike changed_at called_at row row' → Alike object_locks_at row_words row row' → ((get_or row called_at 0 ≡ 0 → Shallow row) → get_or row' called_at 0 ≡ 0 → Shallow row')
    → Clean row → Clean row'
clean_kept row row' head tail calls clean =
    record {
      notes = λ k h e. tail (notes_at + k) (omega arith) (omega arith)
          ∙ clean.notes k h (ap (λ (m : ℕ). bit m (k % 32)) (sym (tail (marks_at + k / 32) (omega arith) (omega arith))) ∙ e);
      marks = λ e i g h. tail i (omega arith) (omega arith) ∙ clean.marks (sym (head 9 (omega arith) (omega arith)) ∙ e) i g h;
      spare = λ i g h. tail i (omega arith) (omega arith) ∙ clean.spare i g h;
      locks = λ i g h e. tail i g (omega arith) ∙ clean.locks i g h (ap (λ (m : ℕ). bit m (i / 8)) (sym (head 10 (omega arith) (omega arith))) ∙ e);
      calls = calls clean.calls;
    }

-- A row that differs from a clean one only in its message's head and its first activation is clean.
pub clean_alike : (row row' : List ℕ) → Alike changed_at head_spare_at row row' → Alike shallow_at row_words row row' → (get_or row depth_at 0 ≤ 1 → get_or row' depth_at 0 ≤ 1) → Clean row → Clean row'
clean_alike row row' head tail depth =
    clean_kept row row' (λ i g h. head i g (omega arith)) (λ i g h. tail i (omega arith) h)
    (λ shallow z. let s = shallow (sym (head 11 (omega arith) (omega arith)) ∙ z) in
    (depth s.0, λ i g h. tail i g (omega arith) ∙ s.1 i g h))

-- ---- the row

module _ (row : List ℕ) (size : length row ≡ row_words) where
  unnoted_long : length (unnoted row) ≡ row_words
  unnoted_long = unnoted_length row ∙ size

  -- The first n words are 0, and the rest are those of a list.
  module _ (n : ℕ) (few : n ≤ row_words) (rest : List ℕ) (long : length rest ≡ row_words) where
    abbrev cleared : List ℕ
    cleared = replicate n 0 ++ drop n rest

    head_long : length (replicate {A = ℕ} n 0) ≡ n
    head_long = length-replicate {A = ℕ} n 0

    cleared_long : length cleared ≡ row_words
    cleared_long =
        let a = length-append (replicate {A = ℕ} n 0) (drop n rest) in
        let c = length-drop n rest in
        omega (arith, head_long)

    cleared_word : ((i : ℕ) → n ≤ i → i < row_words → get_or rest i 0 ≡ 0) → (i : ℕ) → i < row_words → get_or cleared i 0 ≡ 0
    cleared_word zero-there i h = go (dec_lt i n)
      where
        go : Dec (i < n) → get_or cleared i 0 ≡ 0
        go (yes l) = get_or-append (replicate {A = ℕ} n 0) (drop n rest) 0 i (omega (arith, head_long)) ∙ get_or-replicate n i 0 0 l
        go (no l) =
            let e : i ≡ length (replicate {A = ℕ} n 0) + (i - n) = omega (arith, head_long) in
            let k : n + (i - n) ≡ i = omega arith in
            ap (λ (j : ℕ). get_or cleared j 0) e ∙ get_or-append-add (replicate {A = ℕ} n 0) (drop n rest) (i - n) 0 ∙ get_or-drop n rest (i - n) 0
            ∙ ap (λ (j : ℕ). get_or rest j 0) k ∙ zero-there i (omega arith) h

  -- ---- a row whose transaction changed no value

  unlocked_long : length (unlocked row) ≡ row_words
  unfolding unlocked
  unlocked_long = zeroed_length (λ i. bit (get_or row lock_marks_at 0) (i / 8)) row ∙ size

  -- A word is 0 if it was, or if it is marked.
  unlocked_word : (i : ℕ) → i < row_words → (bit (get_or row lock_marks_at 0) (i / 8) ≡ false → get_or row i 0 ≡ 0) → get_or (unlocked row) i 0 ≡ 0
  unfolding unlocked
  unlocked_word i h e =
      zeroed_at (λ i. bit (get_or row lock_marks_at 0) (i / 8)) row i (omega (arith, size)) ∙ go (bit (get_or row lock_marks_at 0) (i / 8)) refl
    where
      go : (b : Bool) → bit (get_or row lock_marks_at 0) (i / 8) ≡ b → cond b 0 (get_or row i 0) ≡ 0
      go true f = refl
      go false f = e f

  released_long : length (released row) ≡ row_words
  unfolding released
  released_long = go (eqb (get_or row called_at 0) 0)
    where
      go : (b : Bool) → length (cond b (cleared 24 (omega arith) (unlocked row) unlocked_long) (cleared object_locks_at (omega arith) (unlocked row) unlocked_long)) ≡ row_words
      go true = cleared_long 24 (omega arith) (unlocked row) unlocked_long
      go false = cleared_long object_locks_at (omega arith) (unlocked row) unlocked_long

  pub freed_long : length (freed row) ≡ row_words
  unfolding freed
  freed_long = go (eqb (get_or row changed_at 0) 0)
    where
      go : (b : Bool) → length (cond b (released row) (cleared waiting_at (omega arith) (unnoted row) unnoted_long)) ≡ row_words
      go true = released_long
      go false = cleared_long waiting_at (omega arith) (unnoted row) unnoted_long

  module _ (clean : Clean row) where
    note_freed : (k : ℕ) → k < values_most → get_or (unnoted row) (notes_at + k) 0 ≡ 0
    note_freed k h = go (bit (get_or row (marks_at + k / 32) 0) (k % 32)) refl
      where
        go : (b : Bool) → bit (get_or row (marks_at + k / 32) 0) (k % 32) ≡ b → get_or (unnoted row) (notes_at + k) 0 ≡ 0
        go true e = unnoted_at row k (omega arith) true e
        go false e = unnoted_at row k (omega arith) false e ∙ clean.notes k h e

    -- Where no value was changed there is no mark, and so no note.
    unchanged : get_or row changed_at 0 ≡ 0 → (i : ℕ) → marks_at ≤ i → i < row_words → get_or row i 0 ≡ 0
    unchanged z i g h = go (dec_lt i waiting_at) (dec_lt i notes_at)
      where
        go : Dec (i < waiting_at) → Dec (i < notes_at) → get_or row i 0 ≡ 0
        go (yes l) n = clean.marks z i g l
        go (no l) (yes n) = clean.spare i (omega arith) n
        go (no l) (no n) =
            let k : notes_at + (i - notes_at) ≡ i = omega arith in
            let m : get_or row (marks_at + (i - notes_at) / 32) 0 ≡ 0 = clean.marks z (marks_at + (i - notes_at) / 32) (omega arith) (omega arith) in
            ap (λ (j : ℕ). get_or row j 0) (sym k)
            ∙ clean.notes (i - notes_at) (omega arith) (ap (λ (x : ℕ). bit x ((i - notes_at) % 32)) m ∙ bit_zero ((i - notes_at) % 32))

    -- A word after the activations: a lock that was not taken, a mark or a note that was not made.
    unheld : get_or row changed_at 0 ≡ 0 → (i : ℕ) → object_locks_at ≤ i → i < row_words → get_or (unlocked row) i 0 ≡ 0
    unheld z i g h = go (dec_lt i marks_at)
      where
        go : Dec (i < marks_at) → get_or (unlocked row) i 0 ≡ 0
        go (yes l) = unlocked_word i h (clean.locks i g l)
        go (no l) = unlocked_word i h (λ e. unchanged z i (omega arith) h)

    released_word : get_or row changed_at 0 ≡ 0 → (i : ℕ) → i < row_words → get_or (released row) i 0 ≡ 0
    unfolding released
    released_word z i h = go (eqb (get_or row called_at 0) 0) refl
      where
        alone : get_or row called_at 0 ≡ 0 → (j : ℕ) → 24 ≤ j → j < row_words → get_or (unlocked row) j 0 ≡ 0
        alone quiet j g l = side (dec_lt j object_locks_at)
          where
            side : Dec (j < object_locks_at) → get_or (unlocked row) j 0 ≡ 0
            side (yes k) = unlocked_word j l (λ e. (clean.calls quiet).1 j (omega arith) k)
            side (no k) = unheld z j (omega arith) l

        go : (b : Bool) → eqb (get_or row called_at 0) 0 ≡ b
            → get_or (cond b (cleared 24 (omega arith) (unlocked row) unlocked_long) (cleared object_locks_at (omega arith) (unlocked row) unlocked_long)) i 0 ≡ 0
        go true e = cleared_word 24 (omega arith) (unlocked row) unlocked_long (alone (eqb-true (get_or row called_at 0) 0 e)) i h
        go false e = cleared_word object_locks_at (omega arith) (unlocked row) unlocked_long (unheld z) i h

    word_freed : (i : ℕ) → i < row_words → get_or (freed row) i 0 ≡ 0
    unfolding freed
    word_freed i h = go (eqb (get_or row changed_at 0) 0) refl
      where
        noted : (j : ℕ) → waiting_at ≤ j → j < row_words → get_or (unnoted row) j 0 ≡ 0
        noted j g l = side (dec_lt j notes_at)
          where
            side : Dec (j < notes_at) → get_or (unnoted row) j 0 ≡ 0
            side (yes n) = unnoted_before row j n (omega (arith, size)) ∙ clean.spare j g n
            side (no n) =
                let k : notes_at + (j - notes_at) ≡ j = omega arith in
                ap (λ (x : ℕ). get_or (unnoted row) x 0) (sym k) ∙ note_freed (j - notes_at) (omega arith)

        go : (b : Bool) → eqb (get_or row changed_at 0) 0 ≡ b → get_or (cond b (released row) (cleared waiting_at (omega arith) (unnoted row) unnoted_long)) i 0 ≡ 0
        go true e = released_word (eqb-true (get_or row changed_at 0) 0 e) i h
        go false e = cleared_word waiting_at (omega arith) (unnoted row) unnoted_long noted i h

    -- Every word is 0.
    pub freed_blank : freed row ≡ blank
    freed_blank = ext_get_or 0 (freed row) blank (freed_long ∙ sym blank_long) (λ i h. word_freed i (omega (arith, freed_long)) ∙ sym (blank_word i))
