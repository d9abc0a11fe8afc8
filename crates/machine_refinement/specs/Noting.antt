-- A value's undo note, made or added to; and the turn that changes a value.
use Rattle.std.specs.Prelude.{ℕ, suc, ◌+◌, ◌*◌, ◌/◌, ◌%◌, ◌^◌, ◌<◌, ◌≡◌, refl, ◌≢◌, Bool, true, false, cond, ◌&&◌, ◌||◌, length, get_or, set, eqb}
use Rattle.std.proofs.Common.{zero-mul, one-mul, arith, ap₂, subst, ◌∙◌, true≢false, length-set, lt-ltb, eqb-true, eq-eqb, ne_eqb}
use Rattle.std.proofs.Math.Decide.{ℕ_discrete}
use Rattle.std.proofs.Math.Path.{sym, ap}
use Rattle.std.proofs.Math.Bool.{and-false, and-true, or-false}
use mathlib.Core.List.{List, ◌∷◌}
use Rattle.std.specs.Int.Bits.{bit_or}
use Rattle.std.proofs.lemmas.Bool.{eqb-false}
use Rattle.layout.specs.Layout.{values_most, depth_at, steps_at, changed_at, activations_at, next_at, end_at, activation_words, marks_at, set_marks_at, notes_at, row_words}
use Rattle.model.specs.Base.{digit, put}
use Rattle.model.specs.Form.{Change, replace, increase}
use Rattle.model.specs.Vector.{Program}
use Rattle.model.specs.Message.{changed, store, Activation, with_rest}
use Rattle.model.specs.Undo.{Note, sum_added, old_value, renoted}
use Rattle.laws.specs.Bits.{bit, bit_zero, bit_or_law, bit_one}
use Rattle.laws.specs.Basics.{at_or, put_same, put_other}
use Rattle.laws.specs.Lists.{eqb_same, same_test}
use Rattle.machine_words.specs.Row.{act, note_by, note_at, is_set, note_word, with_mark, noted_row, skip_row, going_to}
use Rattle.machine_refinement.specs.Rep.{between, activation_of, stack_of, run_of, Running, Clean}
use Rattle.machine_refinement.specs.Runs.{note_alike, activation_same, stack_same, run_same, running_same}
use Rattle.machine_refinement.specs.Stores.{else_word, new_word}
use Rattle.machine_refinement.specs.Going.{Goes, onward_run, skip_goes}

-- ---- a mark

-- Value j's bit in the words from `at` on.
abbrev mark_of : List ℕ → ℕ → ℕ → Bool
mark_of row at j = bit (get_or row (at + j / 32) 0) (j % 32)

test_bit : (test : Bool) (k d : ℕ) → k < 32 → bit (digit test * 2 ^ k) d ≡ (test && eqb k d)
test_bit true k d h = ap (λ (m : ℕ). bit m d) (one-mul (2 ^ k)) ∙ bit_one k d h
test_bit false k d h = ap (λ (m : ℕ). bit m d) (zero-mul (2 ^ k)) ∙ bit_zero d

-- Two values of one word are the same where their bits are.
one_word : (k j : ℕ) → j / 32 ≡ k / 32 → eqb (k % 32) (j % 32) ≡ eqb k j
one_word k j e =
    same_test (eqb (k % 32) (j % 32)) (eqb k j) (λ t. eq-eqb k j (omega (arith, eqb-true (k % 32) (j % 32) t)))
    (λ t. eq-eqb (k % 32) (j % 32) (omega (arith, eqb-true k j t)))

module _ (row : List ℕ) (at k : ℕ) (test : Bool) where
  abbrev more : ℕ
  more = bit_or (get_or row (at + k / 32) 0) (digit test * 2 ^ (k % 32))

  mark_else : (i : ℕ) → i ≢ at + k / 32 → get_or (with_mark row at k test) i 0 ≡ get_or row i 0
  mark_else i ne = else_word row (at + k / 32) more i ne

  -- A mark adds value k's bit where the test passes.
  mark_is : at + k / 32 < length row → (j : ℕ) → mark_of (with_mark row at k test) at j ≡ (mark_of row at j || (test && eqb k j))
  mark_is h j = go (ℕ_discrete (j / 32) (k / 32))
    where
      go : Dec (j / 32 ≡ k / 32) → mark_of (with_mark row at k test) at j ≡ (mark_of row at j || (test && eqb k j))
      go (yes e) =
          let old = get_or row (at + k / 32) 0 in
          subst (λ (i : ℕ). bit (get_or (with_mark row at k test) (at + i) 0) (j % 32) ≡ (bit (get_or row (at + i) 0) (j % 32) || (test && eqb k j))) (sym e)
          (ap (λ (m : ℕ). bit m (j % 32)) (new_word row (at + k / 32) more h) ∙ bit_or_law old (digit test * 2 ^ (k % 32)) (j % 32)
          ∙ ap (λ (b : Bool). bit old (j % 32) || b) (test_bit test (k % 32) (j % 32) (omega arith) ∙ ap (λ (b : Bool). test && b) (one_word k j e)))
      go (no d) =
          ap (λ (m : ℕ). bit m (j % 32)) (mark_else (at + j / 32) (λ q. d (omega arith)))
          ∙ sym (ap (λ (b : Bool). mark_of row at j || b) (ap (λ (b : Bool). test && b) (ne_eqb k j (λ q. d (omega arith))) ∙ and-false test) ∙ or-false (mark_of row at j))

-- ---- a note

-- A note by its mark and its word.
note_is : (row : List ℕ) (j : ℕ) → j < values_most → (b : Bool) → mark_of row set_marks_at j ≡ b → note_at row j ≡ note_by b (get_or row (notes_at + j) 0)
unfolding note_at
note_is row j h b e = rw (lt-ltb j values_most h, e) refl

-- The note that a change makes of a sum, and that it leaves an old value.
sum_noted : (how : Change) (sum x v : ℕ) → note_by (is_set how) (note_word how sum x v) ≡ renoted how (sum_added sum) x v
sum_noted replace sum x v = refl
sum_noted increase sum x v = refl

old_kept : (how : Change) (u x v : ℕ) → old_value u ≡ renoted how (old_value u) x v
old_kept replace u x v = refl
old_kept increase u x v = refl

module _ (row : List ℕ) (size : length row ≡ row_words) (how : Change) (k x v : ℕ) (few : k < values_most) where
  abbrev flagged : List ℕ
  flagged = set row changed_at 1

  abbrev marked : List ℕ
  marked = with_mark flagged marks_at k true

  abbrev twice : List ℕ
  twice = with_mark marked set_marks_at k (is_set how)

  abbrev word : ℕ
  word = note_word how (get_or row (notes_at + k) 0) x v

  -- The row with the undo note made or added to.
  abbrev made : List ℕ
  made = set twice (notes_at + k) word

  marked_long : length marked ≡ row_words
  marked_long = length-set flagged (marks_at + k / 32) (more flagged marks_at k true) ∙ length-set row changed_at 1 ∙ size

  twice_long : length twice ≡ row_words
  twice_long = length-set marked (set_marks_at + k / 32) (more marked set_marks_at k (is_set how)) ∙ marked_long

  made_mark : (j : ℕ) → j < values_most → mark_of made marks_at j ≡ (mark_of row marks_at j || eqb k j)
  made_mark j h =
      let i = marks_at + j / 32 in
      ap (λ (m : ℕ). bit m (j % 32)) (else_word twice (notes_at + k) word i (omega arith) ∙ mark_else marked set_marks_at k (is_set how) i (omega arith))
      ∙ mark_is flagged marks_at k true (omega (arith, size, length-set row changed_at 1)) j
      ∙ ap (λ (m : ℕ). bit m (j % 32) || eqb k j) (else_word row changed_at 1 i (omega arith))

  made_set : (j : ℕ) → j < values_most → mark_of made set_marks_at j ≡ (mark_of row set_marks_at j || (is_set how && eqb k j))
  made_set j h =
      let i = set_marks_at + j / 32 in
      ap (λ (m : ℕ). bit m (j % 32)) (else_word twice (notes_at + k) word i (omega arith))
      ∙ mark_is marked set_marks_at k (is_set how) (omega (arith, marked_long)) j
      ∙ ap (λ (m : ℕ). bit m (j % 32) || (is_set how && eqb k j)) (mark_else flagged marks_at k true i (omega arith) ∙ else_word row changed_at 1 i (omega arith))

  made_other : (i : ℕ) → (i ≢ marks_at + k / 32) × (i ≢ set_marks_at + k / 32) × (i ≢ notes_at + k) × (i ≢ changed_at) → get_or made i 0 ≡ get_or row i 0
  made_other i n =
      else_word twice (notes_at + k) word i n.2 ∙ mark_else marked set_marks_at k (is_set how) i n.1 ∙ mark_else flagged marks_at k true i n.0
      ∙ else_word row changed_at 1 i n.3

  made_flag : get_or made changed_at 0 ≡ 1
  made_flag =
      else_word twice (notes_at + k) word 9 (omega arith) ∙ mark_else marked set_marks_at k (is_set how) 9 (omega arith) ∙ mark_else flagged marks_at k true 9 (omega arith)
      ∙ new_word row changed_at 1 (omega arith)

  -- The note of every other value is kept.
  made_else : (j : ℕ) → (j ≡ k → ⊥) → note_at made j ≡ note_at row j
  made_else j ne = note_alike row made j (λ h. (
    made_set j h ∙ ap (λ (b : Bool). mark_of row set_marks_at j || (is_set how && b)) (ne_eqb k j (λ e. ne (omega arith)))
        ∙ ap (λ (b : Bool). mark_of row set_marks_at j || b) (and-false (is_set how)) ∙ or-false (mark_of row set_marks_at j),
    made_other (notes_at + j) (omega arith, omega arith, λ e. ne (omega arith), omega arith),
  ))

  made_here : mark_of row set_marks_at k ≡ false → note_at made k ≡ note_by (is_set how) word
  made_here clear =
      note_is made k few (is_set how) (made_set k few ∙ ap₂ (λ (a b : Bool). a || (is_set how && b)) clear (eqb_same k) ∙ and-true (is_set how))
      ∙ ap (note_by (is_set how)) (new_word twice (notes_at + k) word (omega (arith, twice_long)))

  -- A note without its mark is still 0: the other marks and notes are as they were.
  made_unmade : ((j : ℕ) → j < values_most → mark_of row marks_at j ≡ false → get_or row (notes_at + j) 0 ≡ 0)
      → (j : ℕ) → j < values_most → mark_of made marks_at j ≡ false → get_or made (notes_at + j) 0 ≡ 0
  made_unmade clean j h e =
      let q : (mark_of row marks_at j || eqb k j) ≡ false = sym (made_mark j h) ∙ e in
      made_other (notes_at + j) (omega arith, omega arith, λ z. eqb-false k j (or_right (mark_of row marks_at j) (eqb k j) q) (omega arith), omega arith)
      ∙ clean j h (or_left (mark_of row marks_at j) (eqb k j) q)
    where
      or_left : (a b : Bool) → (a || b) ≡ false → a ≡ false
      or_left false b e = refl
      or_left true b e = e

      or_right : (a b : Bool) → (a || b) ≡ false → b ≡ false
      or_right false b e = e
      or_right true b e = absurd (true≢false e)

  made_clean : Clean row → Clean made
  made_clean clean =
      let other : (i : ℕ) → i < marks_at → i ≢ 9 → get_or made i 0 ≡ get_or row i 0 = λ i h n. made_other i (omega arith, omega arith, omega arith, n) in
      record {
        notes = made_unmade clean.notes;
        marks = λ e. absurd (omega (arith, made_flag));
        spare = λ i g h. made_other i (omega arith, omega arith, omega arith, omega arith) ∙ clean.spare i g h;
        locks = λ i g h e. other i h (omega arith) ∙ clean.locks i g h (ap (λ (m : ℕ). bit m (i / 8)) (sym (other 10 (omega arith) (omega arith))) ∙ e);
        calls = λ z.
            let s = clean.calls (sym (other 11 (omega arith) (omega arith)) ∙ z) in
            (omega (arith, other 1 (omega arith) (omega arith), s.0), λ i g h. other i (omega arith) (omega arith) ∙ s.1 i g h);
      }

  -- The notes of a row that has noted a change of a value, and what else it has kept.
  pub record Noted (row' : List ℕ) : Type 0 where
    pub long : length row' ≡ row_words
    pub alike : (i : ℕ) → i < marks_at → i ≢ 9 → get_or row' i 0 ≡ get_or row i 0
    pub notes : (j : ℕ) → note_at row' j ≡ put (note_at row) k (renoted how (note_at row k) x v) j
    pub clean : Clean row → Clean row'

  -- The note of a value that was set is kept; any other is made or added to.
  pub noted_row_law : Noted (noted_row row how k x v)
  unfolding noted_row
  noted_row_law = rw (lt-ltb k values_most few) (go (mark_of row set_marks_at k) refl)
    where
      -- A value's new note, and every other value's.
      all : (row' : List ℕ) (y : Note) → note_at row k ≡ y → note_at row' k ≡ renoted how y x v → ((j : ℕ) → (j ≡ k → ⊥) → note_at row' j ≡ note_at row j)
          → (j : ℕ) → note_at row' j ≡ put (note_at row) k (renoted how (note_at row k) x v) j
      all row' y e here there =
          let n = renoted how (note_at row k) x v in
          at_or (λ (j : ℕ). note_at row' j ≡ put (note_at row) k n j) k
          (here ∙ ap (λ (z : Note). renoted how z x v) (sym e) ∙ sym (put_same (note_at row) k n))
          (λ j ne. there j ne ∙ sym (put_other (note_at row) k n j ne))

      go : (b : Bool) → mark_of row set_marks_at k ≡ b → Noted (cond b row made)
      go true e =
          let old = get_or row (notes_at + k) 0 in
          let n : note_at row k ≡ old_value old = note_is row k few true e in
          record { long = size; alike = λ i h n. refl; notes = all row (old_value old) n (n ∙ old_kept how old x v) (λ j ne. refl); clean = λ c. c }
      go false e =
          let sum = get_or row (notes_at + k) 0 in
          record {
            long = length-set twice (notes_at + k) word ∙ twice_long;
            alike = λ i h n. made_other i (omega arith, omega arith, omega arith, n);
            notes = all made (sum_added sum) (note_is row k few false e) (made_here e ∙ sum_noted how sum x v) made_else;
            clean = made_clean;
          }

-- The turn that changes a value.
pub assign_goes : (text tables : List ℕ) (p : Program) (row values : List ℕ) → length row ≡ row_words → Running tables p row → (k : ℕ) → get_or row depth_at 0 ≡ suc k
    → suc (get_or row steps_at 0) < 1024 → act row k next_at < act row k end_at → (how : Change) (i v : ℕ) → i < values_most
    → Goes text tables p row values (going_to (skip_row (noted_row row how i (get_or values i 0) v)) (set values i (changed how (get_or values i 0) v)))
    (onward_run (run_of text p row) (with_rest (activation_of p.library row k) (between p.library (suc (act row k next_at)) (act row k end_at))
    ∷ stack_of p.library row k)) (store how i v)
unfolding act
assign_goes text tables p row values size runs k deep early h how i v few =
    let l = p.library in
    let mid = noted_row row how i (get_or values i 0) v in
    let n = noted_row_law row size how i (get_or values i 0) v few in
    let le = runs.depth in
    let word : (j : ℕ) → j < marks_at → j ≢ 9 → get_or mid j 0 ≡ get_or row j 0 = λ j g. n.alike j g in
    let runs' = running_same text p tables row mid runs (λ j g q. word j (omega arith) (omega arith)) (λ j g q. word j (omega arith) (omega arith)) in
    let same = run_same text p tables row mid runs (λ j g q. word j (omega arith) (omega arith)) (λ j g q. word j (omega arith) (omega arith)) in
    let w1 = word 1 (omega arith) (omega arith) in
    let w2 = word 2 (omega arith) (omega arith) in
    let w16 = word (activations_at + k * activation_words + 0) (omega arith) (omega arith) in
    let w17 = word (activations_at + k * activation_words + 1) (omega arith) (omega arith) in
    let g = skip_goes text tables p mid values n.long runs' k (w1 ∙ deep) (omega arith) (omega arith) in
    record {
      answered = refl;
      fields = refl;
      size = g.size;
      phase = g.phase ∙ word 0 (omega arith) (omega arith);
      run = ap₂ onward_run (sym same)
          (ap₂ (λ (x : Activation) (xs : List Activation). x ∷ xs)
          (ap₂ with_rest (sym (activation_same l row mid k (λ j a b. word j (omega arith) (omega arith)))) (ap₂ (between l) (ap suc (sym w16)) (sym w17)))
          (sym (stack_same l row mid k (λ j a b. word j (omega arith) (omega arith)))))
          ∙ g.run;
      runs = g.runs;
      notes = λ j. g.notes j ∙ n.notes j;
      clean = λ c. g.clean (n.clean c);
      locks = λ j a b. g.locks j a b ∙ word j b (omega arith);
    }
