-- The row of a slot that waits, and the same row without its waiting send.
use Prim.Native.Nat.{ℕ, ◌+◌, ◌-◌, ◌/◌, ◌%◌, ◌≤◌, ◌<◌}
use Rattle.std.proofs.Common.{arith, ◌∙◌, length-set, drop-set-lt, eq-eqb, ne_eqb}
use Rattle.std.proofs.Math.Decide.{dec_lt, dec_le}
use Rattle.std.specs.Prelude.{◌≡◌, refl, ◌≢◌, Bool, true, false, cond, length, get_or, drop, replicate, eqb}
use Rattle.std.proofs.Math.Path.{sym, ap}
use mathlib.Core.List.{List}
use Rattle.std.proofs.Math.ListN.{set, take}
use Rattle.std.proofs.lemmas.List.{length-replicate, get_or-replicate}
use Rattle.std.proofs.lemmas.List.Edits.{sets}
use Rattle.std.proofs.Math.Seq.{length-sets, ext_get_or}
use Rattle.layout.specs.Layout.{phase_at, object_locks_at, marks_at, set_marks_at, waiting_at, waiting_words, notes_at, row_words}
use Rattle.laws.specs.Bits.{bit}
use Rattle.machine_words.specs.Row.{note_at}
use Rattle.machine_words.specs.Spans.{sets_else, sets_there, sets_same}
use Rattle.machine_words.specs.Line.{waiting_in, withdrawn}
use Rattle.machine_words.specs.Calls.{phase_of}
use Rattle.machine_refinement.specs.Rep.{settled}
use Rattle.machine_refinement.specs.Runs.{Alike, note_alike}
use Rattle.machine_refinement.specs.Stores.{else_word, new_word}

-- A row with another phase and other words of a waiting send.
module _ (row : List ℕ) (size : length row ≡ row_words) (words : List ℕ) (long : length words ≡ waiting_words) (phase : ℕ) where
  abbrev written : List ℕ
  written = set (sets row waiting_at words) phase_at phase

  pub written_long : length written ≡ row_words
  written_long = length-set (sets row waiting_at words) phase_at phase ∙ length-sets row waiting_at words ∙ size

  pub written_phase : phase_of written ≡ phase
  written_phase = new_word (sets row waiting_at words) phase_at phase (omega (arith, length-sets row waiting_at words))

  pub written_else : (i : ℕ) → i ≢ 0 → (waiting_at ≤ i → i < waiting_at + waiting_words → ⊥) → get_or written i 0 ≡ get_or row i 0
  written_else i ne out = else_word (sets row waiting_at words) phase_at phase i ne ∙ sets_else words row waiting_at i (λ g h. out g (omega (arith, long)))

  pub written_there : (i : ℕ) → i < waiting_words → get_or written (waiting_at + i) 0 ≡ get_or words i 0
  written_there i h =
      else_word (sets row waiting_at words) phase_at phase (waiting_at + i) (omega arith) ∙ sets_there words row waiting_at i (omega (arith, long)) (omega (arith, long))

  pub written_words : waiting_in written ≡ words
  unfolding waiting_in
  written_words =
      ap (take waiting_words) (drop-set-lt waiting_at (sets row waiting_at words) phase_at phase (omega arith))
      ∙ ap (λ (n : ℕ). take n (drop waiting_at (sets row waiting_at words))) (sym long)
      ∙ sets_same row waiting_at words (omega (arith, long))

-- ---- the waiting send withdrawn

no_words : length (replicate {A = ℕ} waiting_words 0) ≡ waiting_words
no_words = length-replicate {A = ℕ} waiting_words 0

module _ (row : List ℕ) (size : length row ≡ row_words) where
  pub withdrawn_long : length (withdrawn row) ≡ row_words
  unfolding withdrawn
  withdrawn_long = written_long row size (replicate waiting_words 0) no_words 1

  pub withdrawn_phase : phase_of (withdrawn row) ≡ 1
  unfolding withdrawn
  withdrawn_phase = written_phase row size (replicate waiting_words 0) no_words 1

  pub withdrawn_else : (i : ℕ) → i ≢ 0 → (waiting_at ≤ i → i < waiting_at + waiting_words → ⊥) → get_or (withdrawn row) i 0 ≡ get_or row i 0
  unfolding withdrawn
  withdrawn_else = written_else row size (replicate waiting_words 0) no_words 1

  -- The locks are the slot's own.
  pub settled_locks : Alike object_locks_at marks_at (settled row) row
  settled_locks i g h = go (eqb (phase_of row) 3)
    where
      go : (b : Bool) → get_or row i 0 ≡ get_or (cond b (withdrawn row) row) i 0
      go true = sym (withdrawn_else i (omega arith) (λ x y. omega arith))
      go false = refl

  -- So are the notes.
  pub settled_notes : (k : ℕ) → note_at (settled row) k ≡ note_at row k
  settled_notes k = go (eqb (phase_of row) 3)
    where
      go : (b : Bool) → note_at (cond b (withdrawn row) row) k ≡ note_at row k
      go true = note_alike row (withdrawn row) k (λ h. (
        ap (λ (m : ℕ). bit m (k % 32)) (withdrawn_else (set_marks_at + k / 32) (omega arith) (λ x y. omega arith)),
        withdrawn_else (notes_at + k) (omega arith) (λ x y. omega arith),
      ))
      go false = refl

  -- A slot that comes to wait, where no words of a waiting send were: withdrawing leaves it as it was, but open.
  pub withdrawn_back : ((i : ℕ) → waiting_at ≤ i → i < notes_at → get_or row i 0 ≡ 0) → (words : List ℕ) → length words ≡ waiting_words
      → withdrawn (set (sets row waiting_at words) phase_at 3) ≡ set row phase_at 1
  unfolding withdrawn
  withdrawn_back none words long =
      ext_get_or 0 back (set row phase_at 1) (back_long ∙ sym (length-set row phase_at 1 ∙ size)) (λ i l. word i)
    where
      waits : List ℕ
      waits = set (sets row waiting_at words) phase_at 3

      waits_long : length waits ≡ row_words
      waits_long = written_long row size words long 3

      zeros : List ℕ
      zeros = replicate waiting_words 0

      back : List ℕ
      back = set (sets waits waiting_at zeros) phase_at 1

      back_long : length back ≡ row_words
      back_long = written_long waits waits_long zeros no_words 1

      word : (i : ℕ) → get_or back i 0 ≡ get_or (set row phase_at 1) i 0
      word i = go (dec_lt 0 i) (dec_le waiting_at i) (dec_lt i (waiting_at + waiting_words))
        where
          kept : 0 < i → (waiting_at ≤ i → i < waiting_at + waiting_words → ⊥) → get_or back i 0 ≡ get_or (set row phase_at 1) i 0
          kept h out =
              written_else waits waits_long zeros no_words 1 i (omega arith) out ∙ written_else row size words long 3 i (omega arith) out
              ∙ sym (else_word row phase_at 1 i (omega arith))

          go : Dec (0 < i) → Dec (waiting_at ≤ i) → Dec (i < waiting_at + waiting_words) → get_or back i 0 ≡ get_or (set row phase_at 1) i 0
          go (no z) b c =
              let e : i ≡ phase_at = omega arith in
              ap (λ (j : ℕ). get_or back j 0) e ∙ written_phase waits waits_long zeros no_words 1 ∙ sym (ap (λ (j : ℕ). get_or (set row phase_at 1) j 0) e
              ∙ new_word row phase_at 1 (omega (arith, size)))
          go (yes h) (no b) c = kept h (λ g l. b g)
          go (yes h) (yes b) (no c) = kept h (λ g l. c l)
          go (yes h) (yes b) (yes c) =
              let j : ℕ = i - waiting_at in
              let e : waiting_at + j ≡ i = omega arith in
              ap (λ (k : ℕ). get_or back k 0) (sym e) ∙ written_there waits waits_long zeros no_words 1 j (omega arith) ∙ get_or-replicate waiting_words j 0 0 (omega arith)
              ∙ sym (else_word row phase_at 1 i (omega arith) ∙ none i b (omega arith))

-- ---- settled rows

pub settled_ready : (row : List ℕ) → phase_of row ≢ 3 → settled row ≡ row
settled_ready row ne = rw (ne_eqb (phase_of row) 3 ne)

pub settled_waits : (row : List ℕ) → phase_of row ≡ 3 → settled row ≡ withdrawn row
settled_waits row e = rw (eq-eqb (phase_of row) 3 e)

-- A row that is settled and does not wait has the phase of its settled row; one that waits has another phase than 0.
pub settled_phase : (row : List ℕ) → length row ≡ row_words → phase_of row ≢ 3 → phase_of (settled row) ≡ phase_of row
settled_phase row size ne = ap phase_of (settled_ready row ne)
