-- Demand 1 of the four calls, whatever is lent: what is altered where a number is given, what a number means, and what lies past
-- the machine's words.
use Prim.Native.Nat.{ℕ, zero, suc, ◌+◌, ◌/◌, ◌%◌, ◌<◌}
use native.Mathlib.Omega.{arith}
use Rattle.std.proofs.Math.Path.{◌≡◌, refl, subst}
use Rattle.std.proofs.Common.{◌∙◌, length-set}
use Rattle.std.proofs.Math.Logic.{⊎_elim}
use Rattle.std.specs.Prelude.{Bool, not, cond, ◌&&◌, ◌||◌, length, get_or, drop, set, leb, ltb}
use Rattle.std.proofs.Math.Bool.{true, false}
use Rattle.std.proofs.Math.Option.{Option, none, some}
use mathlib.Core.List.{List, [], ◌∷◌}
use Rattle.std.proofs.Math.Seq.{length-sets}
use Rattle.std.proofs.Math.Dec.{eqb, eqb-suc-zero}
use borrow.Author.Tests.{leb-false, eqb-true, eqb-false, not-true}
use Rattle.layout.specs.Layout.{values_most, closed_phase, changed_at, marks_at, set_marks_at, notes_at, row_words, state_words}
use Rattle.model.specs.Base.{any, least}
use Rattle.model.specs.Form.{Change}
use Rattle.model.specs.Service.{Answer, done, going, answer, refuse, held, stopped}
use Rattle.model.specs.Machine.{Call, send, step, commit, abort, Request, to, object, class, domain}
use Rattle.laws.specs.Basics.{least_some}
use Rattle.laws.specs.Lists.{both_left, both_right, either_cases}
use Rattle.laws.specs.Bits.{bit}
use Rattle.catalog.specs.View.{object_word, class_count, object_count, member_count}
use Rattle.machine_words.specs.Row as Row
use Rattle.model.specs.Undo.{put_back}
use Rattle.machine_words.specs.Row.{Turn, note_at, with_act, new_act, stepped, passed, is_set, note_word, with_mark, noted_row, skip_row, call_row, reply_row, back_row, object_row, freed, carried}
use Rattle.machine_words.specs.Turn.{decided}
use Rattle.machine_words.specs.Request.{Wanted, lacking, row_meets, owns_locks, locked, First, on, past, nowhere, first_of, entered, wanted}
use Rattle.machine_words.specs.Line.{waiting_in, withdrawn, count_in, first_in_line, is_waiting, waits_ahead, holder_at, waiter_at, in_the_way, obstacle, closes_circle, woken}
use Rattle.machine_words.specs.Calls.{Lent, lending, lending_same, After, tables_of, row_start, row_of, phase_of, with_row, is_counted, misfit_of, is_started, refused, started_or, joined_at, joined_or, arrived_or, granted_or, granted, sent_to, sent_by, laid, ended_at, undone_at, on_closed, on_idle, on_running, on_waiting, slot_in, by_phase, called}
use Rattle.machine_words.specs.Spans.{drop_sets}
use Rattle.machine_words.specs.Rows.{fit_is}
use Rattle.machine_refinement.specs.Freeing.{freed_long}
use Rattle.machine_checks.specs.Lent.{Within, row_size, with_own}
use Rattle.machine_take.specs.Taken.{locked_length, entered_length}
use Rattle.machine_take.specs.Waits.{withdrawn_length}
use Rattle.cishmolaq.specs.Joined.{Joined, joins, joins_past, woken_past}

-- With every number but 40 and 41, what was lent is unchanged; with 40, slot s waits, the last in line.
abbrev pub Kept : ℕ → Answer → Lent → Lent → Type 0
Kept s (refuse n) x y = y ≡ x
Kept s (held t) x y = Joined x s y
Kept s done x y = Unit {0}
Kept s going x y = Unit {0}
Kept s (answer v) x y = Unit {0}
Kept s stopped x y = Unit {0}

-- 40 for slot s names another slot, which is open in the words.
abbrev pub Holder : List ℕ → ℕ → Answer → Type 0
Holder ws s (held t) = (t < 8) × (t ≡ s → ⊥) × (phase_of (row_of ws t) ≡ closed_phase → ⊥)
Holder ws s (refuse n) = Unit {0}
Holder ws s done = Unit {0}
Holder ws s going = Unit {0}
Holder ws s (answer v) = Unit {0}
Holder ws s stopped = Unit {0}

-- The numbers that a call can be refused with (01, "Numbers given", as 02 changes them) ..
abbrev pub refusals_of : Call → List ℕ
refusals_of (send s q) = 21 ∷ 24 ∷ 31 ∷ 34 ∷ 36 ∷ 37 ∷ 42 ∷ []
refusals_of (step s) = 21 ∷ 24 ∷ 31 ∷ 32 ∷ 35 ∷ 37 ∷ []
refusals_of (commit s) = 21 ∷ 24 ∷ 31 ∷ 32 ∷ 34 ∷ 37 ∷ []
refusals_of (abort s) = 21 ∷ 24 ∷ 31 ∷ 32 ∷ []

-- .. and the numbers of its other answers: done, going, the message's answer, 40, 41.
abbrev pub others_of : Call → List ℕ
others_of (send s q) = 0 ∷ 40 ∷ []
others_of (step s) = 1 ∷ 2 ∷ 41 ∷ []
others_of (commit s) = 0 ∷ []
others_of (abort s) = 0 ∷ []

-- Whether a number is in the list.
abbrev pub is_among : List ℕ → ℕ → Bool
is_among [] n = false
is_among (m ∷ ms) n = eqb n m || is_among ms n

abbrev pub Among : List ℕ → ℕ → Type 0
Among ns n = is_among ns n ≡ true

-- The answer is one that the call can give.
abbrev pub Numbered : Call → Answer → Type 0
Numbered c (refuse n) = Among (refusals_of c) n
Numbered c (held t) = Among (others_of c) 40
Numbered c done = Among (others_of c) 0
Numbered c going = Among (others_of c) 1
Numbered c (answer v) = Among (others_of c) 2
Numbered c stopped = Among (others_of c) 41

-- What a call answers and leaves of what is lent.
pub record Keeps (x : Lent) (c : Call) (after : After) : Type 0 where
  pub kept : Kept (slot_in c) after.answered x after.lent
  pub past : drop state_words after.lent.words ≡ drop state_words x.words
  pub holder : Holder x.words (slot_in c) after.answered
  pub number : Numbered c after.answered

-- ---- each turn keeps the row's length

noted_length : (row : List ℕ) (how : Change) (k x v : ℕ) → length (noted_row row how k x v) ≡ length row
unfolding noted_row
noted_length row how k x v = go (ltb k values_most) (bit (get_or row (set_marks_at + k / 32) 0) (k % 32))
  where
    new : List ℕ
    new =
        set (with_mark (with_mark (set row changed_at 1) marks_at k true) set_marks_at k (is_set how)) (notes_at + k) (note_word how (get_or row (notes_at + k) 0) x v)

    go : (a b : Bool) → length (cond a (cond b row new) row) ≡ length row
    go false b = refl
    go true true = refl
    go true false = simp length-set

carried_length : (row values : List ℕ) (t : Turn) → length row ≡ row_words → length (carried row values t).row ≡ row_words
unfolding carried skip_row call_row reply_row back_row object_row new_act with_act stepped passed
carried_length row values Row.misfit h = h
carried_length row values Row.stop h = freed_long row h
carried_length row values Row.skip h = simp length-set h
carried_length row values (Row.assign how k v) h = simp length-set (noted_length row how k (get_or values k 0) v ∙ h)
carried_length row values (Row.call first end a) h = simp length-set h
carried_length row values (Row.reply v) h = simp length-set h
carried_length row values (Row.back v) h = simp length-set h
carried_length row values (Row.next o first end sum) h = simp length-set h
carried_length row values (Row.answer v) h = simp length-set h

-- ---- each call

module _ (x : Lent) (c : Call) where
  abbrev text : List ℕ
  text = x.text

  abbrev ws : List ℕ
  ws = x.words

  abbrev s : ℕ
  s = slot_in c

  refuses : (n : ℕ) → Among (refusals_of c) n → Keeps x c (refused x n)
  refuses n h = record { kept = refl; past = refl; holder = tt; number = h }

  module _ (h : Within ws s) where
    row_past : (row : List ℕ) → length row ≡ row_words → drop state_words (with_row ws s row) ≡ drop state_words ws
    row_past row size = drop_sets row ws (row_start s) state_words (omega (arith, h.slot))

    own : length (row_of ws s) ≡ row_words
    own = row_size ws s h

    -- The row, and then the line woken.
    woken_row : (row : List ℕ) → length row ≡ row_words → drop state_words (woken text (with_row ws s row)) ≡ drop state_words ws
    woken_row row size = (woken_past text (with_row ws s row) (omega (arith, length-sets ws (row_start s) row, h.long))).1 ∙ row_past row size

    frees : Among (others_of c) 0 → (row values' : List ℕ) → length row ≡ row_words
        → Keeps x c (record { answered = done; lent = lending text (ended_at text ws s row) values' })
    frees z row values' size = record { kept = tt; past = woken_row (freed row) (freed_long row size); holder = tt; number = z }

    ends : Among (others_of c) 0 → (values' : List ℕ) → Keeps x c (record { answered = done; lent = lending text (ended_at text ws s (row_of ws s)) values' })
    ends z values' = frees z (row_of ws s) values' own

    withdraws : Among (others_of c) 0 → Keeps x c (undone_at x s (withdrawn (row_of ws s)))
    withdraws z = frees z (withdrawn (row_of ws s)) (put_back (note_at (withdrawn (row_of ws s))) x.values) (withdrawn_length (row_of ws s) ∙ own)

-- ---- send

module _ (x : Lent) (s : ℕ) (r : Request) (h : Within x.words s) where
  abbrev Sends : After → Type 0
  Sends = Keeps x (send s r)

  abbrev tables : List ℕ
  tables = tables_of x.words

  started_past : (q : Wanted) (f : First)
      → drop state_words (with_row x.words s (entered q f (locked x.text tables q (row_of x.words s)))) ≡ drop state_words x.words
  started_past q f =
      let row = locked x.text tables q (row_of x.words s) in
      row_past x (send s r) h (entered q f row) (entered_length q f row ∙ locked_length x.text tables q (row_of x.words s) ∙ own x (send s r) h)

  starts : (q : Wanted) (f : First) → Sends (started_or x s q f)
  starts q (on o first end) = record { kept = tt; past = started_past q (on o first end); holder = tt; number = refl }
  starts q (past o) = record { kept = tt; past = started_past q (past o); holder = tt; number = refl }
  starts q nowhere = refuses x (send s r) 24 refl

  -- A slot in the way is another one, and open.
  in_the_way_law : (q : Wanted) (t : ℕ) → in_the_way x.text x.words (count_in x.words) s q t ≡ true
      → (t ≡ s → ⊥) × (phase_of (row_of x.words t) ≡ closed_phase → ⊥)
  unfolding in_the_way holder_at waiter_at waits_ahead is_waiting
  in_the_way_law q t e = (
    eqb-false t s (not-true (eqb t s) (both_left another (holder || waiter) e)),
    ⊎_elim (λ o. eqb-false phase 0 (not-true (eqb phase 0) (both_left (not (eqb phase 0)) (test (row_of ws t)) o)))
        (λ o z. omega (
          arith,
          z,
          eqb-true phase 3 (both_right (ltb t 8) (eqb phase 3)
              (both_right in_line (ltb t 8 && eqb phase 3) (both_left (in_line && (ltb t 8 && eqb phase 3)) (test (waiting_in (row_of ws t))) o))),
        ))
        (either_cases holder waiter (both_right another (holder || waiter) e)),
  )
    where
      ws : List ℕ
      ws = x.words

      test : List ℕ → Bool
      test = row_meets x.text tables q

      another : Bool
      another = not (eqb t s)

      holder : Bool
      holder = holder_at ws test t

      waiter : Bool
      waiter = waiter_at ws (count_in ws) test t

      phase : ℕ
      phase = phase_of (row_of ws t)

      in_line : Bool
      in_line = any (eqb t) (first_in_line ws (count_in ws))

  joins_or : (q : Wanted) (t : ℕ) → (t < 8) × (in_the_way x.text x.words (count_in x.words) s q t ≡ true) → Sends (joined_or x s q t)
  joins_or q t found = go (leb 8 count) refl (closes_circle x.text x.words s q)
    where
      count : ℕ
      count = count_in x.words

      go : (b : Bool) → leb 8 count ≡ b → (d : Bool) → Sends (cond b (refused x 24) (cond d (refused x 42) (joined_at x s q t)))
      go true e d = refuses x (send s r) 24 refl
      go false e true = refuses x (send s r) 42 refl
      go false e false =
          let few = leb-false 8 count e in
          let way = in_the_way_law q t found.1 in
          record { kept = joins x s h q count few refl; past = joins_past x s h q count few; holder = (found.0, way.0, way.1); number = refl }

  arrives : (q : Wanted) (t : Option ℕ) → least (in_the_way x.text x.words (count_in x.words) s q) 8 ≡ t → Sends (arrived_or x s q t)
  arrives q none e = starts q (first_of x.text tables q)
  arrives q (some t) e = joins_or q t (least_some (in_the_way x.text x.words (count_in x.words) s q) 8 t e)

  grants : (q : Wanted) → Sends (granted x s q)
  unfolding granted obstacle
  grants q = go (owns_locks x.text tables q (row_of x.words s))
    where
      go : (b : Bool) → Sends (granted_or x s q b)
      go true = starts q (first_of x.text tables q)
      go false = arrives q (least (in_the_way x.text x.words (count_in x.words) s q) 8) refl

  sends_to : (kind n c k a : ℕ) → Sends (sent_to x s kind n c k a)
  unfolding sent_to
  sends_to kind n c k a = go (leb (class_count tables) c) (leb (member_count tables c 1) k) (lacking x.text tables q)
    where
      q : Wanted
      q = wanted tables kind n c k a

      go : (u v w : Bool) → Sends (cond u (refused x 24) (cond v (refused x 36) (cond w (refused x 24) (granted x s q))))
      go true v w = refuses x (send s r) 24 refl
      go false true w = refuses x (send s r) 36 refl
      go false false true = refuses x (send s r) 24 refl
      go false false false = grants q

  sends_there : (b : Bool) (kind n c k a : ℕ) → Sends (cond b (sent_to x s kind n c k a) (refused x 36))
  sends_there true kind n c k a = sends_to kind n c k a
  sends_there false kind n c k a = refuses x (send s r) 36 refl

  sends_by : (q : Request) → Sends (sent_by x s q)
  sends_by (to (object o) k a) = sends_there (ltb o (object_count tables)) 0 o (object_word tables o 1) k a
  sends_by (to (class c) k a) = sends_there (ltb c (class_count tables)) 1 c c k a
  sends_by (to (domain c) k a) = sends_there (ltb c (class_count tables)) 2 c c k a

-- ---- step

module _ (x : Lent) (s : ℕ) (h : Within x.words s) where
  abbrev row : List ℕ
  row = row_of x.words s

  carried_past : (t : Turn) → drop state_words (with_row x.words s (carried row x.values t).row) ≡ drop state_words x.words
  carried_past t = row_past x (step s) h (carried row x.values t).row (carried_length row x.values t (own x (step s) h))

  steps : (t : Turn) → Keeps x (step s) (laid x s (carried row x.values t))
  unfolding carried
  steps Row.misfit = record { kept = lending_same refl (with_own x.words s h) refl; past = carried_past Row.misfit; holder = tt; number = refl }
  steps Row.stop = record { kept = tt; past = woken_row x (step s) h (freed row) (freed_long row (own x (step s) h)); holder = tt; number = refl }
  steps Row.skip = record { kept = tt; past = carried_past Row.skip; holder = tt; number = refl }
  steps (Row.assign how k v) = record { kept = tt; past = carried_past (Row.assign how k v); holder = tt; number = refl }
  steps (Row.call first end a) = record { kept = tt; past = carried_past (Row.call first end a); holder = tt; number = refl }
  steps (Row.reply v) = record { kept = tt; past = carried_past (Row.reply v); holder = tt; number = refl }
  steps (Row.back v) = record { kept = tt; past = carried_past (Row.back v); holder = tt; number = refl }
  steps (Row.next o first end sum) = record { kept = tt; past = carried_past (Row.next o first end sum); holder = tt; number = refl }
  steps (Row.answer v) = record { kept = tt; past = carried_past (Row.answer v); holder = tt; number = refl }

-- ---- by the phase of its slot

module _ (x : Lent) where
  closed_keeps : (c : Call) → Within x.words (slot_in c) → Keeps x c (on_closed x c)
  closed_keeps (send s q) h = sends_by x s q h q
  closed_keeps (step s) h = refuses x (step s) 32 refl
  closed_keeps (commit s) h = refuses x (commit s) 32 refl
  closed_keeps (abort s) h = refuses x (abort s) 32 refl

  idle_keeps : (c : Call) → Within x.words (slot_in c) → Keeps x c (on_idle x c)
  idle_keeps (send s q) h = sends_by x s q h q
  idle_keeps (step s) h = refuses x (step s) 35 refl
  idle_keeps (commit s) h = ends x (commit s) h refl x.values
  idle_keeps (abort s) h = ends x (abort s) h refl (put_back (note_at (row_of x.words s)) x.values)

  running_keeps : (c : Call) → Within x.words (slot_in c) → Keeps x c (on_running x c)
  running_keeps (send s q) h = refuses x (send s q) 34 refl
  running_keeps (step s) h = steps x s h (decided x.text (tables_of x.words) (row_of x.words s) x.values)
  running_keeps (commit s) h = refuses x (commit s) 34 refl
  running_keeps (abort s) h = ends x (abort s) h refl (put_back (note_at (row_of x.words s)) x.values)

  waiting_keeps : (c : Call) → Within x.words (slot_in c) → Keeps x c (on_waiting x c)
  waiting_keeps (send s q) h = refuses x (send s q) 37 refl
  waiting_keeps (step s) h = refuses x (step s) 37 refl
  waiting_keeps (commit s) h = refuses x (commit s) 37 refl
  waiting_keeps (abort s) h = withdraws x (abort s) h refl

  -- The numbers that every call can give.
  first_numbers : (c : Call) → Among (refusals_of c) 21 × Among (refusals_of c) 24 × Among (refusals_of c) 31
  first_numbers (send s q) = (refl, refl, refl)
  first_numbers (step s) = (refl, refl, refl)
  first_numbers (commit s) = (refl, refl, refl)
  first_numbers (abort s) = (refl, refl, refl)

  phase_keeps : (c : Call) → Within x.words (slot_in c) → (a b d e : Bool)
      → Keeps x c (cond a (on_closed x c) (cond b (on_idle x c) (cond d (on_running x c) (cond e (on_waiting x c) (refused x 24)))))
  phase_keeps c h true b d e = closed_keeps c h
  phase_keeps c h false true d e = idle_keeps c h
  phase_keeps c h false false true e = running_keeps c h
  phase_keeps c h false false false true = waiting_keeps c h
  phase_keeps c h false false false false = refuses x c 24 (first_numbers c).1

  misfit_keeps : (c : Call) (m : ℕ) → misfit_of x ≡ suc m → Keeps x c (refused x (suc m))
  unfolding misfit_of
  misfit_keeps c m e = go (ltb (length x.words) state_words) (is_started x && is_counted x.words) e
    where
      go : (a b : Bool) → ◌≡◌ {A = ℕ} (cond a 21 (cond b 0 24)) (suc m) → Keeps x c (refused x (suc m))
      go true b q = subst (λ (n : ℕ). Keeps x c (refused x n)) q (refuses x c 21 (first_numbers c).0)
      go false true q = absurd (omega arith)
      go false false q = subst (λ (n : ℕ). Keeps x c (refused x n)) q (refuses x c 24 (first_numbers c).1)

  -- Every call keeps this, whatever is lent.
  pub every_call : (c : Call) → Keeps x c (called x c)
  unfolding called
  every_call c = go (misfit_of x) refl (leb 8 (slot_in c)) refl
    where
      phase : ℕ
      phase = phase_of (row_of x.words (slot_in c))

      go : (m : ℕ) → misfit_of x ≡ m → (b : Bool) → leb 8 (slot_in c) ≡ b
          → Keeps x c (cond (not (eqb m 0)) (refused x m) (cond b (refused x 31) (by_phase x c phase)))
      go (suc m) e b q = rw (eqb-suc-zero m) (misfit_keeps c m e)
      go zero e true q = refuses x c 31 (first_numbers c).2
      go zero e false q =
          phase_keeps c (record { slot = leb-false 8 (slot_in c) q; long = (fit_is x e).long }) (eqb phase 0) (eqb phase 1) (eqb phase 2) (eqb phase 3)
