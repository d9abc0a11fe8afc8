-- What a send that joins the line leaves of the lent words, and what waking the line leaves past the machine's: whatever is lent.
use Prim.Native.Nat.{ℕ, zero, suc, ◌+◌, ◌≤◌, ◌<◌}
use native.Mathlib.Omega.{arith}
use Rattle.std.specs.Prelude.{◌≡◌, ◌≢◌, Bool, List, [], ◌∷◌, ◌++◌, length, take, drop, set, replicate, eqb}
use Rattle.std.proofs.Math.Path.{refl}
use Rattle.std.proofs.Common.{ap, ◌∙◌, length-drop, take-suc-set}
use Rattle.std.proofs.Math.Bool.{true, false, cond}
use Rattle.std.proofs.Math.Option.{Option, none, some}
use Rattle.std.proofs.Math.ListN.{get_or, length-set, length-replicate}
use Rattle.std.proofs.Math.Seq.{length-sets, get_or-set_same, drop-set-lt}
use Rattle.std.proofs.lemmas.List.{drop-set-add}
use Rattle.std.proofs.Math.Dec.{ltb}
use borrow.Author.Tests.{ltb-true, ltb-false, le-ltb}
use Rattle.layout.specs.Layout.{phase_at, waiting_at, waiting_words, spare_at, row_words, line_at, first_in_line_at, state_words}
use Rattle.laws.specs.Lists.{both_left}
use Rattle.machine_words.specs.Request.{Wanted, named_row, locked, First, on, past, nowhere, first_of, entered}
use Rattle.machine_words.specs.Line.{tables_of, row_start, row_of, with_row, phase_of, waiting_send, requested, waiting_row, withdrawn, count_in, first_in_line, slot_at, with_place, obstacle, Waking, started_from, started_or_kept, woken_or, is_waiting, woken_slot, woken_from, woken}
use Rattle.machine_words.specs.Calls.{Lent, with_words}
use Rattle.machine_words.specs.Spans.{drop_sets}
use Rattle.machine_words.specs.Rows.{with_same, with_other, with_tables, with_line, place_row, place_tables}
use Rattle.machine_refinement.specs.WaitRows.{written_long, written_phase, written_else}
use Rattle.machine_checks.specs.Lent.{Within, row_size}
use Rattle.machine_take.specs.Taken.{locked_length, entered_length}
use Rattle.machine_take.specs.Waits.{withdrawn_length}

-- ---- a send that joins the line

-- 40 for slot s: the values, the tables and every other slot's row are unchanged; the slot waits, and its row is altered only in its
-- phase and in the words of its waiting send; and it is the last in line.
pub record Joined (x : Lent) (s : ℕ) (y : Lent) : Type 0 where
  pub values_same : y.values ≡ x.values
  pub tables_same : tables_of y.words ≡ tables_of x.words
  pub others_same : (t : ℕ) → t < 8 → t ≢ s → row_of y.words t ≡ row_of x.words t
  pub waits : phase_of (row_of y.words s) ≡ 3
  pub own_same : (i : ℕ) → i ≢ phase_at → (waiting_at ≤ i → i < spare_at → ⊥) → get_or (row_of y.words s) i 0 ≡ get_or (row_of x.words s) i 0
  pub last : first_in_line y.words (count_in y.words) ≡ first_in_line x.words (count_in x.words) ++ (s ∷ [])

module _ (x : Lent) (s : ℕ) (h : Within x.words s) (q : Wanted) where
  abbrev text : List ℕ
  text = x.text

  abbrev ws : List ℕ
  ws = x.words

  abbrev asked : List ℕ
  asked = requested q (replicate waiting_words 0)

  abbrev words : List ℕ
  words = locked text (tables_of ws) q asked

  asked_long : length asked ≡ waiting_words
  asked_long =
      let same : length asked ≡ length (replicate {A = ℕ} waiting_words 0) = unfold requested named_row in simp length-set in
      same ∙ length-replicate {A = ℕ} waiting_words 0

  words_long : length words ≡ waiting_words
  words_long = locked_length text (tables_of ws) q asked ∙ asked_long

  abbrev row : List ℕ
  row = waiting_row text (tables_of ws) q (row_of ws s)

  row_long : length row ≡ row_words
  unfolding waiting_row
  row_long = written_long (row_of ws s) (row_size ws s h) words words_long 3

  row_waits : phase_of row ≡ 3
  unfolding waiting_row
  row_waits = written_phase (row_of ws s) (row_size ws s h) words words_long 3

  row_else : (i : ℕ) → i ≢ phase_at → (waiting_at ≤ i → i < spare_at → ⊥) → get_or row i 0 ≡ get_or (row_of ws s) i 0
  unfolding waiting_row
  row_else i ne out = written_else (row_of ws s) (row_size ws s h) words words_long 3 i ne out

  -- The row, then its place, then the number of those who wait.
  module _ (n : ℕ) (few : n < 8) where
    abbrev first : List ℕ
    first = with_row ws s row

    abbrev second : List ℕ
    second = with_place first n s

    abbrev pub joined_words : List ℕ
    joined_words = set second line_at (suc n)

    rows_are : (t : ℕ) → t < 8 → row_of joined_words t ≡ row_of first t
    rows_are t l = place_row second line_at (suc n) (omega arith) t l ∙ place_row first (first_in_line_at + n) s (omega arith) t l

    own_is : row_of joined_words s ≡ row
    own_is = rows_are s h.slot ∙ with_same ws h.long s h.slot row row_long

    second_long : length second ≡ length ws
    second_long = length-set first (first_in_line_at + n) s ∙ length-sets ws (row_start s) row

    count_is : count_in joined_words ≡ suc n
    unfolding count_in
    count_is =
        let e : get_or joined_words line_at 0 ≡ suc n = get_or-set_same second line_at (suc n) 0 (omega (arith, second_long, h.long)) in
        rw (e, le-ltb 8 (suc n) (omega arith)) refl

    line_is : first_in_line joined_words (suc n) ≡ first_in_line ws n ++ (s ∷ [])
    line_is =
        ap (take (suc n)) (drop-set-lt first_in_line_at second line_at (suc n) (omega arith) ∙ drop-set-add first_in_line_at first n s)
        ∙ take-suc-set (drop first_in_line_at first) n s (omega (arith, length-drop first_in_line_at first, length-sets ws (row_start s) row, h.long))
        ∙ ap (λ (l : List ℕ). l ++ (s ∷ [])) (with_line ws h.long s h.slot row row_long n)

    pub joins_past : drop state_words joined_words ≡ drop state_words ws
    joins_past =
        drop-set-lt state_words second line_at (suc n) (omega arith) ∙ drop-set-lt state_words first (first_in_line_at + n) s (omega arith)
        ∙ drop_sets row ws (row_start s) state_words (omega (arith, h.slot, row_long))

    pub joins : n ≡ count_in ws → Joined x s (with_words x joined_words)
    joins e =
        record {
          values_same = refl;
          tables_same =
              place_tables second line_at (suc n) (omega arith) ∙ place_tables first (first_in_line_at + n) s (omega arith)
              ∙ with_tables ws h.long s h.slot row row_long;
          others_same = λ t l ne. rows_are t l ∙ with_other ws h.long s h.slot row row_long t l ne;
          waits = ap phase_of own_is ∙ row_waits;
          own_same = λ i ne out. ap (λ (l : List ℕ). get_or l i 0) own_is ∙ row_else i ne out;
          last = ap (first_in_line joined_words) count_is ∙ line_is ∙ ap (λ (k : ℕ). first_in_line ws k ++ (s ∷ [])) e;
        }

-- ---- waking

-- The words keep their number, and those past the machine's are unchanged.
abbrev pub Past : List ℕ → List ℕ → Type 0
Past ws ws' = (length ws' ≡ length ws) × (drop state_words ws' ≡ drop state_words ws)

module _ (text : List ℕ) where
  -- One slot of the line: at most one more waits.
  module _ (ws : List ℕ) (n t : ℕ) (long : state_words ≤ length ws) (few : n < 8) where
    abbrev q : Wanted
    q = waiting_send ws t

    abbrev Good : Waking → Type 0
    Good w = (w.waiting ≤ suc n) × Past ws w.words

    stays : Good (record { waiting = suc n; words = with_place ws n t })
    stays = (omega arith, (length-set ws (first_in_line_at + n) t, drop-set-lt state_words ws (first_in_line_at + n) t (omega arith)))

    starts : t < 8 → (f : First) → Good (started_from text ws n t q f)
    starts l f =
        let own = withdrawn (row_of ws t) in
        let row = entered q f (locked text (tables_of ws) q own) in
        let size : length row ≡ row_words =
        entered_length q f (locked text (tables_of ws) q own) ∙ locked_length text (tables_of ws) q own ∙ withdrawn_length (row_of ws t)
        ∙ row_size ws t (record { slot = l; long = long }) in
        (omega arith, (length-sets ws (row_start t) row, drop_sets row ws (row_start t) state_words (omega (arith, l, size))))

    from : t < 8 → (f : First) → Good (started_or_kept text ws n t q f)
    from l (on o first end) = starts l (on o first end)
    from l (past o) = starts l (past o)
    from l nowhere = stays

    by : t < 8 → (k : Option ℕ) → Good (woken_or text ws n t q k)
    by l none = from l (first_of text (tables_of ws) q)
    by l (some k) = stays

    below : is_waiting ws t ≡ true → t < 8
    unfolding is_waiting
    below e = ltb-true t 8 (both_left (ltb t 8) (eqb (phase_of (row_of ws t)) 3) e)

    slot_past : Good (woken_slot text ws n t)
    unfolding woken_slot
    slot_past = go (is_waiting ws t) refl
      where
        go : (b : Bool) → is_waiting ws t ≡ b → Good (cond b (woken_or text ws n t q (obstacle text ws n t q)) (record { waiting = n; words = ws }))
        go true e = by (below e) (obstacle text ws n t q)
        go false e = (omega arith, (refl, refl))

  from_past : (left : ℕ) (w : Waking) (i : ℕ) → state_words ≤ length w.words → w.waiting ≤ i → i + left ≤ 8 → Past w.words (woken_from text w i left).words
  unfolding woken_from
  from_past zero w i long few end = (refl, refl)
  from_past (suc left) w i long few end =
      let one = slot_past w.words w.waiting (slot_at w.words i) long (omega arith) in
      let more = from_past left (woken_slot text w.words w.waiting (slot_at w.words i)) (suc i) (omega (arith, one.1.0)) (omega (arith, one.0)) (omega arith) in
      (more.0 ∙ one.1.0, more.1 ∙ one.1.1)

  -- All of it.
  pub woken_past : (ws : List ℕ) → state_words ≤ length ws → Past ws (woken text ws)
  unfolding woken count_in
  woken_past ws long =
      let w = woken_from text (record { waiting = 0; words = ws }) 0 (count_in ws) in
      let all = from_past (count_in ws) (record { waiting = 0; words = ws }) 0 long (omega arith) (omega (arith, most)) in
      (length-set w.words line_at w.waiting ∙ all.0, drop-set-lt state_words w.words line_at w.waiting (omega arith) ∙ all.1)
    where
      most : count_in ws ≤ 8
      most = go (ltb 8 (get_or ws line_at 0)) refl
        where
          go : (b : Bool) → ltb 8 (get_or ws line_at 0) ≡ b → cond b 8 (get_or ws line_at 0) ≤ 8
          go true e = omega arith
          go false e = omega (arith, ltb-false 8 (get_or ws line_at 0) e)
