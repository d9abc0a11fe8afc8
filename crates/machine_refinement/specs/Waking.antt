-- The waking of the line over the words does what the model's does.
use Rattle.std.specs.Prelude.{ℕ, suc, ◌+◌, ◌≤◌, ◌<◌, ◌≡◌, ◌≢◌, Bool, true, not, cond, get_or, set, take, drop, ltb}
use Rattle.std.proofs.Common.{arith, sym, ◌∙◌, inr, ⊎_elim, true≢false, length-take, length-drop, drop-cons, drop-set-lt}
use Rattle.std.proofs.Math.Path.{refl, ap, subst}
use Rattle.std.proofs.Math.Bool.{false}
use Rattle.std.proofs.Math.Option.{Option, none, some}
use mathlib.Core.List.Memᴰ
use mathlib.Core.List.{List, [], ◌∷◌, ◌++◌, map, append-nil, append_assoc, Memᴰ}
use Rattle.std.proofs.Math.ListN.{length}
use Rattle.std.proofs.lemmas.List.{length-map, length-replicate}
use Rattle.std.proofs.Math.Dec.{eqb}
use borrow.Author.Tests.{eqb-true, eqb-false, eq-eqb, ne_eqb, lt-ltb, ltb-false}
use Rattle.layout.specs.Layout.{row_words, line_at, first_in_line_at, state_words}
use Rattle.model.specs.Base.{keep}
use Rattle.model.specs.Vector.{Program}
use Rattle.model.specs.Service.{closed, opened, Waiter, World, with_fields, standing, starting, started, queued, obstacle, woken_or, wake, closed_over, without, ended}
use Rattle.model.specs.Machine.{service}
use Rattle.laws.specs.Lists.{in_keep, keep_in}
use Rattle.twophase.specs.Order.{sub_drop, sub_keep}
use Rattle.twophase.specs.Line.{once_sub, once_drop}
use Rattle.machine_words.specs.Request.{Wanted, First, on, past, nowhere, first_of, locked, entered, wanted}
use Rattle.machine_words.specs.Row.{blank}
use Rattle.machine_words.specs.Line.{waiting_send, withdrawn, slot_at, with_place, Waking, kept_at, started_from, started_or_kept, is_waiting, woken_slot, woken_from, count_in, first_in_line, woken}
use Rattle.machine_words.specs.Line as Words
use Rattle.machine_words.specs.Calls.{Lent, lending, with_words, tables_of, row_of, phase_of, with_row}
use Rattle.machine_words.specs.Spans.{drop_sets}
use Rattle.machine_words.specs.Rows.{with_same, with_other, with_count, with_line, place_row, fit_is}
use Rattle.machine_refinement.specs.Rep.{SlotRep, Waits, message_for, RepAt, Rep}
use Rattle.machine_refinement.specs.Locks.{blank_word}
use Rattle.machine_refinement.specs.WaitRows.{withdrawn_long, settled_waits, settled_ready}
use Rattle.machine_refinement.specs.Starts.{There}
use Rattle.machine_refinement.specs.State.{row_size, slot_stands, altered, placed, counted, waits_now}
use Rattle.machine_refinement.specs.Obstacles.{obstacle_is}
use Rattle.machine_refinement.specs.Begins.{Begun, begins}

-- The first of some words, and the rest.
first_is : (l : List ℕ) (j k x : ℕ) (xs : List ℕ) → j < length l → take (suc k) (drop j l) ≡ x ∷ xs → (get_or l j 0 ≡ x) × (take k (drop (suc j) l) ≡ xs)
first_is l j k x xs h e =
    let f : get_or l j 0 ∷ take k (drop (suc j) l) ≡ x ∷ xs = sym (ap (take (suc k)) (drop-cons l j 0 h)) ∙ e in
    (ap (λ (y : List ℕ). get_or y 0 0) f, ap (λ (y : List ℕ). drop 1 y) f)

-- Waking alters the words alone.
module _ (lent : Lent) (p : Program) where
  abbrev text : List ℕ
  text = lent.text

  abbrev Line : Type 0
  Line = List (Waiter (service p))

  -- ---- one slot of the line

  module _ (ws : List ℕ) (w : World (service p)) (n : ℕ) (v : Waiter (service p)) (vs : Line) (rep : RepAt (with_words lent ws) p w n (w.line ++ (v ∷ vs))) where
    abbrev tables : List ℕ
    tables = tables_of ws

    abbrev s : ℕ
    s = v.slot

    abbrev all : Line
    all = w.line ++ (v ∷ vs)

    here : Memᴰ v all
    here = Memᴰ.append_right w.line (Memᴰ.head refl)

    h : s < 8
    h = rep.below v here

    waits : Waits text tables p (row_of ws s) v.message
    waits = rep.waits v here

    abbrev q : Wanted
    q = waiting_send ws s

    q_is : q ≡ wanted tables waits.kind waits.number waits.class waits.place waits.argument
    q_is = waits.wants

    is_waiting_law : is_waiting ws s ≡ true
    is_waiting_law = waits_now (with_words lent ws) p w rep v here

    way_is : Words.obstacle text ws n s q ≡ obstacle (service p) w s v.message
    way_is =
        ap (Words.obstacle text ws n s) q_is
        ∙ obstacle_is (with_words lent ws) p w rep (λ u i. Memᴰ.append_left (v ∷ vs) i) waits.class waits.place waits.argument waits.known waits.has
        waits.kind waits.number waits.target waits.aims s
        ∙ ap (obstacle (service p) w s) (sym waits.sends)

    -- It goes on waiting, behind those who do.
    keeps : n < 8 → RepAt (with_words lent (with_place ws n s)) p (queued (service p) w v) (suc n) ((queued (service p) w v).line ++ vs)
    keeps few =
        subst (RepAt (with_words lent (with_place ws n s)) p (queued (service p) w v) (suc n)) (sym (append_assoc w.line (v ∷ []) vs))
        (placed (with_words lent ws) p w rep few v)

    size : length (row_of ws s) ≡ row_words
    size = row_size (with_words lent ws) p w rep s h

    begun : Begun text tables p q (withdrawn (row_of ws s)) (starting (service p) (standing (service p) (w.slots s)) v.message)
    begun =
        subst (λ (m : _). Begun text tables p q (withdrawn (row_of ws s)) (starting (service p) (standing (service p) (w.slots s)) m)) (sym waits.sends)
        (subst (λ (y : Wanted). Begun text tables p y (withdrawn (row_of ws s)) (starting (service p) (standing (service p) (w.slots s))
        (message_for p waits.target waits.class waits.place waits.argument))) (sym q_is)
        (begins text tables p rep.fits waits.class waits.place waits.argument waits.known waits.has waits.kind waits.number waits.target
        waits.aims (withdrawn (row_of ws s)) (withdrawn_long (row_of ws s) size) (standing (service p) (w.slots s))
        (slot_stands text tables p (withdrawn (row_of ws s)) (w.slots s)
        (subst (λ (r : List ℕ). SlotRep text tables p r (w.slots s)) (settled_waits (row_of ws s) waits.phase) (rep.slots s h)))))

    abbrev row' : List ℕ
    row' = entered q (first_of text tables q) (locked text tables q (withdrawn (row_of ws s)))

    -- It starts, and waits no more.
    begins_now : RepAt (with_words lent (with_row ws s row')) p (started (service p) w s v.message) n (w.line ++ vs)
    begins_now =
        let two = begun.phase in
        let same : with_fields (service p) w lent.values ≡ w = λ i. with_fields (service p) w (sym rep.fields i) in
        subst (λ (x : World (service p)). RepAt (with_words lent (with_row ws s row')) p (started (service p) x s v.message) n (w.line ++ vs)) same
        (altered (with_words lent ws) p w (subst (λ (x : World (service p)). RepAt (with_words lent ws) p x n all) (sym same) rep) s h row' lent.values begun.long refl
        (opened (starting (service p) (standing (service p) (w.slots s)) v.message))
        (subst (λ (r : List ℕ). SlotRep text tables p r (opened (starting (service p) (standing (service p) (w.slots s)) v.message)))
        (sym (settled_ready row' (λ x. omega (arith, two, x)))) begun.is_open) (w.line ++ vs)
        (λ u i. inr (once_drop (service p) w.line v vs rep.once u i, more u i))
        (λ u i ne. less u ne i) (λ x. absurd (omega (arith, two, x))) (once_sub (service p) (sub_drop w.line v vs) rep.once))
      where
        more : (u : Waiter (service p)) → Memᴰ u (w.line ++ vs) → Memᴰ u all
        more u i = ⊎_elim (λ j. Memᴰ.append_left (v ∷ vs) j) (λ j. Memᴰ.append_right w.line (Memᴰ.tail j)) (Memᴰ.append_cases w.line i)

        less : (u : Waiter (service p)) → u.slot ≢ s → Memᴰ u all → Memᴰ u (w.line ++ vs)
        less u ne i = ⊎_elim (λ j. Memᴰ.append_left vs j) (λ j. Memᴰ.append_right w.line (behind j)) (Memᴰ.append_cases w.line i)
          where
            behind : Memᴰ u (v ∷ vs) → Memᴰ u vs
            behind (Memᴰ.head e) = absurd (ne (ap (λ z. z.slot) e))
            behind (Memᴰ.tail j) = j

  -- ---- the whole line

  -- What waking leaves represents a world.
  abbrev Done : Waking → World (service p) → Type 0
  Done x w = (x.waiting ≤ 8) × RepAt (with_words lent x.words) p w x.waiting w.line

  -- A message that starts somewhere starts.
  started_there : (ws : List ℕ) (n t : ℕ) (q : Wanted) (f : First) → There f → started_or_kept text ws n t q f ≡ started_from text ws n t q f
  started_there ws n t q (on o first end) h = refl
  started_there ws n t q (past o) h = refl
  started_there ws n t q nowhere h = absurd h

  -- The slot e does not wait, so its send has left the line.
  module _ (e : ℕ) (below : e < 8) where
    -- What is known where those at the places from i on are still to be woken.
    pub record Still (ws : List ℕ) (i : ℕ) (us : Line) : Type 0 where
      pub quiet : phase_of (row_of ws e) ≢ 3
      pub rest : take (length us) (drop (first_in_line_at + i) ws) ≡ map (λ v. v.slot) us
      pub few : i + length us ≤ 8

    -- The slot at place i, and those behind it.
    slot_is : (ws : List ℕ) (i : ℕ) (u : Waiter (service p)) (us : Line) → Still ws i (u ∷ us) → state_words ≤ length ws
        → (slot_at ws i ≡ u.slot) × (take (length us) (drop (first_in_line_at + suc i) ws) ≡ map (λ v. v.slot) us)
    slot_is ws i u us still long =
        let f = first_is ws (first_in_line_at + i) (length us) u.slot (map (λ v. v.slot) us) (omega (arith, long, still.few)) still.rest in
        let next : first_in_line_at + suc i ≡ suc (first_in_line_at + i) = omega arith in
        (f.0, ap (λ (k : ℕ). take (length us) (drop k ws)) next ∙ f.1)

    abbrev left : Line → Line
    left us = without (service p) e us

    module _ (ws : List ℕ) (w : World (service p)) (n i : ℕ) (u : Waiter (service p)) (us : Line) (still : Still ws i (u ∷ us)) (le : n ≤ i)
        (again : (ws : List ℕ) (w : World (service p)) (n : ℕ) → RepAt (with_words lent ws) p w n (w.line ++ left us) → Still ws (suc i) us → n ≤ suc i
        → Done (woken_from text (record { waiting = n; words = ws }) (suc i) (length us)) (wake (service p) w (left us))) where
      -- Whether waking this slot leaves x, and the world w' in the model.
      abbrev Goes : Waking → World (service p) → Type 0
      Goes x w' = Done (woken_from text x (suc i) (length us)) (wake (service p) w' (left us))

      -- A slot that does not wait leaves the line.
      gone : RepAt (with_words lent ws) p w n (w.line ++ left us) → state_words ≤ length ws → u.slot ≡ e → Goes (woken_slot text ws n u.slot) w
      unfolding woken_slot is_waiting
      gone rep long same =
          let quiet : eqb (phase_of (row_of ws u.slot)) 3 ≡ false =
          ap (λ (t : ℕ). eqb (phase_of (row_of ws t)) 3) same ∙ ne_eqb (phase_of (row_of ws e)) 3 still.quiet in
          rw (lt-ltb u.slot 8 (omega (arith, same)), quiet)
          (again ws w n rep
          (record { quiet = still.quiet; rest = (slot_is ws i u us still long).1; few = omega (arith, still.few) }) (omega arith))

      module _ (rep : RepAt (with_words lent ws) p w n (w.line ++ (u ∷ left us))) (other : u.slot ≢ e) where
        long : state_words ≤ length ws
        long = (fit_is (with_words lent ws) rep.fit).long

        rest : take (length us) (drop (first_in_line_at + suc i) ws) ≡ map (λ v. v.slot) us
        rest = (slot_is ws i u us still long).1

        kept : Goes (kept_at ws n u.slot) (queued (service p) w u)
        kept =
            again (with_place ws n u.slot) (queued (service p) w u) (suc n) (keeps ws w n u (left us) rep (omega (arith, still.few)))
            (record {
              quiet = λ x. still.quiet (ap phase_of (sym (place_row ws (first_in_line_at + n) u.slot (omega arith) e below)) ∙ x);
              rest = ap (take (length us)) (drop-set-lt (first_in_line_at + suc i) ws (first_in_line_at + n) u.slot (omega arith)) ∙ rest;
              few = omega (arith, still.few);
            }) (omega arith)

        abbrev row : List ℕ
        row = row' ws w n u (left us) rep

        begins_here : Goes (started_from text ws n u.slot (q ws w n u (left us) rep) (first_of text (tables_of ws) (q ws w n u (left us) rep))) (started (service p) w u.slot u.message)
        begins_here =
            let s : ℕ = u.slot in
            let b : s < 8 = h ws w n u (left us) rep in
            let size = (begun ws w n u (left us) rep).long in
            again (with_row ws s row) (started (service p) w s u.message) n (begins_now ws w n u (left us) rep)
            (record {
              quiet = λ x. still.quiet (ap phase_of (sym (with_other ws long s b row size e below (λ y. other (sym y)))) ∙ x);
              rest = ap (take (length us)) (drop_sets row ws (Words.row_start s) (first_in_line_at + suc i) (omega (arith, size, b))) ∙ rest;
              few = omega (arith, still.few);
            }) (omega arith)

        -- It starts if nothing is in its way.
        goes : Goes (woken_slot text ws n u.slot) (woken_or (service p) w u (obstacle (service p) w u.slot u.message))
        unfolding woken_slot
        goes =
            rw (is_waiting_law ws w n u (left us) rep, way_is ws w n u (left us) rep) (go (obstacle (service p) w u.slot u.message))
          where
            y : Wanted
            y = q ws w n u (left us) rep

            go : (o : Option ℕ) → Goes (Words.woken_or text ws n u.slot y o) (woken_or (service p) w u o)
            go (some k) = kept
            go none =
                subst (λ (x : Waking). Goes x (started (service p) w u.slot u.message))
                (sym (started_there ws n u.slot y (first_of text (tables_of ws) y) (begun ws w n u (left us) rep).there)) begins_here

    pub wakes : (us : Line) (ws : List ℕ) (w : World (service p)) (n i : ℕ) → RepAt (with_words lent ws) p w n (w.line ++ left us) → Still ws i us → n ≤ i
        → Done (woken_from text (record { waiting = n; words = ws }) i (length us)) (wake (service p) w (left us))
    unfolding woken_from keep
    wakes [] ws w n i rep still le = (omega (arith, still.few), subst (RepAt (with_words lent ws) p w n) (append-nil w.line) rep)
    wakes (u ∷ us) ws w n i rep still le =
        subst (λ (t : ℕ). Done (woken_from text (woken_slot text ws n t) (suc i) (length us)) (wake (service p) w (left (u ∷ us)))) (sym (slot_is ws i u us still long).0)
        (go (eqb u.slot e) refl (λ ws w n. wakes us ws w n (suc i)) rep)
      where
        long : state_words ≤ length ws
        long = (fit_is (with_words lent ws) rep.fit).long

        Again : Type 0
        Again = (ws : List ℕ) (w : World (service p)) (n : ℕ) → RepAt (with_words lent ws) p w n (w.line ++ left us) → Still ws (suc i) us → n ≤ suc i
            → Done (woken_from text (record { waiting = n; words = ws }) (suc i) (length us)) (wake (service p) w (left us))

        go : (b : Bool) → eqb u.slot e ≡ b → Again → RepAt (with_words lent ws) p w n (w.line ++ cond (not b) (u ∷ left us) (left us))
            → Done (woken_from text (woken_slot text ws n u.slot) (suc i) (length us)) (wake (service p) w (cond (not b) (u ∷ left us) (left us)))
        go true x again rep = gone ws w n i u us still le again rep long (eqb-true u.slot e x)
        go false x again rep = goes ws w n i u us still le again rep (eqb-false u.slot e x)

-- ---- the end of a transaction

count_le : (ws : List ℕ) → count_in ws ≤ 8
unfolding count_in
count_le ws = go (ltb 8 (get_or ws line_at 0)) refl
  where
    go : (b : Bool) → ltb 8 (get_or ws line_at 0) ≡ b → cond b 8 (get_or ws line_at 0) ≤ 8
    go true e = omega arith
    go false e = omega (arith, ltb-false 8 (get_or ws line_at 0) e)

-- As many wait as the line has.
pub count_is : (lent : Lent) (p : Program) (w : World (service p)) → Rep lent p w → count_in lent.words ≡ length w.line
count_is lent p w rep =
    let long = (fit_is lent rep.fit).long in
    omega (arith, count_le lent.words, length-take (count_in lent.words) (drop first_in_line_at lent.words), length-drop first_in_line_at lent.words, ap length rep.places, length-map w.line (λ v. v.slot))

-- The transaction of slot e ends: its row is blank, its own waiting send is withdrawn, and the others are woken.
module _ (lent : Lent) (p : Program) (w : World (service p)) (rep : Rep lent p (with_fields (service p) w lent.values))
    (e : ℕ) (h : e < 8) (row values' : List ℕ) (blanked : row ≡ blank) (count : length values' ≡ length lent.values) where
  -- The words with its row blank, and the values after it.
  abbrev after : Lent
  after = lending lent.text (with_row lent.words e row) values'

  abbrev others : List (Waiter (service p))
  others = without (service p) e w.line

  row_long : length row ≡ row_words
  row_long = ap length blanked ∙ length-replicate {A = ℕ} row_words 0

  zero_phase : phase_of row ≡ 0
  zero_phase = ap phase_of blanked ∙ blank_word 0

  three_not : phase_of row ≢ 3
  three_not x = omega (arith, zero_phase, x)

  state_long : state_words ≤ length lent.words
  state_long = (fit_is lent rep.fit).long

  in_line : (v : Waiter (service p)) → Memᴰ v others → (v.slot ≢ e) × Memᴰ v w.line
  in_line v i =
      let q = in_keep (λ u. not (eqb u.slot e)) w.line i in
      (λ x. true≢false (sym q.1 ∙ ap not (eq-eqb v.slot e x)), q.0)

  shut : RepAt after p (closed_over (service p) w e values') 0 others
  shut =
      let r =
      altered lent p w rep e h row values' row_long count closed (settled_ready row three_not ∙ blanked) others
      (λ v i. inr (in_line v i))
      (λ v i ne. keep_in (λ u. not (eqb u.slot e)) w.line i (ap not (ne_eqb v.slot e ne)))
      (λ x. absurd (three_not x))
      (once_sub (service p) (sub_keep (λ u. not (eqb u.slot e)) w.line) rep.once) in
      record { fit = r.fit; fits = r.fits; fields = r.fields; slots = r.slots; places = refl; below = r.below; waits = r.waits; waiting = r.waiting; once = r.once }

  same_count : count_in after.words ≡ length w.line
  same_count = with_count lent.words state_long e h row row_long ∙ count_is lent p (with_fields (service p) w lent.values) rep

  pub ended_rep : Rep (with_words after (woken after.text after.words)) p (ended (service p) w e values')
  unfolding woken
  ended_rep =
      subst (λ (k : ℕ). let x = woken_from after.text (record { waiting = 0; words = after.words }) 0 k in
      Rep (with_words after (set x.words line_at x.waiting)) p (ended (service p) w e values')) (sym same_count)
      (let done = wakes after p e h w.line after.words (closed_over (service p) w e values') 0 0 shut
      (record {
        quiet = λ x. three_not (ap phase_of (sym (with_same lent.words state_long e h row row_long)) ∙ x);
        rest = ap (first_in_line after.words) (sym (count_is lent p (with_fields (service p) w lent.values) rep))
            ∙ with_line lent.words state_long e h row row_long (count_in lent.words) ∙ rep.places;
        few = omega (arith, count_le lent.words, count_is lent p (with_fields (service p) w lent.values) rep);
      }) (omega arith) in
      counted (with_words after _) p _ done.1 done.0)
