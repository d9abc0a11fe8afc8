-- What a slot's phase represents in the world's slot, what its row represents of the transaction that a send to it belongs to, and
-- what the words represent where a call writes one row.
use Rattle.std.specs.Prelude.{ℕ, suc, ◌+◌, ◌/◌, ◌%◌, ◌≤◌, ◌<◌, ◌≡◌, refl, ◌≢◌, ◌⊎◌, Bool, true, false, cond, ◌&&◌, length, get_or, set, take, drop, eqb, ltb}
use Rattle.std.proofs.Common.{arith, sym, ap, ap₂, subst, ◌∙◌, inr, ⊎_elim, length-drop, get_or-set_same, drop-set-lt, take-suc-set, eqb-true, le-ltb, eq-eqb, lt-ltb}
use Rattle.std.proofs.Math.Decide.{ℕ_discrete}
use Rattle.std.proofs.Math.Option.{Option, none, some}
use mathlib.Core.List.{List, [], ◌∷◌, ◌++◌, map, map-append, Memᴰ}
use Rattle.std.proofs.lemmas.List.{drop-set-add}
use Rattle.std.proofs.lemmas.Bool.{eqb-false}
use Rattle.layout.specs.Layout.{values_most, set_marks_at, notes_at, row_words, line_at, first_in_line_at, state_words, slots_most}
use Rattle.model.specs.Base.{put}
use Rattle.model.specs.Vector.{Program}
use Rattle.model.specs.Message.{Message, Run}
use Rattle.model.specs.Undo.{sum_added}
use Rattle.model.specs.Service.{Slot, closed, opened, Transaction, Waiter, World, with_fields, with_slot, new_transaction, standing, queued}
use Rattle.model.specs.Machine.{service}
use Rattle.laws.specs.Basics.{at_or, put_same, put_other}
use Rattle.laws.specs.Bits.{bit, bit_zero}
use Rattle.machine_words.specs.Row.{note_by, note_at, blank}
use Rattle.machine_words.specs.Line.{count_in, first_in_line, with_place, is_waiting}
use Rattle.machine_words.specs.Calls.{Lent, lending, with_words, tables_of, row_of, phase_of, with_row}
use Rattle.machine_words.specs.Rows.{row_length, with_same, with_other, with_tables, with_count, with_line, with_fit, place_row, place_tables, place_fit, fit_is}
use Rattle.machine_refinement.specs.Rep.{Fits, NowRep, Clean, Holds, OpenRep, SlotRep, Waits, settled, RepAt, Rep}
use Rattle.twophase.specs.Line.{Once}
use Rattle.machine_refinement.specs.Locks.{blank_word, blank_holds}
use Rattle.machine_refinement.specs.WaitRows.{withdrawn_phase, settled_ready, settled_waits}

-- ---- phases

-- An open slot's phase is not 0.
pub open_phase : (text tables : List ℕ) (p : Program) (row : List ℕ) (t : Transaction (service p)) → OpenRep text tables p row t → phase_of row ≢ 0
open_phase text tables p row t rep = go t.running rep.now
  where
    go : (x : Option Run) → NowRep text tables p row x → phase_of row ≢ 0
    go none now = omega arith
    go (some r) now = let two = now.0 in omega arith

-- Nor is it 3.
pub ready_phase : (text tables : List ℕ) (p : Program) (row : List ℕ) (t : Transaction (service p)) → OpenRep text tables p row t → phase_of row ≢ 3
ready_phase text tables p row t rep = go t.running rep.now
  where
    go : (x : Option Run) → NowRep text tables p row x → phase_of row ≢ 3
    go none now = omega arith
    go (some r) now = let two = now.0 in omega arith

-- A slot's phase is 0 exactly if it is closed in the world.
module _ (lent : Lent) (p : Program) (w : World (service p)) {n : ℕ} {all : List (Waiter (service p))} (rep : RepAt lent p w n all)
    (t : ℕ) (h : t < 8) where
  pub row_size : length (row_of lent.words t) ≡ row_words
  row_size = row_length lent.words (fit_is lent rep.fit).long t h

  pub phase_closed : phase_of (row_of lent.words t) ≡ 0 → w.slots t ≡ closed
  phase_closed e =
      go (w.slots t)
      (subst (λ (r : List ℕ). SlotRep lent.text (tables_of lent.words) p r (w.slots t)) (settled_ready (row_of lent.words t) (λ x. omega arith)) (rep.slots t h))
    where
      go : (z : Slot (service p)) → SlotRep lent.text (tables_of lent.words) p (row_of lent.words t) z → z ≡ closed
      go closed r = refl
      go (opened x) r = absurd (open_phase lent.text (tables_of lent.words) p (row_of lent.words t) x r e)

  pub closed_phase : w.slots t ≡ closed → phase_of (row_of lent.words t) ≡ 0
  closed_phase e = go (eqb (phase_of (row_of lent.words t)) 3) refl
    where
      blanked : settled (row_of lent.words t) ≡ blank
      blanked = subst (SlotRep lent.text (tables_of lent.words) p (settled (row_of lent.words t))) e (rep.slots t h)

      go : (b : Bool) → eqb (phase_of (row_of lent.words t)) 3 ≡ b → phase_of (row_of lent.words t) ≡ 0
      go true f =
          let three = eqb-true (phase_of (row_of lent.words t)) 3 f in
          absurd (omega (arith, withdrawn_phase (row_of lent.words t) row_size, ap phase_of (sym (settled_waits (row_of lent.words t) three) ∙ blanked), blank_word 0))
      go false f = ap phase_of (sym (settled_ready (row_of lent.words t) (eqb-false (phase_of (row_of lent.words t)) 3 f)) ∙ blanked) ∙ blank_word 0

  -- A slot of another phase than 3 has no send in line.
  pub not_waiting : phase_of (row_of lent.words t) ≢ 3 → (v : Waiter (service p)) → Memᴰ v all → v.slot ≢ t
  not_waiting ne v i e = ne (ap (λ (u : ℕ). phase_of (row_of lent.words u)) (sym e) ∙ (rep.waits v i).phase)

-- ---- the transaction that a send belongs to

-- What a row represents of a transaction, whatever runs: its notes and its locks.
pub record StandingRep (p : Program) (row : List ℕ) (t : Transaction (service p)) : Type 0 where
  pub undo : (k : ℕ) → note_at row k ≡ t.undo k
  pub clean : Clean row
  pub locks : Holds p row t.locks

-- In a blank row nothing was added to any value, and none was set.
blank_notes : (k : ℕ) → note_at blank k ≡ sum_added 0
unfolding note_at
blank_notes k =
    ap₂ (λ (b : Bool) (w : ℕ). cond (ltb k values_most) (note_by b w) (sum_added 0))
    (ap (λ (w : ℕ). bit w (k % 32)) (blank_word (set_marks_at + k / 32)) ∙ bit_zero (k % 32)) (blank_word (notes_at + k))
    ∙ go (ltb k values_most)
  where
    go : (b : Bool) → cond b (sum_added 0) (sum_added 0) ≡ sum_added 0
    go true = refl
    go false = refl

-- A closed slot's row represents a new transaction.
blank_stands : (p : Program) → StandingRep p blank (new_transaction (service p))
blank_stands p =
    record {
      undo = blank_notes;
      clean = record {
        notes = λ k l m. blank_word (notes_at + k);
        marks = λ z i g l. blank_word i;
        spare = λ i g l. blank_word i;
        locks = λ i g l z. blank_word i;
        calls = λ z. (omega (arith, blank_word 1), λ i g l. blank_word i);
      };
      locks = blank_holds p;
    }

pub slot_stands : (text tables : List ℕ) (p : Program) (row : List ℕ) (z : Slot (service p)) → SlotRep text tables p row z
    → StandingRep p row (standing (service p) z)
slot_stands text tables p row closed e = subst (λ (r : List ℕ). StandingRep p r (new_transaction (service p))) (sym e) (blank_stands p)
slot_stands text tables p row (opened t) o = record { undo = o.undo; clean = o.clean; locks = o.locks }

-- A slot in line waits.
pub waits_now : (lent : Lent) (p : Program) (w : World (service p)) {n : ℕ} {all : List (Waiter (service p))} → RepAt lent p w n all
    → (v : Waiter (service p)) → Memᴰ v all → is_waiting lent.words v.slot ≡ true
unfolding is_waiting
waits_now lent p w rep v i =
    ap₂ ◌&&◌ (lt-ltb v.slot 8 (rep.below v i)) (eq-eqb (phase_of (row_of lent.words v.slot)) 3 (rep.waits v i).phase)

-- ---- a slot altered

-- A call that writes one slot's row and keeps the number of values: the words represent the world with that slot altered. Those who
-- wait afterwards waited before, but for the slot's own send.
module _ (lent : Lent) (p : Program) (w : World (service p)) {n : ℕ} {all : List (Waiter (service p))}
    (rep : RepAt lent p (with_fields (service p) w lent.values) n all)
    (s : ℕ) (h : s < 8) (row values' : List ℕ) (size : length row ≡ row_words) (count : length values' ≡ length lent.values) (z : Slot (service p)) where
  abbrev text : List ℕ
  text = lent.text

  abbrev ws : List ℕ
  ws = lent.words

  long : state_words ≤ length ws
  long = (fit_is lent rep.fit).long

  tables : tables_of (with_row ws s row) ≡ tables_of ws
  tables = with_tables ws long s h row size

  in_place : {r r' : List ℕ} {x x' : Slot (service p)} → r ≡ r' → x ≡ x' → SlotRep text (tables_of ws) p r x → SlotRep text (tables_of (with_row ws s row)) p r' x'
  in_place {r} {r'} {x} {x'} b c q =
      subst (λ (t : List ℕ). SlotRep text t p r' x') (sym tables)
      (subst (λ (y : Slot (service p)). SlotRep text (tables_of ws) p r' y) c (subst (λ (y : List ℕ). SlotRep text (tables_of ws) p y x) b q))

  pub altered : SlotRep text (tables_of ws) p (settled row) z → (all' : List (Waiter (service p)))
      → ((v : Waiter (service p)) → Memᴰ v all' → ((v.slot ≡ s) × Waits text (tables_of ws) p row v.message) ⊎ ((v.slot ≢ s) × Memᴰ v all))
      → ((v : Waiter (service p)) → Memᴰ v all → v.slot ≢ s → Memᴰ v all')
      → (phase_of row ≡ 3 → (v : Waiter (service p)) × Memᴰ v all' × (v.slot ≡ s)) → Once (service p) all'
      → RepAt (lending text (with_row ws s row) values') p (with_slot (service p) (with_fields (service p) w values') s z) n all'
  altered slot all' from keeps own once =
      record {
        fit = with_fit ws long s h row size text lent.values values' count ∙ rep.fit;
        fits = subst (λ (t : List ℕ). Fits text t p) (sym tables) rep.fits;
        fields = refl;
        slots = at_or (λ (t : ℕ). t < 8 → SlotRep text (tables_of (with_row ws s row)) p (settled (row_of (with_row ws s row) t)) (put w.slots s z t)) s
            (λ l. in_place (ap settled (sym same)) (sym (put_same w.slots s z)) slot)
            (λ t ne l. in_place (ap settled (sym (other t l ne))) (sym (put_other w.slots s z t ne)) (rep.slots t l));
        places = with_line ws long s h row size n ∙ rep.places;
        below = λ v i. ⊎_elim (λ q. omega (arith, q.0, h)) (λ q. rep.below v q.1) (from v i);
        waits = λ v i. ⊎_elim (λ q. there v.slot v.message q.0 q.1) (λ q. else v q.0 q.1) (from v i);
        waiting = λ t l e. go t l e (ℕ_discrete t s);
        once = once;
      }
    where
      same : row_of (with_row ws s row) s ≡ row
      same = with_same ws long s h row size

      other : (t : ℕ) → t < 8 → t ≢ s → row_of (with_row ws s row) t ≡ row_of ws t
      other t l ne = with_other ws long s h row size t l ne

      there : (t : ℕ) (m : Message) → t ≡ s → Waits text (tables_of ws) p row m → Waits text (tables_of (with_row ws s row)) p (row_of (with_row ws s row) t) m
      there t m e q =
          subst (λ (x : List ℕ). Waits text x p (row_of (with_row ws s row) t) m) (sym tables)
          (subst (λ (r : List ℕ). Waits text (tables_of ws) p r m) (sym (ap (row_of (with_row ws s row)) e ∙ same)) q)

      else : (v : Waiter (service p)) → v.slot ≢ s → Memᴰ v all → Waits text (tables_of (with_row ws s row)) p (row_of (with_row ws s row) v.slot) v.message
      else v ne i =
          subst (λ (x : List ℕ). Waits text x p (row_of (with_row ws s row) v.slot) v.message) (sym tables)
          (subst (λ (r : List ℕ). Waits text (tables_of ws) p r v.message) (sym (other v.slot (rep.below v i) ne)) (rep.waits v i))

      go : (t : ℕ) → t < 8 → phase_of (row_of (with_row ws s row) t) ≡ 3 → Dec (t ≡ s) → (v : Waiter (service p)) × Memᴰ v all' × (v.slot ≡ t)
      go t l e (yes q) =
          let o = own (ap phase_of (sym (ap (row_of (with_row ws s row)) q ∙ same)) ∙ e) in
          (o.0, o.1, o.2 ∙ sym q)
      go t l e (no ne) =
          let o = rep.waiting t l (ap phase_of (sym (other t l ne)) ∙ e) in
          (o.0, keeps o.0 o.1 (λ x. ne (sym o.2 ∙ x)), o.2)

  -- The slot did not wait, and does not wait then.
  pub moved : phase_of (row_of ws s) ≢ 3 → phase_of row ≢ 3 → SlotRep text (tables_of ws) p row z
      → RepAt (lending text (with_row ws s row) values') p (with_slot (service p) (with_fields (service p) w values') s z) n all
  moved was is slot =
      altered (subst (λ (r : List ℕ). SlotRep text (tables_of ws) p r z) (sym (settled_ready row is)) slot) all
      (λ v i. inr (not_waiting lent p (with_fields (service p) w lent.values) rep s h was v i, i)) (λ v i ne. i) (λ e. absurd (is e)) rep.once

-- So for the whole line.
pub moved_rep : (lent : Lent) (p : Program) (w : World (service p)) → Rep lent p (with_fields (service p) w lent.values) → (s : ℕ) → s < 8
    → (row values' : List ℕ) → length row ≡ row_words → length values' ≡ length lent.values → (z : Slot (service p)) → phase_of (row_of lent.words s) ≢ 3 → phase_of row ≢ 3
    → SlotRep lent.text (tables_of lent.words) p row z → Rep (lending lent.text (with_row lent.words s row) values') p (with_slot (service p) (with_fields (service p) w values') s z)
moved_rep lent p w rep s h row values' size count z was is slot =
    subst (λ (n : ℕ). RepAt (lending lent.text (with_row lent.words s row) values') p (with_slot (service p) (with_fields (service p) w values') s z) n w.line)
    (sym (with_count lent.words (fit_is lent rep.fit).long s h row size)) (moved lent p w rep s h row values' size count z was is slot)

-- ---- the line altered

-- A word of the line is written, and the world has another line.
module _ (lent : Lent) (p : Program) (w : World (service p)) {n : ℕ} {all : List (Waiter (service p))} (rep : RepAt lent p w n all)
    (i v : ℕ) (h : line_at ≤ i) (few : i ≡ line_at → v ≤ slots_most) where
  tables' : tables_of (set lent.words i v) ≡ tables_of lent.words
  tables' = place_tables lent.words i v h

  rewritten : (line : List (Waiter (service p))) (k : ℕ) → first_in_line (set lent.words i v) k ≡ map (λ x. x.slot) line
      → RepAt (with_words lent (set lent.words i v)) p (record { fields = w.fields; slots = w.slots; line = line }) k all
  rewritten line k places =
      record {
        fit = place_fit lent.words i v h lent.text lent.values few rep.fit;
        fits = subst (λ (t : List ℕ). Fits lent.text t p) (sym tables') rep.fits;
        fields = rep.fields;
        slots = λ t l.
            subst (λ (x : List ℕ). SlotRep lent.text x p (settled (row_of (set lent.words i v) t)) (w.slots t)) (sym tables')
            (subst (λ (r : List ℕ). SlotRep lent.text (tables_of lent.words) p (settled r) (w.slots t)) (sym (place_row lent.words i v h t l)) (rep.slots t l));
        places = places;
        below = rep.below;
        waits = λ u j.
            subst (λ (x : List ℕ). Waits lent.text x p (row_of (set lent.words i v) u.slot) u.message) (sym tables')
            (subst (λ (r : List ℕ). Waits lent.text (tables_of lent.words) p r u.message) (sym (place_row lent.words i v h u.slot (rep.below u j))) (rep.waits u j));
        waiting = λ t l e. rep.waiting t l (ap phase_of (sym (place_row lent.words i v h t l)) ∙ e);
        once = rep.once;
      }

-- A waiter is put at the place after the line.
pub placed : (lent : Lent) (p : Program) (w : World (service p)) {n : ℕ} {all : List (Waiter (service p))} → RepAt lent p w n all
    → n < 8 → (v : Waiter (service p)) → RepAt (with_words lent (with_place lent.words n v.slot)) p (queued (service p) w v) (suc n) all
placed lent p w {n} rep few v =
    rewritten lent p w rep (first_in_line_at + n) v.slot (omega arith) (λ e. omega arith) (w.line ++ (v ∷ [])) (suc n)
    (ap (take (suc n)) (drop-set-add first_in_line_at lent.words n v.slot)
    ∙ take-suc-set (drop first_in_line_at lent.words) n v.slot (omega (arith, length-drop first_in_line_at lent.words, (fit_is lent rep.fit).long))
    ∙ ap (λ (l : List ℕ). l ++ (v.slot ∷ [])) rep.places ∙ sym (map-append (λ x. x.slot) w.line (v ∷ [])))

-- The number of those who wait is written.
pub counted : (lent : Lent) (p : Program) (w : World (service p)) {n : ℕ} {all : List (Waiter (service p))} → RepAt lent p w n all
    → n ≤ 8 → RepAt (with_words lent (set lent.words line_at n)) p w (count_in (set lent.words line_at n)) all
unfolding count_in
counted lent p w {n} {all} rep few =
    let e : get_or (set lent.words line_at n) line_at 0 ≡ n = get_or-set_same lent.words line_at n 0 (omega (arith, (fit_is lent rep.fit).long)) in
    let is : cond (ltb 8 (get_or (set lent.words line_at n) line_at 0)) 8 (get_or (set lent.words line_at n) line_at 0) ≡ n = rw (e, le-ltb 8 n few) in
    subst (λ (k : ℕ). RepAt (with_words lent (set lent.words line_at n)) p w k all) (sym is)
    (rewritten lent p w rep line_at n (omega arith) (λ e. few) w.line n
    (ap (take n) (drop-set-lt first_in_line_at lent.words line_at n (omega arith)) ∙ rep.places))
