-- Every call over the words does what the model's call does, on words that represent a world; and the words of a fresh start
-- represent the fresh world.
use Rattle.std.specs.Prelude.{ℕ, ◌<◌, ◌≡◌, Bool, not, cond, ◌≢◌, List, eqb}
use Rattle.std.proofs.Common.{arith, sym, ap, ◌∙◌}
use Rattle.std.proofs.Math.Path.{refl, subst}
use Rattle.std.proofs.Math.Bool.{true, false}
use Rattle.std.proofs.Math.Option.{Option, none, some}
use mathlib.Core.List.Memᴰ
use Rattle.std.proofs.Math.Dec.{leb}
use borrow.Author.Tests.{eqb-true, eqb-false, eq-eqb, ne_eqb, leb-true, leb-false, lt-ltb, le-ltb}
use Rattle.model.specs.Vector.{Program}
use Rattle.model.specs.Message.{Run}
use Rattle.model.specs.Service.{Slot, closed, opened, Transaction, World, fresh, with_fields, standing, waits, on_ready, on_open, on_slot, slot_of, in_range}
use Rattle.model.specs.Service as Told
use Rattle.model.specs.Machine.{service, Call, send, step, commit, abort, call}
use Rattle.laws.specs.Lists.{none_any, member_any}
use Rattle.machine_words.specs.Line.{withdrawn, first_in_line}
use Rattle.machine_words.specs.Calls.{Lent, refused, tables_of, row_of, phase_of, slot_in, by_phase, on_closed, on_idle, on_running, on_waiting, called}
use Rattle.machine_refinement.specs.Rep.{OpenRep, NowRep, SlotRep, settled, Rep, Fresh}
use Rattle.machine_refinement.specs.Locks.{blank_word}
use Rattle.machine_refinement.specs.WaitRows.{settled_ready, settled_waits}
use Rattle.machine_refinement.specs.State.{ready_phase, closed_phase, not_waiting}
use Rattle.machine_refinement.specs.Transitions.{Follows, withdraws, commits, aborts, steps}
use Rattle.machine_refinement.specs.Sends.{sends_by}

slot_is : (p : Program) (c : Call) → slot_in c ≡ slot_of (service p) c
slot_is p (send s q) = refl
slot_is p (step s) = refl
slot_is p (commit s) = refl
slot_is p (abort s) = refl

module _ (lent : Lent) (p : Program) (w₀ : World (service p)) (rep : Rep lent p (with_fields (service p) w₀ lent.values)) where
  abbrev text : List ℕ
  text = lent.text

  abbrev ws : List ℕ
  ws = lent.words

  abbrev w : World (service p)
  w = with_fields (service p) w₀ lent.values

  -- A slot that does not wait, or waits, in the words and in the model.
  waits_not : (t : ℕ) → t < 8 → phase_of (row_of ws t) ≢ 3 → waits (service p) w.line t ≡ false
  waits_not t h ne = none_any (λ v. eqb v.slot t) w.line (λ v i. ne_eqb v.slot t (not_waiting lent p w rep t h ne v i))

  waits_there : (t : ℕ) → t < 8 → phase_of (row_of ws t) ≡ 3 → waits (service p) w.line t ≡ true
  waits_there t h e = let v = rep.waiting t h e in member_any (λ v. eqb v.slot t) v.1 (eq-eqb v.0.slot t v.2)

  -- By the phase of the slot's row.
  closed_follows : (c : Call) → slot_in c < 8 → w.slots (slot_in c) ≡ closed → phase_of (row_of ws (slot_in c)) ≡ 0
      → Follows p (on_closed lent c) (Told.on_closed (service p) w c)
  closed_follows (send s q) h e z = sends_by lent p w₀ rep s h (ap (λ x. (standing (service p) x).running) e) (λ x. omega arith) q
  closed_follows (step s) h e z = (refl, rep)
  closed_follows (commit s) h e z = (refl, rep)
  closed_follows (abort s) h e z = (refl, rep)

  -- Of an open slot whose row is its transaction's.
  record Here (c : Call) (t : Transaction (service p)) : Type 0 where
    slot : slot_in c < 8
    is : w.slots (slot_in c) ≡ opened t
    open_row : OpenRep text (tables_of ws) p (row_of ws (slot_in c)) t

  idle_follows : (c : Call) (t : Transaction (service p)) → Here c t → t.running ≡ none → Follows p (on_idle lent c) (Told.on_idle (service p) w t c)
  idle_follows (send s q) t y n =
      sends_by lent p w₀ rep s y.slot (ap (λ x. (standing (service p) x).running) y.is ∙ n) (ready_phase text (tables_of ws) p (row_of ws s) t y.open_row) q
  idle_follows (step s) t y n = (refl, rep)
  idle_follows (commit s) t y n = commits lent p w₀ rep s y.slot t y.open_row
  idle_follows (abort s) t y n = aborts lent p w₀ rep s y.slot t y.open_row

  running_follows : (c : Call) (t : Transaction (service p)) → Here c t → (r : Run) → NowRep text (tables_of ws) p (row_of ws (slot_in c)) (some r)
      → Follows p (on_running lent c) (Told.on_running (service p) w t r c)
  running_follows (send s q) t y r n = (refl, rep)
  running_follows (step s) t y r n = steps lent p w₀ rep s y.slot t y.open_row r n
  running_follows (commit s) t y r n = (refl, rep)
  running_follows (abort s) t y r n = aborts lent p w₀ rep s y.slot t y.open_row

  ready_follows : (c : Call) (t : Transaction (service p)) → Here c t → (r : Option Run) → t.running ≡ r → NowRep text (tables_of ws) p (row_of ws (slot_in c)) r
      → Follows p (by_phase lent c (phase_of (row_of ws (slot_in c)))) (on_ready (service p) w c t r)
  ready_follows c t y none e n =
      subst (λ (i : ℕ). Follows p (by_phase lent c i) (on_ready (service p) w c t none)) (sym n) (idle_follows c t y e)
  ready_follows c t y (some r) e n =
      subst (λ (i : ℕ). Follows p (by_phase lent c i) (on_ready (service p) w c t (some r))) (sym n.0) (running_follows c t y r n)

  waiting_follows : (c : Call) → slot_in c < 8 → (t : Transaction (service p)) → OpenRep text (tables_of ws) p (withdrawn (row_of ws (slot_in c))) t
      → Follows p (on_waiting lent c) (Told.on_waiting (service p) w t c)
  waiting_follows (send s q) h t o = (refl, rep)
  waiting_follows (step s) h t o = (refl, rep)
  waiting_follows (commit s) h t o = (refl, rep)
  waiting_follows (abort s) h t o = withdraws lent p w₀ rep s h t o

  slot_follows : (c : Call) → slot_in c < 8 → (z : Slot (service p)) → w.slots (slot_in c) ≡ z → SlotRep text (tables_of ws) p (settled (row_of ws (slot_in c))) z
      → Follows p (by_phase lent c (phase_of (row_of ws (slot_in c)))) (on_slot (service p) w c z)
  slot_follows c h closed is e =
      let z = closed_phase lent p w rep (slot_in c) h is in
      subst (λ (i : ℕ). Follows p (by_phase lent c i) (on_slot (service p) w c closed)) (sym z) (closed_follows c h is z)
  slot_follows c h (opened t) is o =
      subst (λ (s : ℕ). Follows p (by_phase lent c (phase_of row)) (on_open (service p) w c t (waits (service p) w.line s))) (slot_is p c)
      (go (eqb (phase_of row) 3) refl)
    where
      row : List ℕ
      row = row_of ws (slot_in c)

      go : (b : Bool) → eqb (phase_of row) 3 ≡ b
          → Follows p (by_phase lent c (phase_of row)) (on_open (service p) w c t (waits (service p) w.line (slot_in c)))
      go true e =
          let three = eqb-true (phase_of row) 3 e in
          subst (λ (b : Bool). Follows p (by_phase lent c (phase_of row)) (on_open (service p) w c t b)) (sym (waits_there (slot_in c) h three))
          (subst (λ (i : ℕ). Follows p (by_phase lent c i) (Told.on_waiting (service p) w t c)) (sym three)
          (waiting_follows c h t (subst (λ (r : List ℕ). OpenRep text (tables_of ws) p r t) (settled_waits row three) o)))
      go false e =
          let ne = eqb-false (phase_of row) 3 e in
          let here : OpenRep text (tables_of ws) p row t = subst (λ (r : List ℕ). OpenRep text (tables_of ws) p r t) (settled_ready row ne) o in
          subst (λ (b : Bool). Follows p (by_phase lent c (phase_of row)) (on_open (service p) w c t b)) (sym (waits_not (slot_in c) h ne))
          (ready_follows c t (record { slot = h; is = is; open_row = here }) t.running refl here.now)

  call_follows : (c : Call) → Follows p (called lent c) (call p w c)
  unfolding called
  call_follows c =
      subst (λ (n : ℕ). Follows p (cond (not (eqb n 0)) (refused lent n)
      (cond (leb 8 (slot_in c)) (refused lent 31) (by_phase lent c (phase_of (row_of ws (slot_in c))))))
      (call p w c)) (sym rep.fit) (go (leb 8 (slot_in c)) refl)
    where
      go : (b : Bool) → leb 8 (slot_in c) ≡ b
          → Follows p (cond b (refused lent 31) (by_phase lent c (phase_of (row_of ws (slot_in c))))) (call p w c)
      go true e =
          subst (λ (b : Bool). Follows p (refused lent 31) (in_range (service p) w c b))
          (sym (le-ltb (slot_of (service p) c) 8 (omega (arith, leb-true 8 (slot_in c) e, slot_is p c)))) (refl, rep)
      go false e =
          let h = leb-false 8 (slot_in c) e in
          subst (λ (b : Bool). Follows p (by_phase lent c (phase_of (row_of ws (slot_in c)))) (in_range (service p) w c b))
          (sym (lt-ltb (slot_of (service p) c) 8 (omega (arith, slot_is p c))))
          (subst (λ (i : ℕ). Follows p (by_phase lent c (phase_of (row_of ws (slot_in c)))) (on_slot (service p) w c (w₀.slots i))) (slot_is p c)
          (slot_follows c h (w₀.slots (slot_in c)) refl (rep.slots (slot_in c) h)))

-- Refinement of every call: the answer is the model's, and what it leaves represents the world after it.
pub refines : (lent : Lent) (p : Program) (w : World (service p)) → Rep lent p w → (c : Call)
    → ((called lent c).answered ≡ (call p w c).0) × Rep (called lent c).lent p (call p w c).1
refines lent p w rep c =
    let same : with_fields (service p) w lent.values ≡ w = λ i. with_fields (service p) w (sym rep.fields i) in
    subst (λ (v : World (service p)). Follows p (called lent c) (call p v c)) same
    (call_follows lent p w (subst (λ (v : World (service p)). Rep lent p v) (sym same) rep) c)

-- The words of a fresh start represent the machine after a start.
pub fresh_rep : (lent : Lent) (p : Program) → Fresh lent p → Rep lent p (fresh (service p) lent.values)
fresh_rep lent p f =
    record {
      fit = f.fit;
      fits = f.fits;
      fields = refl;
      slots = λ t h. settled_ready (row_of lent.words t) (quiet t h) ∙ f.rows t h;
      places = ap (first_in_line lent.words) f.line;
      below = λ v i. absurd (Memᴰ.not-nil i);
      waits = λ v i. absurd (Memᴰ.not-nil i);
      waiting = λ t h e. absurd (quiet t h e);
      once = tt;
    }
  where
    quiet : (t : ℕ) → t < 8 → phase_of (row_of lent.words t) ≢ 3
    quiet t h e = omega (arith, ap phase_of (f.rows t h), blank_word 0, e)
