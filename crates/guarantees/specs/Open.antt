-- Which slots are closed, wait or run a message, by what a host sees: the answer of a step, which alters nothing where it is 32 or 37.
use Rattle.std.specs.Prelude.{ℕ, ◌≤◌, ◌<◌, ◌≡◌, Bool, cond, List, [], ◌∷◌, map, eqb}
use Rattle.std.proofs.Common.{arith, sym, ap, subst, ◌∙◌}
use Rattle.std.proofs.Math.Decide.{ℕ_discrete}
use Rattle.std.proofs.Math.Path.{refl}
use Rattle.std.proofs.Math.Bool.{true, false}
use Rattle.std.proofs.lemmas.Bool.{false≢true}
use Rattle.std.proofs.Math.Option.{Option, none, some}
use borrow.Author.Tests.{eqb-true, lt-ltb, lt-leb}
use Rattle.model.specs.Vector.{Program}
use Rattle.model.specs.Message.{Effect, Run, turn}
use Rattle.model.specs.Service.{Outcome, goes, ends, stops, Answer, done, going, answer, refuse, held, stopped, call_number, Slot, closed, opened, Transaction, World, Waiter, waits, stepped, on_ready, on_open, on_slot, in_range}
use Rattle.model.specs.Machine.{service, step, call}
use Rattle.laws.specs.Basics.{All, In, all_at}
use Rattle.laws.specs.Lists.{any_member}
use Rattle.machine_words.specs.Said.{CallResult, told}
use Rattle.machine_words.specs.Calls.{Lent, After, tables_of, row_of, phase_of, misfit_of, refused, on_running, by_phase, called}
use Rattle.machine_refinement.specs.Rep.{NowRep, OpenRep, SlotRep, Rep}
use Rattle.machine_refinement.specs.Locks.{blank_word}
use Rattle.machine_refinement.specs.WaitRows.{settled_ready}
use Rattle.machine_refinement.specs.State.{closed_phase}
use Rattle.machine_refinement.specs.Refines.{refines}
use Rattle.cishmolaq.specs.Keeps.{Kept}
use Rattle.cishmolaq.specs.Promises.{Does}
use Rattle.guarantees.specs.Made as Calls
use Rattle.guarantees.specs.Made.{Made, then}

-- ---- by the answer of a step

-- What a step of slot s answers.
abbrev pub asked : Lent → ℕ → Answer
asked x s = (called x (step s)).answered

-- Slot s is closed: a step answers "32 slot not open".
abbrev pub ClosedIn : Lent → ℕ → Type 0
ClosedIn x s = asked x s ≡ refuse 32

-- Slot s is one of the eight, and a step does not answer 32.
abbrev pub OpenIn : Lent → ℕ → Type 0
OpenIn x s = (s < 8) × (ClosedIn x s → ⊥)

-- Slot s waits: a step answers "37, the slot is waiting" (02, Ticket 7).
abbrev pub WaitingIn : Lent → ℕ → Type 0
WaitingIn x s = asked x s ≡ refuse 37

-- A message runs in slot s: a step is not refused, but answers "going", the message's answer, or 41.
abbrev pub RunningIn : Lent → ℕ → Type 0
RunningIn x s = (n : ℕ) → asked x s ≡ refuse n → ⊥

-- "leaves nothing open" (demand 3): a step of each of the eight slots answers 32.
abbrev pub NothingOpen : Lent → Type 0
NothingOpen x = (s : ℕ) → s < 8 → ClosedIn x s

-- A host finds it out by the call itself: the entry's answer is this one, and where it is a number such as 32 or 37 nothing is altered.
module _ {x y : Lent} {s : ℕ} {r : CallResult} (d : Does x (step s) r y) where
  pub step_tells : told r ≡ asked x s
  step_tells = d.any.says

  pub tells_only : (n : ℕ) → asked x s ≡ refuse n → y ≡ x
  tells_only n e = subst (λ (a : Answer). Kept s a x y) (step_tells ∙ e) d.kept

-- So a step of each slot, one after another, that answers 32 each time: nothing is open, and nothing was altered.
each_asked : (ss : List ℕ) {x y : Lent} {rs : List CallResult} → Made x (map step ss) rs y → All (λ r. told r ≡ refuse 32) rs → All (ClosedIn x) ss × (y ≡ x)
each_asked [] Calls.none h = (tt, refl)
each_asked (s ∷ ss) {x} (then {x₁ = x₁} d m) h =
    let closed-now = sym (step_tells d) ∙ h.0 in
    let same : x₁ ≡ x = tells_only d 32 closed-now in
    let rest = each_asked ss m h.1 in
    ((closed-now, subst (λ (l : Lent). All (ClosedIn l) ss) same rest.0), rest.1 ∙ same)

pub asked_all : (ss : List ℕ) → ((s : ℕ) → s < 8 → In s ss) → {x y : Lent} {rs : List CallResult} → Made x (map step ss) rs y → All (λ r. told r ≡ refuse 32) rs
    → NothingOpen x × (y ≡ x)
asked_all ss each {x} made h = let all = each_asked ss made h in (λ s low. all_at (ClosedIn x) ss s (each s low) all.0, all.1)

-- ---- in the model

module _ (p : Program) (w : World (service p)) (s : ℕ) where
  -- A step of an open slot that does not wait answers no number from 32 to 39 but 35.
  ready_number : (n : ℕ) → 32 ≤ n → n < 40 → (t : Transaction (service p)) (r : Option Run) → (on_ready (service p) w (step s) t r).0 ≡ refuse n → n ≡ 35
  ready_number n l h t none q = sym (ap call_number q)
  ready_number n l h t (some r) q = go (turn p r w.fields) q
    where
      go : (o : Outcome Run Effect) → (stepped (service p) w s t o).0 ≡ refuse n → n ≡ 35
      go (goes r e) q = absurd (omega (arith, ap call_number q))
      go (ends v e) q = absurd (omega (arith, ap call_number q))
      go stops q = absurd (omega (arith, ap call_number q))

  -- 32 is for a closed slot alone ..
  model_closed : s < 8 → (call p w (step s)).0 ≡ refuse 32 → w.slots s ≡ closed
  model_closed h e = by_slot (w.slots s) (subst (λ b. (in_range (service p) w (step s) b).0 ≡ refuse 32) (lt-ltb s 8 h) e)
    where
      by_line : (t : Transaction (service p)) (b : Bool) → (on_open (service p) w (step s) t b).0 ≡ refuse 32 → ⊥
      by_line t true q = omega (arith, ap call_number q)
      by_line t false q = omega (arith, ready_number 32 (omega arith) (omega arith) t t.running q)

      by_slot : (z : Slot (service p)) → (on_slot (service p) w (step s) z).0 ≡ refuse 32 → z ≡ closed
      by_slot closed q = refl
      by_slot (opened t) q = absurd (by_line t (waits (service p) w.line s) q)

  -- .. and 37 for one that waits.
  model_waits : s < 8 → (call p w (step s)).0 ≡ refuse 37 → waits (service p) w.line s ≡ true
  model_waits h e = by_slot (w.slots s) (subst (λ b. (in_range (service p) w (step s) b).0 ≡ refuse 37) (lt-ltb s 8 h) e)
    where
      by_line : (t : Transaction (service p)) (b : Bool) → (on_open (service p) w (step s) t b).0 ≡ refuse 37 → b ≡ true
      by_line t true q = refl
      by_line t false q = absurd (omega (arith, ready_number 37 (omega arith) (omega arith) t t.running q))

      by_slot : (z : Slot (service p)) → (on_slot (service p) w (step s) z).0 ≡ refuse 37 → waits (service p) w.line s ≡ true
      by_slot closed q = absurd (omega (arith, ap call_number q))
      by_slot (opened t) q = by_line t (waits (service p) w.line s) q

-- ---- in the words

-- The answer is exactly by the slot's phase, and by the slot in the world that the words represent: 32 for phase 0, a closed slot ..
module _ (x : Lent) (p : Program) (w : World (service p)) (rep : Rep x p w) (s : ℕ) (h : s < 8) where
  pub closed_slot : ClosedIn x s → w.slots s ≡ closed
  closed_slot e = model_closed p w s h (sym (refines x p w rep (step s)).0 ∙ e)

  pub phase_answers : phase_of (row_of x.words s) ≡ 0 → ClosedIn x s
  unfolding called
  phase_answers zero = go rep.fit
    where
      go : misfit_of x ≡ 0 → (called x (step s)).answered ≡ refuse 32
      go q = rw (q, lt-leb 8 s h, zero) refl

  pub answers_phase : ClosedIn x s → phase_of (row_of x.words s) ≡ 0
  answers_phase e = closed_phase x p w rep s h (closed_slot e)

  pub slot_closed : w.slots s ≡ closed → ClosedIn x s
  slot_closed e = phase_answers (closed_phase x p w rep s h e)

  -- .. and 37 for phase 3, a slot in line.
  pub waiting_slot : WaitingIn x s → waits (service p) w.line s ≡ true
  waiting_slot e = model_waits p w s h (sym (refines x p w rep (step s)).0 ∙ e)

  pub waiting_answers : phase_of (row_of x.words s) ≡ 3 → WaitingIn x s
  unfolding called
  waiting_answers three = go rep.fit
    where
      go : misfit_of x ≡ 0 → (called x (step s)).answered ≡ refuse 37
      go q = rw (q, lt-leb 8 s h, three) refl

  pub phase_waits : phase_of (row_of x.words s) ≡ 3 → waits (service p) w.line s ≡ true
  phase_waits e = waiting_slot (waiting_answers e)

pub waits_phase : (x : Lent) (p : Program) (w : World (service p)) → Rep x p w → (s : ℕ) → waits (service p) w.line s ≡ true → phase_of (row_of x.words s) ≡ 3
waits_phase x p w rep s e =
    let (v, i, q) = any_member (λ (v : Waiter (service p)). eqb v.slot s) w.line e in
    ap (λ (t : ℕ). phase_of (row_of x.words t)) (sym (eqb-true v.slot s q)) ∙ (rep.waits v i).phase

-- No number is for phase 2, where a message runs.
module _ (x : Lent) (p : Program) (w : World (service p)) (rep : Rep x p w) (s : ℕ) (h : s < 8) where
  abbrev row : List ℕ
  row = row_of x.words s

  pub running_phase : RunningIn x s → phase_of row ≡ 2
  unfolding called
  running_phase run = go (ℕ_discrete (phase_of row) 2)
    where
      by_phase_law : (a b c d : Bool) (y : After) → (c ≡ true → ⊥)
          → (n : ℕ) × ((cond a (refused x 32) (cond b (refused x 35) (cond c y (cond d (refused x 37) (refused x 24))))).answered ≡ refuse n)
      by_phase_law true b c d y ne = (32, refl)
      by_phase_law false true c d y ne = (35, refl)
      by_phase_law false false true d y ne = absurd (ne refl)
      by_phase_law false false false true y ne = (37, refl)
      by_phase_law false false false false y ne = (24, refl)

      is_by : misfit_of x ≡ 0 → (called x (step s)).answered ≡ (by_phase x (step s) (phase_of row)).answered
      is_by q = rw (q, lt-leb 8 s h) refl

      go : Dec (phase_of row ≡ 2) → phase_of row ≡ 2
      go (yes e) = e
      go (no ne) =
          let k = phase_of row in
          let (n, e) = by_phase_law (eqb k 0) (eqb k 1) (eqb k 2) (eqb k 3) (on_running x (step s)) (λ q. ne (eqb-true k 2 q)) in
          absurd (run n (is_by rep.fit ∙ e))

  pub phase_running : phase_of row ≡ 2 → RunningIn x s
  phase_running two n e =
      by_slot (w.slots s) (subst (λ (l : List ℕ). SlotRep x.text (tables_of x.words) p l (w.slots s)) (settled_ready row (omega arith)) (rep.slots s h))
      (subst (λ b. (in_range (service p) w (step s) b).0 ≡ refuse n) (lt-ltb s 8 h) (sym (refines x p w rep (step s)).0 ∙ e))
    where
      is_number : Answer → Bool
      is_number (refuse k) = true
      is_number done = false
      is_number going = false
      is_number (answer v) = false
      is_number (held k) = false
      is_number stopped = false

      by_turn : (t : Transaction (service p)) (o : Outcome Run Effect) → (stepped (service p) w s t o).0 ≡ refuse n → ⊥
      by_turn t (goes r e) q = false≢true (ap is_number q)
      by_turn t (ends v e) q = false≢true (ap is_number q)
      by_turn t stops q = false≢true (ap is_number q)

      by_run : (t : Transaction (service p)) (r : Option Run) → NowRep x.text (tables_of x.words) p row r → (on_ready (service p) w (step s) t r).0 ≡ refuse n → ⊥
      by_run t none now q = omega arith
      by_run t (some r) now q = by_turn t (turn p r w.fields) q

      by_line : (t : Transaction (service p)) → OpenRep x.text (tables_of x.words) p row t → (b : Bool) → waits (service p) w.line s ≡ b
          → (on_open (service p) w (step s) t b).0 ≡ refuse n → ⊥
      by_line t o true i q = omega (arith, waits_phase x p w rep s i)
      by_line t o false i q = by_run t t.running o.now q

      by_slot : (z : Slot (service p)) → SlotRep x.text (tables_of x.words) p row z → (on_slot (service p) w (step s) z).0 ≡ refuse n → ⊥
      by_slot closed o q = omega (arith, ap phase_of o, blank_word 0)
      by_slot (opened t) o q = by_line t o (waits (service p) w.line s) refl q

-- So "nothing open" is that each phase is 0, and that each slot of the world is closed.
module _ (x : Lent) (p : Program) (w : World (service p)) (rep : Rep x p w) where
  pub nothing_open : NothingOpen x → (s : ℕ) → s < 8 → w.slots s ≡ closed
  nothing_open shut s h = closed_slot x p w rep s h (shut s h)

  pub all_closed : ((s : ℕ) → s < 8 → w.slots s ≡ closed) → NothingOpen x
  all_closed shut s h = slot_closed x p w rep s h (shut s h)

  pub nothing_phased : NothingOpen x → (s : ℕ) → s < 8 → phase_of (row_of x.words s) ≡ 0
  nothing_phased shut s h = answers_phase x p w rep s h (shut s h)

  pub phases_closed : ((s : ℕ) → s < 8 → phase_of (row_of x.words s) ≡ 0) → NothingOpen x
  phases_closed shut s h = phase_answers x p w rep s h (shut s h)
