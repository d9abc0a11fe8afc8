-- Ticket 7 over what the entries answered and left: what is promised of the line, after any list of calls.
use Rattle.std.specs.Prelude.{ℕ, ◌≤◌, ◌<◌, ◌≡◌, refl, ◌⊎◌, Bool, true, false, not, ◌&&◌, eqb, ltb}
use Rattle.std.proofs.Common.{arith, sym, ap, subst, ◌∙◌, inl, inr, ⊎_elim, true≢false, eqb-true, ltb-true}
use Rattle.std.proofs.Math.Decide.{dec_lt, ℕ_discrete}
use Rattle.std.proofs.Math.Option.{some}
use mathlib.Core.List.{List, map, Memᴰ}
use Rattle.model.specs.Base.{any}
use Rattle.model.specs.Read.{library}
use Rattle.model.specs.Vector.{Program}
use Rattle.model.specs.Message.{Message, begun}
use Rattle.model.specs.Service.{held, Slot, closed, opened, World, Waiter, fresh, held_by, waits, in_the_way, in_range, start_course}
use Rattle.model.specs.Lock.{locks_for, locks_clash}
use Rattle.model.specs.Machine.{Call, Request, send, abort, service, find, call}
use Rattle.laws.specs.Basics.{All}
use Rattle.laws.specs.Lists.{both_left, both_right, either_cases, any_member}
use Rattle.twophase.specs.Laws.{Laws}
use Rattle.twophase.specs.Line.{open_closed}
use Rattle.twophase.specs.Theorem.{start_known, both_keeps}
use Rattle.twophase.specs.Waiting.{Promised}
use Rattle.twophase.specs.Waiting as Model
use Rattle.twophase.specs.InTime.{Runs}
use Rattle.vector_theory.specs.VectorLaws.{program_compiled}
use Rattle.theory.specs.ServiceLaws.{laws}
use Rattle.theory.specs.CommitOrder.{left, both_is}
use Rattle.theory.specs.Waiting.{line_promises, starts_promise}
use Rattle.machine_words.specs.Line.{count_in, first_in_line}
use Rattle.machine_words.specs.Calls.{Lent, tables_of, row_of, phase_of}
use Rattle.machine_refinement.specs.Rep.{run_of, NowRep, SlotRep, settled, Rep}
use Rattle.machine_refinement.specs.State.{row_size}
use Rattle.machine_refinement.specs.WaitRows.{withdrawn_phase, settled_ready, settled_waits}
use Rattle.machine_words.specs.Said.{CallResult, told}
use Rattle.model.specs.Told as Entry
use Rattle.cishmolaq.specs.Answers.{Done, said_done, Begins}
use Rattle.cishmolaq.specs.Promises.{Does}
use Rattle.guarantees.specs.Made.{Made, none, then}
use Rattle.guarantees.specs.Open.{ClosedIn, OpenIn, WaitingIn, closed_slot, slot_closed, waiting_slot, phase_waits, waits_phase}
use Rattle.guarantees.specs.PlainCourse.{program_of, made_rep}

-- ---- moments of a list of calls

-- P holds of what is lent before the calls or after one of them.
abbrev pub Sometime : {x y : Lent} {cs : List Call} {rs : List CallResult} → (Lent → Type 0) → Made x cs rs y → Type 0
Sometime P (none {x = x}) = P x
Sometime P (then {x = x} d m) = P x ⊎ Sometime P m

-- Slot j is closed at some moment, and slot s does not wait at some moment.
abbrev pub Closes : {x y : Lent} {cs : List Call} {rs : List CallResult} → ℕ → Made x cs rs y → Type 0
Closes j m = Sometime (λ l. ClosedIn l j) m

abbrev pub Leaves : {x y : Lent} {cs : List Call} {rs : List CallResult} → ℕ → Made x cs rs y → Type 0
Leaves s m = Sometime (λ l. WaitingIn l s → ⊥) m

-- The moments of what is lent are those of the worlds that it represents.
module _ (p : Program) (P : World (service p) → Type 0) (Q : Lent → Type 0) where
  to_world : ((x : Lent) (w : World (service p)) → Rep x p w → Q x → P w)
      → {x y : Lent} {cs : List Call} {rs : List CallResult} (m : Made x cs rs y)
      (w : World (service p)) → Rep x p w → Sometime Q m → Model.Sometime (service p) P w cs
  to_world f (none {x = x}) w rep h = f x w rep h
  to_world f (then {x = x} d m) w rep (inl h) = inl (f x w rep h)
  to_world f (then {c = c} d m) w rep (inr h) = inr (to_world f m (call p w c).1 (d.next p w rep) h)

  from_world : ((x : Lent) (w : World (service p)) → Rep x p w → P w → Q x)
      → {x y : Lent} {cs : List Call} {rs : List CallResult} (m : Made x cs rs y)
      (w : World (service p)) → Rep x p w → Model.Sometime (service p) P w cs → Sometime Q m
  from_world f (none {x = x}) w rep h = f x w rep h
  from_world f (then {x = x} d m) w rep (inl h) = inl (f x w rep h)
  from_world f (then {c = c} d m) w rep (inr h) = inr (from_world f m (call p w c).1 (d.next p w rep) h)

-- ---- who runs

-- A message runs in slot s, and it is this one, at its start.
pub record Starting (p : Program) (s : ℕ) (m : Message) (x : Lent) : Type 0 where
  pub phase : phase_of (row_of x.words s) ≡ 2
  pub run : run_of x.text p (row_of x.words s) ≡ begun p m

-- It is so where it is so in the world that the words represent.
runs_starting : (x : Lent) (p : Program) (w : World (service p)) → Rep x p w → (s : ℕ) → s < 8 → (m : Message)
    → Runs (service p) w (record { slot = s; message = m }) → Starting p s m x
runs_starting x p w rep s h m r = go (ℕ_discrete (phase_of (row_of x.words s)) 3)
  where
    row : List ℕ
    row = row_of x.words s

    stands : SlotRep x.text (tables_of x.words) p (settled row) (opened r.transaction)
    stands = subst (SlotRep x.text (tables_of x.words) p (settled row)) r.is_open (rep.slots s h)

    now : NowRep x.text (tables_of x.words) p (settled row) (some (begun p m))
    now = subst (NowRep x.text (tables_of x.words) p (settled row)) r.runs stands.now

    go : Dec (phase_of row ≡ 3) → Starting p s m x
    go (no ne) =
        let same = settled_ready row ne in
        record { phase = sym (ap phase_of same) ∙ now.0; run = ap (run_of x.text p) (sym same) ∙ sym now.1 }
    go (yes e) = absurd (omega (arith, now.0, ap phase_of (settled_waits row e), withdrawn_phase row (row_size x p w rep s h)))

-- ---- the promises

-- What Ticket 7 promises of the line that a list of calls after a start on `values` left.
pub record InLine (text values : List ℕ) (cs : List Call) (z : Lent) : Type 0 where
  -- the words represent the model's world after the calls ..
  pub stands : Rep z (program_of text) (left (program_of text) values cs)
  -- .. they have its line, "in order of arrival" ..
  pub places : first_in_line z.words (count_in z.words) ≡ map (λ (v : Waiter (service (program_of text))). v.slot) (left (program_of text) values cs).line
  -- .. and the slots whose phase is 3 are those that wait in it.
  pub in_line : (s : ℕ) → s < 8 → phase_of (row_of z.words s) ≡ 3 → waits (service (program_of text)) (left (program_of text) values cs).line s ≡ true
  pub has_phase : (s : ℕ) → waits (service (program_of text)) (left (program_of text) values cs).line s ≡ true → phase_of (row_of z.words s) ≡ 3
  -- What is promised of that line: nothing waits that could start, each send starts in time, and none is overtaken.
  pub promised : Promised (service (program_of text)) (left (program_of text) values cs)
  -- "A waiting send starts no later than the call that ends the last transaction it clashes with among those holding locks or ahead in
  -- line", by the answers: a send with 40 waits no more once each slot that it clashed with has closed ..
  pub in_time : (s : ℕ) (q : Request) (m : Message) (k : ℕ) → find (program_of text) q ≡ some m
      → {r : CallResult} {z₁ : Lent} → Does z (send s q) r z₁ → told r ≡ held k
      → {ds : List Call} {rs : List CallResult} {z₂ : Lent} (more : Made z₁ ds rs z₂)
      → ((j : ℕ) → j < 8 → in_the_way (service (program_of text)) (left (program_of text) values cs).slots (left (program_of text) values cs).line s m j ≡ true → Closes j more)
      → Leaves s more
  -- .. and its message is at its start by then, unless its slot aborts.
  pub starts_in_time : (s : ℕ) (q : Request) (m : Message) (k : ℕ) → find (program_of text) q ≡ some m
      → {r : CallResult} {z₁ : Lent} → Does z (send s q) r z₁ → told r ≡ held k
      → {ds : List Call} {rs : List CallResult} {z₂ : Lent} (more : Made z₁ ds rs z₂) → All (λ c. c ≡ abort s → ⊥) ds
      → ((j : ℕ) → j < 8 → in_the_way (service (program_of text)) (left (program_of text) values cs).slots (left (program_of text) values cs).line s m j ≡ true → Closes j more)
      → Sometime (Starting (program_of text) s m) more
  -- "whenever some transaction is open, at least one isn't waiting" (02, Ticket 8), by the answers.
  pub goes_on : (t : ℕ) → OpenIn z t → (s : ℕ) × OpenIn z s × (WaitingIn z s → ⊥)

module _ (text values : List ℕ) (cs : List Call) where
  abbrev p : Program
  p = program_of text

  abbrev w : World (service p)
  w = left p values cs

  -- A slot that a send clashes with is one of the eight.
  way_below : (s : ℕ) (m : Message) (j : ℕ) → ((v : Waiter (service p)) → Memᴰ v w.line → v.slot < 8)
      → in_the_way (service p) w.slots w.line s m j ≡ true → j < 8
  unfolding laws
  way_below s m j low e = go (dec_lt j 8)
    where
      𝓛 : Laws (service p)
      𝓛 = laws p (program_compiled (library text))

      high : 8 ≤ j → w.slots j ≡ closed
      high g =
          ap (λ y. y.0.slots j) (sym (both_is (service p) (fresh (service p) values) (start_course (service p) values) cs))
          ∙ (both_keeps (service p) 𝓛 (fresh (service p) values) (start_course (service p) values) (start_known (service p) 𝓛 values tt) cs).inv.high j g

      clashing : Bool
      clashing = locks_clash p (locks_for p m.target m.method) (held_by (service p) (w.slots j))

      by_line : any (λ (v : Waiter (service p)). eqb v.slot j && (service p).meets m v.message) w.line ≡ true → j < 8
      by_line a =
          let (v, i, b) = any_member (λ (v : Waiter (service p)). eqb v.slot j && (service p).meets m v.message) w.line a in
          omega (arith, low v i, eqb-true v.slot j (both_left (eqb v.slot j) ((service p).meets m v.message) b))

      by_lock : 8 ≤ j → clashing ≡ true → ⊥
      by_lock g c = true≢false (sym c ∙ ap (λ (z : Slot (service p)). (service p).clash m (held_by (service p) z)) (high g) ∙ 𝓛.clash_none m)

      go : Dec (j < 8) → j < 8
      go (yes h) = h
      go (no h) = ⊎_elim (λ c. absurd (by_lock (omega arith) c)) by_line (either_cases clashing _ (both_right (not (eqb j s)) _ e))

  -- A send that is answered 40 is by one of the eight slots.
  held_below : (s : ℕ) (q : Request) (k : ℕ) → (call p w (send s q)).0 ≡ held k → s < 8
  held_below s q k e = go (ltb s 8) refl e
    where
      go : (b : Bool) → ltb s 8 ≡ b → (in_range (service p) w (send s q) b).0 ≡ held k → s < 8
      go true h a = ltb-true s 8 h
      go false h a = absurd (let z : ◌≡◌ {A = ℕ} 0 1 = cc in omega arith)

-- It is so after any list of calls.
pub line_seen : (x : Lent) (r : Done) (y : Lent) → Begins x r y → said_done r ≡ Entry.done 0 → {cs : List Call} {rs : List CallResult} {z : Lent} → Made y cs rs z
    → InLine y.text y.values cs z
line_seen x r y begins e {cs} {rs} {z} made =
    record {
      stands = rep;
      places = rep.places;
      in_line = λ s h. phase_waits z p₀ w₀ rep s h;
      has_phase = λ s. waits_phase z p₀ w₀ rep s;
      promised = promised;
      in_time = λ s q m k f d a {ds} more clashing.
          let says : (call p₀ w₀ (send s q)).0 ≡ held k = sym (d.says p₀ w₀ rep) ∙ a in
          let low = held_below text values cs s q k says in
          from_world p₀ (λ u. waits (service p₀) u.line s ≡ false) (λ l. WaitingIn l s → ⊥)
          (λ l u t n b. true≢false (sym (waiting_slot l p₀ u t s low b) ∙ n)) more (call p₀ w₀ (send s q)).1 (d.next p₀ w₀ rep)
          (promised.in_time s q m k f says ds (ends s m more (call p₀ w₀ (send s q)).1 (d.next p₀ w₀ rep) clashing));
      starts_in_time = λ s q m k f d a {ds} more away clashing.
          let says : (call p₀ w₀ (send s q)).0 ≡ held k = sym (d.says p₀ w₀ rep) ∙ a in
          let low = held_below text values cs s q k says in
          from_world p₀ (λ u. Runs (service p₀) u (record { slot = s; message = m })) (Starting p₀ s m)
          (λ l u t. runs_starting l p₀ u t s low m) more (call p₀ w₀ (send s q)).1 (d.next p₀ w₀ rep)
          (starts_promise text values cs s q m k f says ds away (ends s m more (call p₀ w₀ (send s q)).1 (d.next p₀ w₀ rep) clashing));
      goes_on = λ t o. by_slot t (w₀.slots t) refl (λ c. o.1 (slot_closed z p₀ w₀ rep t o.0 c));
    }
  where
    text : List ℕ
    text = y.text

    values : List ℕ
    values = y.values

    p₀ : Program
    p₀ = program_of text

    w₀ : World (service p₀)
    w₀ = left p₀ values cs

    rep : Rep z p₀ w₀
    rep = made_rep x r y begins e made

    promised : Promised (service p₀) w₀
    promised = line_promises text values cs

    -- Each slot that the send clashed with closes in the world, where it does by the answers.
    ends : (s : ℕ) (m : Message) {x₁ x₂ : Lent} {ds : List Call} {ss : List CallResult} (more : Made x₁ ds ss x₂) (w₁ : World (service p₀)) → Rep x₁ p₀ w₁
        → ((j : ℕ) → j < 8 → in_the_way (service p₀) w₀.slots w₀.line s m j ≡ true → Closes j more)
        → (j : ℕ) → in_the_way (service p₀) w₀.slots w₀.line s m j ≡ true → Model.Closes (service p₀) j w₁ ds
    ends s m more w₁ next clashing j way =
        let few = way_below text values cs s m j rep.below way in
        to_world p₀ (λ u. u.slots j ≡ closed) (λ l. ClosedIn l j) (λ l u t. closed_slot l p₀ u t j few) more w₁ next (clashing j few way)

    by_slot : (t : ℕ) (u : Slot (service p₀)) → w₀.slots t ≡ u → (w₀.slots t ≡ closed → ⊥) → (s : ℕ) × OpenIn z s × (WaitingIn z s → ⊥)
    by_slot t closed e o = absurd (o e)
    by_slot t (opened u) e o =
        let (s, is, still) = promised.someone_goes_on t u e in (
          s,
          (is.2, λ c. open_closed (service p₀) is.0 (sym is.1 ∙ closed_slot z p₀ w₀ rep s is.2 c)),
          λ b. true≢false (sym (waiting_slot z p₀ w₀ rep s is.2 b) ∙ still),
        )
