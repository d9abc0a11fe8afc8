-- A waiting send starts (02, Ticket 7): a send that leaves the line, its slot not aborted, runs from its start.
use Rattle.std.specs.Prelude.{ℕ, ◌≡◌, refl, ◌⊎◌, true, false, not, eqb}
use Rattle.std.proofs.Common.{arith, sym, ap, ◌∙◌, subst, inl, inr, true≢false, eq-eqb, ne_eqb}
use Rattle.std.proofs.Math.Option.{some}
use mathlib.Core.List.Memᴰ
use mathlib.Core.List.{List, [], ◌∷◌, ◌++◌, Memᴰ}
use Rattle.model.specs.Service.{Service, Call, send, abort, Answer, Transaction, opened, Waiter, World, fresh, waits, queued, started, wake, closed_over, without, ended, held, in_the_way, call, Course, start_course, fed}
use Rattle.laws.specs.Basics.{All, put_same, put_other}
use Rattle.laws.specs.Lists.{member_any, keep_in}
use Rattle.twophase.specs.Claims.{both}
use Rattle.twophase.specs.Laws.{Laws}
use Rattle.twophase.specs.Order.{sub_keep}
use Rattle.twophase.specs.Moves.{Move, refused, closes_circle, joins, starts, goes_on, replies, halts, commits, aborts, moves}
use Rattle.twophase.specs.Line.{Once, once_sub, wake_by}
use Rattle.twophase.specs.Theorem.{Known, call_keeps, start_known, both_keeps}
use Rattle.twophase.specs.Waiting.{Sometime, Leaves, Closes, line_kept}

module _ (𝓢 : Service) where
  open 𝓢 use {Fields, Request, Message, find, begun}

  -- The send's slot is open, and its message is at its start.
  pub record Runs (w : World 𝓢) (v : Waiter 𝓢) : Type 0 where
    pub transaction : Transaction 𝓢
    pub is_open : w.slots v.slot ≡ opened transaction
    pub runs : transaction.running ≡ some (begun v.message)

  -- "A waiting send starts no later than the call that ends the last transaction it clashes with among those holding locks or ahead in
  -- line": a send that joins the line has started once each slot that it clashed with then has closed, unless its own slot aborts.
  abbrev pub StartsInTime : World 𝓢 → Type 0
  StartsInTime w = (s : ℕ) (q : Request) (m : Message) (k : ℕ) → find q ≡ some m → (call 𝓢 w (send s q)).0 ≡ held k
      → (cs : List (Call Request)) → All (λ c. c ≡ abort s → ⊥) cs
      → ((j : ℕ) → in_the_way 𝓢 w.slots w.line s m j ≡ true → Closes 𝓢 j (call 𝓢 w (send s q)).1 cs)
      → Sometime 𝓢 (λ z. Runs z (record { slot = s; message = m })) (call 𝓢 w (send s q)).1 cs

  -- A send that still waits after its turn in a waking, or has not had it, or has started.
  data Turned (v : Waiter 𝓢) (w : World 𝓢) (vs : List (Waiter 𝓢)) : Type 0 where
    waiting : Memᴰ v w.line → Turned v w vs
    next : Memᴰ v vs → Once 𝓢 vs → Turned v w vs
    running : Runs w v → ((u : Waiter 𝓢) → Memᴰ u vs → u.slot ≡ v.slot → ⊥) → Turned v w vs

  started_runs : (w : World 𝓢) (v u : Waiter 𝓢) → v ≡ u → Runs (started 𝓢 w u.slot u.message) v
  started_runs w v u e = subst (λ z. Runs (started 𝓢 w u.slot u.message) z) (sym e)
      (record { transaction = _; is_open = put_same w.slots u.slot _; runs = refl })

  woken_turned : (v : Waiter 𝓢) (vs : List (Waiter 𝓢)) (w : World 𝓢) → Turned v w vs → Turned v (wake 𝓢 w vs) []
  woken_turned v vs w =
      wake_by 𝓢 (Turned v) (λ w u us k e t. stay w u us t) (λ w u us e t. start w u us t) vs w
    where
      stay : (w : World 𝓢) (u : Waiter 𝓢) (us : List (Waiter 𝓢)) → Turned v w (u ∷ us) → Turned v (queued 𝓢 w u) us
      stay w u us (waiting i) = waiting (Memᴰ.append_left (u ∷ []) i)
      stay w u us (next (Memᴰ.head e) o) = waiting (Memᴰ.append_right w.line (Memᴰ.head e))
      stay w u us (next (Memᴰ.tail i) o) = next i o.1
      stay w u us (running r away) =
          running (record { transaction = r.transaction; is_open = r.is_open; runs = r.runs }) (λ z i. away z (Memᴰ.tail i))

      start : (w : World 𝓢) (u : Waiter 𝓢) (us : List (Waiter 𝓢)) → Turned v w (u ∷ us) → Turned v (started 𝓢 w u.slot u.message) us
      start w u us (waiting i) = waiting i
      start w u us (next (Memᴰ.head e) o) = running (started_runs w v u e) (λ z i q. o.0 z i (q ∙ ap (λ y. y.slot) e))
      start w u us (next (Memᴰ.tail i) o) = next i o.1
      start w u us (running r away) =
          running (record {
            transaction = r.transaction;
            is_open = put_other w.slots u.slot _ v.slot (λ q. away u (Memᴰ.head refl) (sym q)) ∙ r.is_open;
            runs = r.runs;
          })
          (λ z i. away z (Memᴰ.tail i))

  -- It waits, or it runs.
  abbrev pub WaitsOrRuns : World 𝓢 → Waiter 𝓢 → Type 0
  WaitsOrRuns w v = Memᴰ v w.line ⊎ Runs w v

  turned_end : (v : Waiter 𝓢) (w : World 𝓢) → Turned v w [] → WaitsOrRuns w v
  turned_end v w (waiting i) = inl i
  turned_end v w (next i o) = absurd (Memᴰ.not-nil i)
  turned_end v w (running r away) = inr r

  -- The end of another slot's transaction.
  ended_turned : (w : World 𝓢) (s : ℕ) (F : Fields) (v : Waiter 𝓢) → Once 𝓢 w.line → Memᴰ v w.line → (v.slot ≡ s → ⊥)
      → WaitsOrRuns (ended 𝓢 w s F) v
  ended_turned w s F v once i ne =
      turned_end v (ended 𝓢 w s F) (woken_turned v (without 𝓢 s w.line) (closed_over 𝓢 w s F)
      (next (keep_in (λ u. not (eqb u.slot s)) w.line i (ap not (ne_eqb v.slot s ne)))
      (once_sub 𝓢 (sub_keep (λ u. not (eqb u.slot s)) w.line) once)))

module _ (𝓢 : Service) (𝓛 : Laws 𝓢) where
  open 𝓢 use {Fields, Request, Message, find}
  open 𝓛 use {Ok}

  -- A call leaves a waiting send in line or starts it, unless it is an abort of its slot.
  one_call : (w : World 𝓢) → Once 𝓢 w.line → (v : Waiter 𝓢) → Memᴰ v w.line → (c : Call Request) → (c ≡ abort v.slot → ⊥)
      → WaitsOrRuns 𝓢 (call 𝓢 w c).1 v
  one_call w once v i c ne = go (moves 𝓢 w c) ne
    where
      other : (s : ℕ) → waits 𝓢 w.line s ≡ false → v.slot ≡ s → ⊥
      other s still e = true≢false (sym (member_any (λ (u : Waiter 𝓢). eqb u.slot s) i (eq-eqb v.slot s e)) ∙ still)

      go : {c : Call Request} {y : Answer × World 𝓢} → Move 𝓢 w c y → (c ≡ abort v.slot → ⊥) → WaitsOrRuns 𝓢 y.1 v
      go (refused c n g l) ne = inl i
      go (closes_circle s q m k a e o b) ne = inl i
      go (joins s q m k a e o b) ne = inl (Memᴰ.append_left (record { slot = s; message = m } ∷ []) i)
      go (starts s q m a o) ne = inl i
      go (goes_on s y r r' e a t) ne = inl i
      go (replies s y r n e a t) ne = inl i
      go (halts s y r a t) ne = ended_turned 𝓢 w s _ v once i (other s a.still)
      go (commits s y below o still n) ne = ended_turned 𝓢 w s _ v once i (other s still)
      go (aborts s y below o) ne = ended_turned 𝓢 w s _ v once i (λ e. ne (ap abort (sym e)))

  -- A slot with a send in line waits.
  still_waits : (w : World 𝓢) (v : Waiter 𝓢) → Memᴰ v w.line → waits 𝓢 w.line v.slot ≡ false → ⊥
  still_waits w v i l = true≢false (sym (member_any (λ (u : Waiter 𝓢). eqb u.slot v.slot) i (eq-eqb v.slot v.slot refl)) ∙ l)

  -- So a send that leaves the line has started.
  leaves_runs : (cs : List (Call Request)) (w : World 𝓢) (x : Course 𝓢) → Known 𝓢 𝓛 w x → (v : Waiter 𝓢) → Memᴰ v w.line
      → All (λ c. c ≡ abort v.slot → ⊥) cs → Leaves 𝓢 v.slot w cs → Sometime 𝓢 (λ z. Runs 𝓢 z v) w cs
  leaves_runs [] w x g v i away l = absurd (still_waits w v i l)
  leaves_runs (c ∷ cs) w x g v i away (inl l) = absurd (still_waits w v i l)
  leaves_runs (c ∷ cs) w x g v i away (inr l) =
      let y = call 𝓢 w c in
      inr (go (λ j. leaves_runs cs y.1 (fed 𝓢 x c y.0) (call_keeps 𝓢 𝓛 w x g c).0 v j away.1 l)
      (one_call w g.once v i c away.0))
    where
      w' : World 𝓢
      w' = (call 𝓢 w c).1

      first : (ds : List (Call Request)) → Runs 𝓢 w' v → Sometime 𝓢 (λ z. Runs 𝓢 z v) w' ds
      first [] r = r
      first (d ∷ ds) r = inl r

      go : (Memᴰ v w'.line → Sometime 𝓢 (λ z. Runs 𝓢 z v) w' cs) → WaitsOrRuns 𝓢 w' v → Sometime 𝓢 (λ z. Runs 𝓢 z v) w' cs
      go rec (inl j) = rec j
      go rec (inr r) = first cs r

  -- After any list of calls each send that joins the line starts in time.
  pub starts_in_time : (F : Fields) → Ok F → (before : List (Call Request)) → StartsInTime 𝓢 (both 𝓢 (fresh 𝓢 F) (start_course 𝓢 F) before).0
  starts_in_time F ok before s q m k f a cs away ends =
      let y = both 𝓢 (fresh 𝓢 F) (start_course 𝓢 F) before in
      let g = both_keeps 𝓢 𝓛 (fresh 𝓢 F) (start_course 𝓢 F) (start_known 𝓢 𝓛 F ok) before in
      leaves_runs cs (call 𝓢 y.0 (send s q)).1 (fed 𝓢 y.1 (send s q) (call 𝓢 y.0 (send s q)).0) (call_keeps 𝓢 𝓛 y.0 y.1 g (send s q)).0
      (record { slot = s; message = m }) (joins_line y.0 s q m k f a) away ((line_kept 𝓢 𝓛 F ok before).in_time s q m k f a cs ends)
    where
      joins_line : (w : World 𝓢) (s : ℕ) (q : Request) (m : Message) (k : ℕ) → find q ≡ some m → (call 𝓢 w (send s q)).0 ≡ held k
          → Memᴰ (record { slot = s; message = m }) (call 𝓢 w (send s q)).1.line
      joins_line w s q m k f d = go (moves 𝓢 w (send s q)) d
        where
          go : {y : Answer × World 𝓢} → Move 𝓢 w (send s q) y → y.0 ≡ held k → Memᴰ (record { slot = s; message = m }) y.1.line
          go (refused c₀ n r l) d = absurd (let z : ◌≡◌ {A = ℕ} 0 1 = cc in omega arith)
          go (closes_circle s₀ q₀ m' k' a h o b) d = absurd (let z : ◌≡◌ {A = ℕ} 0 1 = cc in omega arith)
          go (starts s₀ q₀ m' a h) d = absurd (let z : ◌≡◌ {A = ℕ} 0 1 = cc in omega arith)
          go (joins s₀ q₀ m' k' a h o b) d =
              let same : m' ≡ m = (let f' = a.found in cc) in
              subst (λ n. Memᴰ (record { slot = s; message = n }) (w.line ++ (record { slot = s; message = m' } ∷ []))) same
              (Memᴰ.append_right w.line (Memᴰ.head refl))
