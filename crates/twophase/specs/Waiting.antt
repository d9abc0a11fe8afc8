-- What is promised of the line (02, Tickets 7 and 8): nothing waits that could start, each send starts in time, none is overtaken, and
-- the waits have no circle.
use Rattle.std.specs.Prelude.{ℕ, ◌<◌, ◌≡◌, refl, ◌⊎◌, Bool, true, false}
use Rattle.std.proofs.Common.{arith, sym, ap, ◌∙◌, subst, inl, inr, true≢false}
use Rattle.std.proofs.lemmas.Bool.{false≢true}
use Rattle.std.proofs.Math.Option.{none, some}
use mathlib.Core.List.Memᴰ
use mathlib.Core.List.{List, [], ◌∷◌, ◌++◌, Memᴰ}
use Rattle.model.specs.Service.{Service, Call, send, step, commit, abort, Answer, done, going, answer, refuse, held, stopped, Transaction, closed, opened, Waiter, World, fresh, standing, held_by, waits, in_the_way, obstacle, joined, waits_for, slot_of, call, Course, start_course, fed}
use Rattle.laws.specs.Basics.{All}
use Rattle.twophase.specs.Claims.{both}
use Rattle.twophase.specs.Laws.{Laws}
use Rattle.twophase.specs.Order.{Before, before_in, before_across, before_append, before_tail}
use Rattle.twophase.specs.Circles.{Leads}
use Rattle.twophase.specs.Line.{Blocks, blocks_way, blocks_as, same_held, once_same, ended_closed}
use Rattle.twophase.specs.Waking.{no_send}
use Rattle.twophase.specs.Moves.{Move, refused, closes_circle, joins, starts, goes_on, replies, halts, commits, aborts, moves}
use Rattle.twophase.specs.Theorem.{Known, Next, call_keeps, start_known, both_keeps}
use Rattle.twophase.specs.Deadlock.{NoCircle, Unblocked, only_circles, circle_same, blocks_open, waiter_of, Stayed, stayed, stays_clear, start_clear, every_circle, not_on_closed, someone_goes_on}

module _ (𝓢 : Service) where
  open 𝓢 use {Request, Message, meets, find, holds}

  -- ---- the end of a transaction

  abbrev is_done : Answer → Bool
  is_done done = true
  is_done going = false
  is_done (answer v) = false
  is_done (refuse n) = false
  is_done (held k) = false
  is_done stopped = false

  abbrev is_stopped : Answer → Bool
  is_stopped done = false
  is_stopped going = false
  is_stopped (answer v) = false
  is_stopped (refuse n) = false
  is_stopped (held k) = false
  is_stopped stopped = true

  -- Whether a call with this answer ends a transaction: a commit or an abort that is done, a step that is stopped.
  abbrev pub ended_by : Call Request → Answer → Bool
  ended_by (send s q) a = false
  ended_by (step s) a = is_stopped a
  ended_by (commit s) a = is_done a
  ended_by (abort s) a = is_done a

  -- It leaves the slot closed.
  pub closes_slot : (w : World 𝓢) (c : Call Request) → ended_by c (call 𝓢 w c).0 ≡ true → (call 𝓢 w c).1.slots (slot_of 𝓢 c) ≡ closed
  closes_slot w c = go (moves 𝓢 w c)
    where
      refusal : (c : Call Request) (n : ℕ) → ended_by c (refuse n) ≡ true → ⊥
      refusal (send s q) n e = false≢true e
      refusal (step s) n e = false≢true e
      refusal (commit s) n e = false≢true e
      refusal (abort s) n e = false≢true e

      go : {c : Call Request} {y : Answer × World 𝓢} → Move 𝓢 w c y → ended_by c y.0 ≡ true → y.1.slots (slot_of 𝓢 c) ≡ closed
      go (refused c n h l) e = absurd (refusal c n e)
      go (closes_circle s q m k a h o b) e = absurd (false≢true e)
      go (joins s q m k a h o b) e = absurd (false≢true e)
      go (starts s q m a h) e = absurd (false≢true e)
      go (goes_on s y r r' f a v) e = absurd (false≢true e)
      go (replies s y r n f a v) e = absurd (false≢true e)
      go (halts s y r a v) e = ended_closed 𝓢 w s _
      go (commits s y below o still n) e = ended_closed 𝓢 w s _
      go (aborts s y below o) e = ended_closed 𝓢 w s _

  -- ---- moments

  -- P holds before the calls or after one of them.
  abbrev pub Sometime : (World 𝓢 → Type 0) → World 𝓢 → List (Call Request) → Type 0
  Sometime P w [] = P w
  Sometime P w (c ∷ cs) = P w ⊎ Sometime P (call 𝓢 w c).1 cs

  -- Slot j is closed at some moment, and slot s does not wait at some moment.
  abbrev pub Closes : ℕ → World 𝓢 → List (Call Request) → Type 0
  Closes j = Sometime (λ z. z.slots j ≡ closed)

  abbrev pub Leaves : ℕ → World 𝓢 → List (Call Request) → Type 0
  Leaves s = Sometime (λ z. waits 𝓢 z.line s ≡ false)

  -- P holds before the calls and after each of them.
  abbrev pub Throughout : (World 𝓢 → Type 0) → World 𝓢 → List (Call Request) → Type 0
  Throughout P w [] = P w
  Throughout P w (c ∷ cs) = P w × Throughout P (call 𝓢 w c).1 cs

  now : (P : World 𝓢 → Type 0) (w : World 𝓢) (cs : List (Call Request)) → P w → Sometime P w cs
  now P w [] h = h
  now P w (c ∷ cs) h = inl h

  always_now : (P : World 𝓢 → Type 0) (w : World 𝓢) (cs : List (Call Request)) → Throughout P w cs → P w
  always_now P w [] h = h
  always_now P w (c ∷ cs) h = h.0

  -- The world after the calls.
  abbrev pub later : World 𝓢 → List (Call Request) → World 𝓢
  later w [] = w
  later w (c ∷ cs) = later (call 𝓢 w c).1 cs

  -- ---- the promises

  -- What is promised of the line of a world.
  pub record Promised (w : World 𝓢) : Type 0 where
    -- each waiting send is blocked: by a lock of another slot, or by a send of another slot ahead of it
    pub none_could_start : (v : Waiter 𝓢) → Memᴰ v w.line → (k : ℕ) × (k < 8) × Blocks 𝓢 w.slots w.line v k
    -- a send that joins the line has left it once each slot that it clashed with then has closed
    pub in_time : (s : ℕ) (q : Request) (m : Message) (k : ℕ) → find q ≡ some m → let (a, w') = call 𝓢 w (send s q) in a ≡ held k
        → (cs : List (Call Request)) → ((j : ℕ) → in_the_way 𝓢 w.slots w.line s m j ≡ true → Closes j w' cs)
        → Leaves s w' cs
    -- a send that clashes with a waiting send of another slot, and needs a lock that its slot has not, is not granted ..
    pub not_granted : (s : ℕ) (q : Request) (m : Message) → find q ≡ some m → (v : Waiter 𝓢) → Memᴰ v w.line → (v.slot ≡ s → ⊥)
        → meets m v.message ≡ true → holds m (held_by 𝓢 (w.slots s)) ≡ false → (call 𝓢 w (send s q)).0 ≡ done → ⊥
    -- .. it joins the line behind that send ..
    pub joins_behind : (s : ℕ) (q : Request) (m : Message) (k : ℕ) → find q ≡ some m → let (a, w') = call 𝓢 w (send s q) in a ≡ held k
        → (v : Waiter 𝓢) → Memᴰ v w.line → Before v (record { slot = s; message = m }) w'.line
    -- .. and is behind it as long as that send waits, unless its own slot aborts
    pub not_overtaken : (v u : Waiter 𝓢) → Before v u w.line → meets u.message v.message ≡ true → (cs : List (Call Request))
        → All (λ c. c ≡ abort u.slot → ⊥) cs → Throughout (λ z. Memᴰ v z.line) w cs → Before v u (later w cs).line
    -- no circle of waits; so where some transaction is open, some open slot does not wait
    pub no_circle : NoCircle 𝓢 w
    pub someone_goes_on : (t : ℕ) (y : Transaction 𝓢) → w.slots t ≡ opened y → Unblocked 𝓢 w
    -- 42 is given only for a send by which its slot would wait for itself, and for every one: a send that joins the line does not ..
    pub only_circles : (s : ℕ) (q : Request) → (call 𝓢 w (send s q)).0 ≡ refuse 42
        → (m : Message) × (find q ≡ some m) × Leads (waits_for 𝓢 (joined 𝓢 w s m)) s s
    pub every_circle : (s : ℕ) (q : Request) (k : ℕ) → let (a, w') = call 𝓢 w (send s q) in a ≡ held k → Leads (waits_for 𝓢 w') s s → ⊥
    -- .. it changes nothing, and is never given for a send of a closed slot
    pub circle_same : (s : ℕ) (q : Request) → let (a, w') = call 𝓢 w (send s q) in a ≡ refuse 42 → w' ≡ w
    pub not_on_closed : (s : ℕ) (q : Request) → w.slots s ≡ closed → (call 𝓢 w (send s q)).0 ≡ refuse 42 → ⊥

module _ (𝓢 : Service) (𝓛 : Laws 𝓢) where
  open 𝓢 use {Fields, Request, Message, clash, meets, find, holds}
  open 𝓛 use {Ok, clash_none}

  module _ (w : World 𝓢) (x : Course 𝓢) (g : Known 𝓢 𝓛 w x) where
    -- ---- no send is overtaken

    not_granted : (s : ℕ) (q : Request) (m : Message) → find q ≡ some m → (v : Waiter 𝓢) → Memᴰ v w.line → (v.slot ≡ s → ⊥)
        → meets m v.message ≡ true → holds m (held_by 𝓢 (w.slots s)) ≡ false → (call 𝓢 w (send s q)).0 ≡ done → ⊥
    not_granted s q m f v i ne c h = go (moves 𝓢 w (send s q))
      where
        free : (m' : Message) → m' ≡ m → (holds m' (held_by 𝓢 (w.slots s)) ≡ true) ⊎ (obstacle 𝓢 w s m' ≡ none) → ⊥
        free m' e (inl k) = true≢false (sym k ∙ ap (λ n. holds n (held_by 𝓢 (w.slots s))) e ∙ h)
        free m' e (inr o) = true≢false (sym c ∙ sym (ap (λ n. meets n v.message) e) ∙ no_send 𝓢 𝓛 w s m' o v i ne (g.each v i).below)

        go : {y : Answer × World 𝓢} → Move 𝓢 w (send s q) y → y.0 ≡ done → ⊥
        go (refused c₀ n r l) d = let z : ◌≡◌ {A = ℕ} 0 1 = cc in omega arith
        go (closes_circle s₀ q₀ m' k a h' o b) d = let z : ◌≡◌ {A = ℕ} 0 1 = cc in omega arith
        go (joins s₀ q₀ m' k a h' o b) d = let z : ◌≡◌ {A = ℕ} 0 1 = cc in omega arith
        go (starts s₀ q₀ m' a k) d = free m' (let f' = a.found in let z : ◌≡◌ {A = Message} m' m = cc in z) k

    joins_behind : (s : ℕ) (q : Request) (m : Message) (k : ℕ) → find q ≡ some m → let (a, w') = call 𝓢 w (send s q) in a ≡ held k
        → (v : Waiter 𝓢) → Memᴰ v w.line → Before v (record { slot = s; message = m }) w'.line
    joins_behind s q m k f d v i = go (moves 𝓢 w (send s q)) d
      where
        go : {y : Answer × World 𝓢} → Move 𝓢 w (send s q) y → y.0 ≡ held k → Before v (record { slot = s; message = m }) y.1.line
        go (refused c₀ n r l) d = absurd (let z : ◌≡◌ {A = ℕ} 0 1 = cc in omega arith)
        go (closes_circle s₀ q₀ m' k' a h o b) d = absurd (let z : ◌≡◌ {A = ℕ} 0 1 = cc in omega arith)
        go (starts s₀ q₀ m' a h) d = absurd (let z : ◌≡◌ {A = ℕ} 0 1 = cc in omega arith)
        go (joins s₀ q₀ m' k' a h o b) d =
            let same : m' ≡ m = (let f' = a.found in cc) in
            subst (λ n. Before v (record { slot = s; message = n }) (w.line ++ (record { slot = s; message = m' } ∷ []))) same
            (before_across w.line i (Memᴰ.head refl))

    one_call : (c : Call Request) (v u : Waiter 𝓢) → Before v u w.line → meets u.message v.message ≡ true → (c ≡ abort u.slot → ⊥)
        → Memᴰ v (call 𝓢 w c).1.line → Before v u (call 𝓢 w c).1.line
    one_call c v u b m ne i = go (stayed 𝓢 𝓛 w x g c (call_keeps 𝓢 𝓛 w x g c).1 v i)
      where
        go : Stayed 𝓢 𝓛 w x g c (call 𝓢 w c).1 v → Before v u (call 𝓢 w c).1.line
        go (inl s) = s.order u ne b m
        go (inr h) = absurd (h.1 v (before_in b).0 h.0)

  not_overtaken : (w : World 𝓢) (x : Course 𝓢) → Known 𝓢 𝓛 w x → (v u : Waiter 𝓢) → Before v u w.line → meets u.message v.message ≡ true
      → (cs : List (Call Request)) → All (λ c. c ≡ abort u.slot → ⊥) cs → Throughout 𝓢 (λ z. Memᴰ v z.line) w cs → Before v u (later 𝓢 w cs).line
  not_overtaken w x g v u b m [] away through = b
  not_overtaken w x g v u b m (c ∷ cs) away through =
      let y = call 𝓢 w c in
      not_overtaken y.1 (fed 𝓢 x c y.0) (call_keeps 𝓢 𝓛 w x g c).0 v u
      (one_call w x g c v u b m away.0 (always_now 𝓢 (λ z. Memᴰ v z.line) y.1 cs through.1)) m cs away.1 through.1

  -- ---- each send starts in time

  -- A send in the line leaves it once each slot that blocks it has closed.
  abbrev Blocked : World 𝓢 → List (Call Request) → Waiter 𝓢 → Type 0
  Blocked w cs v = Memᴰ v w.line → ((k : ℕ) → Blocks 𝓢 w.slots w.line v k → Closes 𝓢 k w cs) → Leaves 𝓢 v.slot w cs

  -- It does: some slot blocks it, and a call leaves it blocked by no more slots.
  leaves_line : (w : World 𝓢) (x : Course 𝓢) → Known 𝓢 𝓛 w x → (cs : List (Call Request)) (v : Waiter 𝓢) → Blocked w cs v
  leaves_line w x g [] v i h = let s = g.stuck v i in absurd (blocks_open 𝓢 𝓛 w x g v s.0 s.2 (h s.0 s.2))
  leaves_line w x g (c ∷ cs) v i h =
      let y = call 𝓢 w c in
      let k = call_keeps 𝓢 𝓛 w x g c in
      inr (go (waits 𝓢 y.1.line v.slot) refl k.0 k.1 (leaves_line y.1 (fed 𝓢 x c y.0) k.0 cs v))
    where
      wait : (k : ℕ) → Blocks 𝓢 w.slots w.line v k → (w.slots k ≡ closed) ⊎ Closes 𝓢 k (call 𝓢 w c).1 cs
          → Closes 𝓢 k (call 𝓢 w c).1 cs
      wait k b (inl q) = absurd (blocks_open 𝓢 𝓛 w x g v k b q)
      wait k b (inr q) = q

      still : (u : Waiter 𝓢) → Memᴰ u (call 𝓢 w c).1.line → u.slot ≡ v.slot → Stayed 𝓢 𝓛 w x g c (call 𝓢 w c).1 u
          → Blocked (call 𝓢 w c).1 cs v → Leaves 𝓢 v.slot (call 𝓢 w c).1 cs
      still u j q (inr n) rec = absurd (n.1 v i (sym q ∙ n.0))
      still u j q (inl s) rec =
          let e = once_same 𝓢 w.line g.once u v s.was i q in
          rec (subst (λ z. Memᴰ z (call 𝓢 w c).1.line) e j)
          (λ k b.
          let b' = subst (λ z. Blocks 𝓢 w.slots w.line z k) e
          (s.for_less k (subst (λ z. Blocks 𝓢 (call 𝓢 w c).1.slots (call 𝓢 w c).1.line z k) (sym e) b)) in
          wait k b' (h k b'))

      go : (b : Bool) → waits 𝓢 (call 𝓢 w c).1.line v.slot ≡ b → Known 𝓢 𝓛 (call 𝓢 w c).1 (fed 𝓢 x c (call 𝓢 w c).0)
          → Next 𝓢 𝓛 w c (call 𝓢 w c).1 → Blocked (call 𝓢 w c).1 cs v → Leaves 𝓢 v.slot (call 𝓢 w c).1 cs
      go false e g' n rec = now 𝓢 (λ z. waits 𝓢 z.line v.slot ≡ false) (call 𝓢 w c).1 cs e
      go true e g' n rec =
          let (u, j, q) = waiter_of 𝓢 𝓛 (call 𝓢 w c).1 (fed 𝓢 x c (call 𝓢 w c).0) g' v.slot e in
          still u j q (stayed 𝓢 𝓛 w x g c n u j) rec

  -- A send that joins is blocked by the slots that it clashed with.
  in_time : (w : World 𝓢) (x : Course 𝓢) → Known 𝓢 𝓛 w x → (s : ℕ) (q : Request) (m : Message) (k : ℕ) → find q ≡ some m
      → let (a, w') = call 𝓢 w (send s q) in a ≡ held k → (cs : List (Call Request))
      → ((j : ℕ) → in_the_way 𝓢 w.slots w.line s m j ≡ true → Closes 𝓢 j w' cs)
      → Leaves 𝓢 s w' cs
  in_time w x g s q m k f d cs h = go (moves 𝓢 w (send s q)) (call_keeps 𝓢 𝓛 w x g (send s q)).0 d h
    where
      go : {y : Answer × World 𝓢} → Move 𝓢 w (send s q) y → {x' : Course 𝓢} → Known 𝓢 𝓛 y.1 x' → y.0 ≡ held k
          → ((j : ℕ) → in_the_way 𝓢 w.slots w.line s m j ≡ true → Closes 𝓢 j y.1 cs)
          → Leaves 𝓢 s y.1 cs
      go (refused c₀ n r low) g' d' h' = absurd (let z : ◌≡◌ {A = ℕ} 0 1 = cc in omega arith)
      go (closes_circle s₀ q₀ m' k' a l o e) g' d' h' = absurd (let z : ◌≡◌ {A = ℕ} 0 1 = cc in omega arith)
      go (starts s₀ q₀ m' a l) g' d' h' = absurd (let z : ◌≡◌ {A = ℕ} 0 1 = cc in omega arith)
      go (joins s₀ q₀ m' k' a l o e) {x'} g' d' h' =
          leaves_line (joined 𝓢 w s m') x' g' cs v (Memᴰ.append_right w.line (Memᴰ.head refl)) (λ j b. h' j
          (subst (λ n. in_the_way 𝓢 w.slots w.line s n j ≡ true) same
          (blocks_way 𝓢 w.slots w.line (joined 𝓢 w s m').line v j ahead_of (blocks_as 𝓢 _ w.slots _ (joined 𝓢 w s m').line v j
          (λ c. ap (clash m') (sym (same_held 𝓢 w.slots s (opened (standing 𝓢 (w.slots s))) refl j)) ∙ c) (λ u z. z) b))))
        where
          same : m' ≡ m
          same = let f' = a.found in cc

          v : Waiter 𝓢
          v = record { slot = s; message = m' }

          ahead_of : (u : Waiter 𝓢) → Before u v (w.line ++ (v ∷ [])) → Memᴰ u w.line
          ahead_of u b = from (before_append w.line b)
            where
              from : Before u v w.line ⊎ ((Memᴰ u w.line × Memᴰ v (v ∷ [])) ⊎ Before u v (v ∷ [])) → Memᴰ u w.line
              from (inl c) = (before_in c).0
              from (inr (inl c)) = c.0
              from (inr (inr c)) = absurd (Memᴰ.not-nil (before_tail c))

  -- ---- after any list of calls

  pub line_kept : (F : Fields) → Ok F → (cs : List (Call Request)) → Promised 𝓢 (both 𝓢 (fresh 𝓢 F) (start_course 𝓢 F) cs).0
  line_kept F ok cs =
      let start = start_known 𝓢 𝓛 F ok in
      let g = both_keeps 𝓢 𝓛 (fresh 𝓢 F) (start_course 𝓢 F) start cs in
      let clear = stays_clear 𝓢 𝓛 (fresh 𝓢 F) (start_course 𝓢 F) start (start_clear 𝓢 𝓛 F) cs in
      record {
        none_could_start = g.stuck;
        in_time = in_time _ _ g;
        not_granted = not_granted _ _ g;
        joins_behind = joins_behind _ _ g;
        not_overtaken = not_overtaken _ _ g;
        no_circle = clear;
        someone_goes_on = someone_goes_on 𝓢 𝓛 _ _ g clear;
        only_circles = only_circles 𝓢 _;
        every_circle = every_circle 𝓢 𝓛 _ _ g;
        circle_same = circle_same 𝓢 _;
        not_on_closed = not_on_closed 𝓢 𝓛 _ _ g;
      }
