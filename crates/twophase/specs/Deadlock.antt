-- No circle of waits (02, Ticket 8): a call leaves fewer waits, or adds those of one slot, which close no circle. So where a transaction is
-- open, some open slot does not wait. 42 is given for a circle only, and for every one.
use Rattle.std.specs.Prelude.{ℕ, ◌<◌, ◌≡◌, refl, ◌⊎◌, Bool, true, false, not, ◌&&◌, eqb}
use Rattle.std.proofs.Common.{arith, sym, ap, ◌∙◌, inl, inr, true≢false}
use Rattle.std.proofs.Math.Decide.{dec_lt}
use Rattle.std.proofs.lemmas.Bool.{false≢true, not-true}
use Rattle.std.proofs.Math.Option.{Option, none, some}
use mathlib.Core.List.Memᴰ
use mathlib.Core.List.{List, [], ◌∷◌, Memᴰ}
use Rattle.model.specs.Base.{least}
use Rattle.model.specs.Service.{Service, Call, send, abort, Answer, refuse, held, Transaction, Slot, closed, opened, Waiter, World, fresh, standing, held_by, waits, joined, waits_for, in_circle, slot_of, call, Course, fed}
use Rattle.laws.specs.Basics.{least_none, least_some}
use Rattle.laws.specs.Lists.{both_left, both_right, both_true, eqb_true, any_member}
use Rattle.twophase.specs.Claims.{both}
use Rattle.twophase.specs.Laws.{Laws}
use Rattle.twophase.specs.Order.{Before, before_in, before_append, before_tail}
use Rattle.twophase.specs.Circles.{Leads, one, more, leads_last, leads_sound, leads_complete, leads_less, no_endless, no_new_circle}
use Rattle.twophase.specs.Line.{open_closed, Blocks, holder, ahead, For, true_for, for_true, same_held}
use Rattle.twophase.specs.Waking.{Stays, joined_less}
use Rattle.twophase.specs.Moves.{Move, refused, closes_circle, joins, starts, moves, IsOpen}
use Rattle.twophase.specs.Theorem.{Known, Next, leaves, adds, call_keeps}

module _ (𝓢 : Service) where
  open 𝓢 use {Request, Message, find}

  -- No slot waits, by one or more steps, for itself.
  abbrev pub NoCircle : World 𝓢 → Type 0
  NoCircle w = (s : ℕ) → Leads (waits_for 𝓢 w) s s → ⊥

  -- Some slot is open and does not wait.
  abbrev pub Unblocked : World 𝓢 → Type 0
  Unblocked w = (s : ℕ) × IsOpen 𝓢 w s × (waits 𝓢 w.line s ≡ false)

  -- ---- the answer 42

  -- A send gets it only if its slot would wait for itself.
  pub only_circles : (w : World 𝓢) (s : ℕ) (q : Request) → (call 𝓢 w (send s q)).0 ≡ refuse 42
      → (m : Message) × (find q ≡ some m) × Leads (waits_for 𝓢 (joined 𝓢 w s m)) s s
  only_circles w s q = go (moves 𝓢 w (send s q))
    where
      go : {y : Answer × World 𝓢} → Move 𝓢 w (send s q) y → y.0 ≡ refuse 42 → (m : Message) × (find q ≡ some m) × Leads (waits_for 𝓢 (joined 𝓢 w s m)) s s
      go (refused c₀ n g l) e = absurd (let z : n ≡ 42 = cc in omega arith)
      go (closes_circle s₀ q₀ m k a h o c) e = (m, a.found, leads_sound (waits_for 𝓢 (joined 𝓢 w s m)) 8 s s c)
      go (joins s₀ q₀ m k a h o c) e = absurd (let z : ◌≡◌ {A = ℕ} 0 1 = cc in omega arith)
      go (starts s₀ q₀ m a h) e = absurd (let z : ◌≡◌ {A = ℕ} 0 1 = cc in omega arith)

  -- Such a send changes nothing.
  pub circle_same : (w : World 𝓢) (s : ℕ) (q : Request) → let (a, w') = call 𝓢 w (send s q) in a ≡ refuse 42 → w' ≡ w
  circle_same w s q = go (moves 𝓢 w (send s q))
    where
      go : {y : Answer × World 𝓢} → Move 𝓢 w (send s q) y → y.0 ≡ refuse 42 → y.1 ≡ w
      go (refused c₀ n g l) e = refl
      go (closes_circle s₀ q₀ m k a h o c) e = refl
      go (joins s₀ q₀ m k a h o c) e = absurd (let z : ◌≡◌ {A = ℕ} 0 1 = cc in omega arith)
      go (starts s₀ q₀ m a h) e = absurd (let z : ◌≡◌ {A = ℕ} 0 1 = cc in omega arith)

module _ (𝓢 : Service) (𝓛 : Laws 𝓢) where
  open 𝓢 use {Fields, Request, Message, clash}
  open 𝓛 use {clash_none}

  module _ (w : World 𝓢) (x : Course 𝓢) (g : Known 𝓢 𝓛 w x) where
    -- A slot that blocks a send is open, so it is one of the eight.
    pub blocks_open : (v : Waiter 𝓢) (k : ℕ) → Blocks 𝓢 w.slots w.line v k → w.slots k ≡ closed → ⊥
    blocks_open v k (holder ne c) q = false≢true (sym (clash_none v.message) ∙ sym (ap (λ z. clash v.message (held_by 𝓢 z)) q) ∙ c)
    blocks_open v k (ahead ne u b e m) q =
        let r = g.each u (before_in b).0 in open_closed 𝓢 r.transaction (sym r.is_open ∙ ap w.slots e ∙ q)

    waits_below : (s t : ℕ) → waits_for 𝓢 w s t ≡ true → t < 8
    waits_below s t e = go (dec_lt t 8)
      where
        go : Dec (t < 8) → t < 8
        go (yes lt) = lt
        go (no ge) = let f = true_for 𝓢 w s t e in absurd (blocks_open f.waiter t f.blocks (g.inv.high t (omega arith)))

    -- The send of a waiting slot.
    pub waiter_of : (s : ℕ) → waits 𝓢 w.line s ≡ true → (v : Waiter 𝓢) × Memᴰ v w.line × (v.slot ≡ s)
    waiter_of s e = let (v, i, q) = any_member (λ v. eqb v.slot s) w.line e in (v, i, eqb_true v.slot s q)

    -- A send that waits after a call waited before it, or the call added it.
    abbrev pub Stayed : Call Request → World 𝓢 → Waiter 𝓢 → Type 0
    Stayed c w' v =
        Stays 𝓢 𝓛 (λ k. c ≡ abort k) w.slots w.line w'.slots w'.line v
        ⊎ ((v.slot ≡ slot_of 𝓢 c) × ((u : Waiter 𝓢) → Memᴰ u w.line → u.slot ≡ slot_of 𝓢 c → ⊥))

    pub stayed : (c : Call Request) {w' : World 𝓢} → Next 𝓢 𝓛 w c w' → (v : Waiter 𝓢) → Memᴰ v w'.line → Stayed c w' v
    stayed c (leaves w' l) v i = inl (l v i)
    stayed c (adds m away e) v i = go (joined_less 𝓢 𝓛 w x g (slot_of 𝓢 c) away m _ v i)
      where
        go : Stays 𝓢 𝓛 (λ k. c ≡ abort k) w.slots w.line (joined 𝓢 w (slot_of 𝓢 c) m).slots (joined 𝓢 w (slot_of 𝓢 c) m).line v
            ⊎ (v ≡ record { slot = slot_of 𝓢 c; message = m }) → Stayed c (joined 𝓢 w (slot_of 𝓢 c) m) v
        go (inl h) = inl h
        go (inr h) = inr (ap (λ z. z.slot) h, away)

    -- A wait of a send that waited was one before.
    wait_was : {withdrawn : ℕ → Type 0} (w' : World 𝓢) (s t : ℕ) (f : For 𝓢 w'.slots w'.line s t)
        → Stays 𝓢 𝓛 withdrawn w.slots w.line w'.slots w'.line f.waiter → waits_for 𝓢 w s t ≡ true
    wait_was w' s t f k = for_true 𝓢 w s t (record { waiter = f.waiter; among = k.was; its = f.its; blocks = k.for_less t f.blocks })

  -- ---- no circle

  -- A send that joins the line closes none.
  joined_clear : (w : World 𝓢) (x : Course 𝓢) → Known 𝓢 𝓛 w x → (s : ℕ) → in_circle 𝓢 w s ≡ false → Leads (waits_for 𝓢 w) s s → ⊥
  joined_clear w x g s e l = true≢false (sym (leads_complete (waits_for 𝓢 w) 8 (waits_below w x g) l) ∙ e)

  -- A call closes none.
  next_clear : (w : World 𝓢) (x : Course 𝓢) → Known 𝓢 𝓛 w x → (c : Call Request) {w' : World 𝓢} (x' : Course 𝓢) → Known 𝓢 𝓛 w' x'
      → Next 𝓢 𝓛 w c w' → NoCircle 𝓢 w → NoCircle 𝓢 w'
  next_clear w x g c x' g' (leaves w' l) clear = λ s circle. clear s (leads_less (waits_for 𝓢 w) (waits_for 𝓢 w') fewer circle)
    where
      fewer : (s t : ℕ) → waits_for 𝓢 w' s t ≡ true → waits_for 𝓢 w s t ≡ true
      fewer s t e = let f = true_for 𝓢 w' s t e in wait_was w x g w' s t f (l f.waiter f.among)
  next_clear w x g c x' g' (adds m away e) clear =
      no_new_circle (waits_for 𝓢 w) (waits_for 𝓢 w') (slot_of 𝓢 c) old clear (joined_clear w' x' g' (slot_of 𝓢 c) e)
    where
      w' : World 𝓢
      w' = joined 𝓢 w (slot_of 𝓢 c) m

      old : (s t : ℕ) → waits_for 𝓢 w' s t ≡ true → (waits_for 𝓢 w s t ≡ true) ⊎ (s ≡ slot_of 𝓢 c)
      old s t q = go (true_for 𝓢 w' s t q)
        where
          go : For 𝓢 w'.slots w'.line s t → (waits_for 𝓢 w s t ≡ true) ⊎ (s ≡ slot_of 𝓢 c)
          go f = from (stayed w x g c (adds m away e) f.waiter f.among)
            where
              from : Stayed w x g c w' f.waiter → (waits_for 𝓢 w s t ≡ true) ⊎ (s ≡ slot_of 𝓢 c)
              from (inl k) = inl (wait_was w x g w' s t f k)
              from (inr k) = inr (sym f.its ∙ k.0)

  -- Nor does a list of calls.
  pub stays_clear : (w : World 𝓢) (x : Course 𝓢) → Known 𝓢 𝓛 w x → NoCircle 𝓢 w → (cs : List (Call Request)) → NoCircle 𝓢 (both 𝓢 w x cs).0
  stays_clear w x g clear [] = clear
  stays_clear w x g clear (c ∷ cs) =
      let y = call 𝓢 w c in
      let k = call_keeps 𝓢 𝓛 w x g c in
      stays_clear y.1 (fed 𝓢 x c y.0) k.0 (next_clear w x g c (fed 𝓢 x c y.0) k.0 k.1 clear) cs

  -- After a start nobody waits.
  pub start_clear : (F : Fields) → NoCircle 𝓢 (fresh 𝓢 F)
  start_clear F s l = nobody l
    where
      nobody : {s t : ℕ} → Leads (waits_for 𝓢 (fresh 𝓢 F)) s t → ⊥
      nobody (one e) = false≢true e
      nobody (more e p) = false≢true e

  -- A send that joins closes none: 42 is given for every one.
  pub every_circle : (w : World 𝓢) (x : Course 𝓢) → Known 𝓢 𝓛 w x → (s : ℕ) (q : Request) (k : ℕ) → let (a, w') = call 𝓢 w (send s q) in a ≡ held k
      → Leads (waits_for 𝓢 w') s s → ⊥
  every_circle w x g s q k = go (moves 𝓢 w (send s q)) (call_keeps 𝓢 𝓛 w x g (send s q)).0
    where
      go : {y : Answer × World 𝓢} → Move 𝓢 w (send s q) y → {x' : Course 𝓢} → Known 𝓢 𝓛 y.1 x' → y.0 ≡ held k → Leads (waits_for 𝓢 y.1) s s → ⊥
      go (refused c₀ n h low) g' d l = let z : ◌≡◌ {A = ℕ} 0 1 = cc in omega arith
      go (closes_circle s₀ q₀ m k' a h o e) g' d l = let z : ◌≡◌ {A = ℕ} 0 1 = cc in omega arith
      go (joins s₀ q₀ m k' a h o e) {x'} g' d l = joined_clear (joined 𝓢 w s m) x' g' s e l
      go (starts s₀ q₀ m a h) g' d l = let z : ◌≡◌ {A = ℕ} 0 1 = cc in omega arith

  -- A send of a closed slot closes none: no slot waits for it.
  pub not_on_closed : (w : World 𝓢) (x : Course 𝓢) → Known 𝓢 𝓛 w x → (s : ℕ) (q : Request) → w.slots s ≡ closed → (call 𝓢 w (send s q)).0 ≡ refuse 42 → ⊥
  not_on_closed w x g s q shut e =
      let (m, f, l) = only_circles 𝓢 w s q e in
      let (j, h) = leads_last (waits_for 𝓢 (joined 𝓢 w s m)) l in
      let f = true_for 𝓢 (joined 𝓢 w s m) j s h in
      go m f.waiter f.blocks
    where
      away : (v : Waiter 𝓢) → Memᴰ v w.line → v.slot ≡ s → ⊥
      away v i h = let r = g.each v i in open_closed 𝓢 r.transaction (sym r.is_open ∙ ap w.slots h ∙ shut)

      nobody : (m : Message) (u v : Waiter 𝓢) → u.slot ≡ s
          → Before u v w.line ⊎ ((Memᴰ u w.line × Memᴰ v (record { slot = s; message = m } ∷ [])) ⊎ Before u v (record { slot = s; message = m } ∷ []))
          → ⊥
      nobody m u v h (inl b) = away u (before_in b).0 h
      nobody m u v h (inr (inl b)) = away u b.0 h
      nobody m u v h (inr (inr b)) = Memᴰ.not-nil (before_tail b)

      go : (m : Message) (v : Waiter 𝓢) → Blocks 𝓢 (joined 𝓢 w s m).slots (joined 𝓢 w s m).line v s → ⊥
      go m v (holder ne c) = false≢true (sym (clash_none v.message) ∙ sym (ap (λ z. clash v.message (held_by 𝓢 z)) shut)
          ∙ sym (ap (clash v.message) (same_held 𝓢 w.slots s (opened (standing 𝓢 (w.slots s))) refl s)) ∙ c)
      go m v (ahead ne u b h c) = nobody m u v h (before_append w.line b)

  -- ---- someone goes on

  abbrev is_open : Slot 𝓢 → Bool
  is_open closed = false
  is_open (opened y) = true

  open_is : (z : Slot 𝓢) → is_open z ≡ true → (y : Transaction 𝓢) × (z ≡ opened y)
  open_is closed e = absurd (false≢true e)
  open_is (opened y) e = (y, refl)

  -- Where there is no circle and some slot is open, some open slot does not wait: else each would wait for another.
  pub someone_goes_on : (w : World 𝓢) (x : Course 𝓢) → Known 𝓢 𝓛 w x → NoCircle 𝓢 w → (t : ℕ) (y : Transaction 𝓢) → w.slots t ≡ opened y → Unblocked 𝓢 w
  someone_goes_on w x g clear t y q = go (least test 8) refl
    where
      test : ℕ → Bool
      test k = is_open (w.slots k) && not (waits 𝓢 w.line k)

      fails : (a b : Bool) → a ≡ true → (a && not b) ≡ false → b ≡ true
      fails a true e f = refl
      fails a false e f = absurd (true≢false (sym (both_true a true e refl) ∙ f))

      is_open_law : (k : ℕ) → (w.slots k ≡ closed → ⊥) → (z : Slot 𝓢) → w.slots k ≡ z → is_open z ≡ true
      is_open_law k n closed e = absurd (n e)
      is_open_law k n (opened y) e = refl

      low : Dec (t < 8) → t < 8
      low (yes lt) = lt
      low (no ge) = absurd (open_closed 𝓢 y (sym q ∙ g.inv.high t (omega arith)))

      never : least test 8 ≡ none → ⊥
      never e =
          no_endless (waits_for 𝓢 w) clear 8 (λ k. (k < 8) × (waits 𝓢 w.line k ≡ true)) (λ k h. h.0) on t
          (low (dec_lt t 8), waiting t (low (dec_lt t 8)) (λ c. open_closed 𝓢 y (sym q ∙ c)))
        where
          waiting : (k : ℕ) → k < 8 → (w.slots k ≡ closed → ⊥) → waits 𝓢 w.line k ≡ true
          waiting k lt n = fails (is_open (w.slots k)) (waits 𝓢 w.line k) (is_open_law k n (w.slots k) refl) (least_none test 8 e k lt)

          on : (k : ℕ) → (k < 8) × (waits 𝓢 w.line k ≡ true) → (j : ℕ) × ((j < 8) × (waits 𝓢 w.line j ≡ true)) × Leads (waits_for 𝓢 w) k j
          on k h =
              let (v, i, its) = waiter_of w x g k h.1 in
              let (j, lt, b) = g.stuck v i in
              (j, (lt, waiting j lt (blocks_open w x g v j b)), one (for_true 𝓢 w k j (record { waiter = v; among = i; its = its; blocks = b })))

      go : (o : Option ℕ) → least test 8 ≡ o → Unblocked 𝓢 w
      go none e = absurd (never e)
      go (some k) e =
          let (lt, h) = least_some test 8 k e in
          let (y, o) = open_is (w.slots k) (both_left (is_open (w.slots k)) _ h) in
          (k, (y, o, lt), not-true _ (both_right (is_open (w.slots k)) _ h))
