-- The line: which slot blocks a waiting send and so which slot waits for which, that no slot is in it twice, and what follows by waking
-- one send after another.
use Rattle.std.specs.Prelude.{ℕ, ◌<◌, ◌≡◌, refl, ◌⊎◌, true, not, ◌&&◌, eqb}
use Rattle.std.proofs.Common.{arith, sym, ap, ◌∙◌, subst, inl, inr, eq-eqb, ne_eqb}
use Rattle.std.proofs.lemmas.Bool.{false≢true, eqb-false, not-true}
use Rattle.std.proofs.Math.Option.{Option, none, some}
use mathlib.Core.List.Memᴰ
use mathlib.Core.List.{List, [], ◌∷◌, ◌++◌, append_assoc, Memᴰ}
use Rattle.model.specs.Base.{any, put}
use Rattle.model.specs.Service.{Service, Transaction, Slot, closed, opened, World, Waiter, held_by, started, in_the_way, obstacle, queued, woken_or, wake, closed_over, without, ended, waits_in, waits_for, Sends}
use Rattle.laws.specs.Basics.{put_same, put_other, at_or}
use Rattle.laws.specs.Lists.{both_left, both_right, both_true, either_cases, either_left, either_right, eqb_true, eqb_same, any_member, member_any, in_keep}
use Rattle.twophase.specs.Order.{Before, first, later, before_across, Sub, both, skip, nothing, sub_in}

module _ (𝓢 : Service) where
  open 𝓢 use {Fields, Message, clash, meets}

  -- An open slot is not closed.
  pub open_closed : (t : Transaction 𝓢) → ◌≡◌ {A = Slot 𝓢} (opened t) closed → ⊥
  open_closed t e = let z : ◌≡◌ {A = ℕ} 0 1 = cc in omega arith

  -- ---- which slot blocks a send

  -- Slot k blocks the waiting send v: it is another slot, and holds a lock that clashes or waits ahead with a send that clashes.
  pub data Blocks (slots : ℕ → Slot 𝓢) (line : List (Waiter 𝓢)) (v : Waiter 𝓢) (k : ℕ) : Type 0 where
    holder : (k ≡ v.slot → ⊥) → clash v.message (held_by 𝓢 (slots k)) ≡ true → Blocks slots line v k
    ahead : (k ≡ v.slot → ⊥) → (u : Waiter 𝓢) → Before u v line → u.slot ≡ k → meets v.message u.message ≡ true → Blocks slots line v k

  pub blocks_other : {slots : ℕ → Slot 𝓢} {line : List (Waiter 𝓢)} {v : Waiter 𝓢} {k : ℕ} → Blocks slots line v k → k ≡ v.slot → ⊥
  blocks_other (holder ne c) = ne
  blocks_other (ahead ne u b e m) = ne

  -- The machine's test means it, where the test's line is that of the sends ahead.
  pub way_blocks : (slots : ℕ → Slot 𝓢) (front line : List (Waiter 𝓢)) (v : Waiter 𝓢) (k : ℕ) → ((u : Waiter 𝓢) → Memᴰ u front → Before u v line)
      → in_the_way 𝓢 slots front v.slot v.message k ≡ true → Blocks slots line v k
  way_blocks slots front line v k stands e = go (either_cases (clash v.message (held_by 𝓢 (slots k))) _ (both_right (not (eqb k v.slot)) _ e))
    where
      ne : k ≡ v.slot → ⊥
      ne = eqb-false k v.slot (not-true _ (both_left (not (eqb k v.slot)) _ e))

      go : (clash v.message (held_by 𝓢 (slots k)) ≡ true) ⊎ (any (λ u. eqb u.slot k && meets v.message u.message) front ≡ true)
          → Blocks slots line v k
      go (inl c) = holder ne c
      go (inr a) =
          let (u, i, e) = any_member (λ u. eqb u.slot k && meets v.message u.message) front a in
          ahead ne u (stands u i) (eqb_true u.slot k (both_left (eqb u.slot k) _ e)) (both_right (eqb u.slot k) _ e)

  -- The test passes for a slot with a lock, and for one with a send in its line, that clashes.
  pub way_lock : (slots : ℕ → Slot 𝓢) (front : List (Waiter 𝓢)) (s : ℕ) (m : Message) (k : ℕ) → (k ≡ s → ⊥) → clash m (held_by 𝓢 (slots k)) ≡ true
      → in_the_way 𝓢 slots front s m k ≡ true
  way_lock slots front s m k ne c = both_true (not (eqb k s)) _ (ap not (ne_eqb k s ne)) (either_left (clash m (held_by 𝓢 (slots k))) _ c)

  pub way_send : (slots : ℕ → Slot 𝓢) (front : List (Waiter 𝓢)) (s : ℕ) (m : Message) (u : Waiter 𝓢) → Memᴰ u front → (u.slot ≡ s → ⊥)
      → meets m u.message ≡ true → in_the_way 𝓢 slots front s m u.slot ≡ true
  way_send slots front s m u i ne c =
      both_true (not (eqb u.slot s)) _ (ap not (ne_eqb u.slot s ne)) (either_right (clash m (held_by 𝓢 (slots u.slot))) _
      (member_any (λ v. eqb v.slot u.slot && meets m v.message) i (both_true (eqb u.slot u.slot) _ (eqb_same u.slot) c)))

  pub blocks_way : (slots : ℕ → Slot 𝓢) (front line : List (Waiter 𝓢)) (v : Waiter 𝓢) (k : ℕ) → ((u : Waiter 𝓢) → Before u v line → Memᴰ u front)
      → Blocks slots line v k → in_the_way 𝓢 slots front v.slot v.message k ≡ true
  blocks_way slots front line v k stands (holder ne c) = way_lock slots front v.slot v.message k ne c
  blocks_way slots front line v k stands (ahead ne u b e m) =
      subst (λ (j : ℕ). in_the_way 𝓢 slots front v.slot v.message j ≡ true) e
      (way_send slots front v.slot v.message u (stands u b) (λ q. ne (sym e ∙ q)) m)

  -- It depends only on the locks of the slots and on the sends ahead.
  pub blocks_as : (slots slots' : ℕ → Slot 𝓢) (line line' : List (Waiter 𝓢)) (v : Waiter 𝓢) (k : ℕ)
      → (clash v.message (held_by 𝓢 (slots k)) ≡ true → clash v.message (held_by 𝓢 (slots' k)) ≡ true)
      → ((u : Waiter 𝓢) → Before u v line → Before u v line') → Blocks slots line v k → Blocks slots' line' v k
  blocks_as slots slots' line line' v k locks stands (holder ne c) = holder ne (locks c)
  blocks_as slots slots' line line' v k locks stands (ahead ne u b e m) = ahead ne u (stands u b) e m

  -- A slot changed to one with the same locks changes no slot's locks.
  pub same_held : (slots : ℕ → Slot 𝓢) (s : ℕ) (z : Slot 𝓢) → held_by 𝓢 z ≡ held_by 𝓢 (slots s) → (k : ℕ) → held_by 𝓢 (put slots s z k) ≡ held_by 𝓢 (slots k)
  same_held slots s z e = at_or (λ k. held_by 𝓢 (put slots s z k) ≡ held_by 𝓢 (slots k)) s (ap (held_by 𝓢) (put_same slots s z) ∙ e)
      (λ k ne. ap (held_by 𝓢) (put_other slots s z k ne))

  -- ---- which slot waits for which

  -- Slot s waits for slot t: it has a send in the line that slot t blocks.
  pub record For (slots : ℕ → Slot 𝓢) (line : List (Waiter 𝓢)) (s t : ℕ) : Type 0 where
    pub waiter : Waiter 𝓢
    pub among : Memᴰ waiter line
    pub its : waiter.slot ≡ s
    pub blocks : Blocks slots line waiter t

  module _ (slots : ℕ → Slot 𝓢) (s t : ℕ) where
    rest_for : (line front rest : List (Waiter 𝓢)) → front ++ rest ≡ line → waits_in 𝓢 slots front rest s t ≡ true → For slots line s t
    rest_for line front [] e h = absurd (false≢true h)
    rest_for line front (v ∷ vs) e h =
        go (rest_for line (front ++ (v ∷ [])) vs (append_assoc front (v ∷ []) vs ∙ e)) (either_cases (eqb v.slot s && in_the_way 𝓢 slots front s v.message t) _ h)
      where
        go : (waits_in 𝓢 slots (front ++ (v ∷ [])) vs s t ≡ true → For slots line s t)
            → (eqb v.slot s && in_the_way 𝓢 slots front s v.message t ≡ true) ⊎ (waits_in 𝓢 slots (front ++ (v ∷ [])) vs s t ≡ true) → For slots line s t
        go rec (inr q) = rec q
        go rec (inl q) =
            let its = eqb_true v.slot s (both_left (eqb v.slot s) _ q) in
            record {
              waiter = v;
              among = subst (Memᴰ v) e (Memᴰ.append_right front (Memᴰ.head refl));
              its = its;
              blocks = way_blocks slots front line v t (λ u i. subst (Before u v) e (before_across front i (Memᴰ.head refl)))
                  (subst (λ (j : ℕ). in_the_way 𝓢 slots front j v.message t ≡ true) (sym its) (both_right (eqb v.slot s) _ q));
            }

    module _ (v : Waiter 𝓢) (its : v.slot ≡ s) where
      -- A send in the rest, where the test passes whichever sends are ahead of it beside those in front.
      rest_test : (front rest : List (Waiter 𝓢))
          → ((more : List (Waiter 𝓢)) → ((u : Waiter 𝓢) → Memᴰ u front → Memᴰ u more) → in_the_way 𝓢 slots more s v.message t ≡ true)
          → Memᴰ v rest → waits_in 𝓢 slots front rest s t ≡ true
      rest_test front [] passes i = elim i [ ]
      rest_test front (y ∷ ys) passes (Memᴰ.head e) = either_left (eqb y.slot s && in_the_way 𝓢 slots front s y.message t) _
          (subst (λ z. (eqb z.slot s && in_the_way 𝓢 slots front s z.message t) ≡ true) e
          (both_true (eqb v.slot s) _ (eq-eqb v.slot s its) (passes front (λ u i. i))))
      rest_test front (y ∷ ys) passes (Memᴰ.tail i) = either_right (eqb y.slot s && in_the_way 𝓢 slots front s y.message t) _
          (rest_test (front ++ (y ∷ [])) ys (λ more h. passes more (λ u j. h u (Memᴰ.append_left (y ∷ []) j))) i)

      rest_ahead : (u : Waiter 𝓢) → u.slot ≡ t → (t ≡ s → ⊥) → meets v.message u.message ≡ true → (front rest : List (Waiter 𝓢))
          → Before u v rest → waits_in 𝓢 slots front rest s t ≡ true
      rest_ahead u e ne m front [] i = elim i [ ]
      rest_ahead u e ne m front (y ∷ ys) (first q i) = either_right (eqb y.slot s && in_the_way 𝓢 slots front s y.message t) _
          (rest_test (front ++ (y ∷ [])) ys (λ more h. subst (λ (k : ℕ). in_the_way 𝓢 slots more s v.message k ≡ true) e
          (way_send slots more s v.message u (h u (Memᴰ.append_right front (Memᴰ.head q))) (λ k. ne (sym e ∙ k)) m)) i)
      rest_ahead u e ne m front (y ∷ ys) (later b) = either_right (eqb y.slot s && in_the_way 𝓢 slots front s y.message t) _
          (rest_ahead u e ne m (front ++ (y ∷ [])) ys b)

      blocked_test : (line : List (Waiter 𝓢)) → Memᴰ v line → Blocks slots line v t → waits_in 𝓢 slots [] line s t ≡ true
      blocked_test line i (holder ne c) = rest_test [] line (λ more h. way_lock slots more s v.message t (λ k. ne (k ∙ sym its)) c) i
      blocked_test line i (ahead ne u b e m) = rest_ahead u e (λ k. ne (k ∙ sym its)) m [] line b

  -- The machine's test means it.
  pub true_for : (w : World 𝓢) (s t : ℕ) → waits_for 𝓢 w s t ≡ true → For w.slots w.line s t
  true_for w s t = rest_for w.slots s t w.line [] w.line refl

  pub for_true : (w : World 𝓢) (s t : ℕ) → For w.slots w.line s t → waits_for 𝓢 w s t ≡ true
  for_true w s t f = blocked_test w.slots s t f.waiter f.its w.line f.among f.blocks

  -- ---- one place for each slot

  -- No slot is in the line twice.
  abbrev pub Once : List (Waiter 𝓢) → Type 0
  Once [] = Unit {0}
  Once (v ∷ vs) = ((u : Waiter 𝓢) → Memᴰ u vs → u.slot ≡ v.slot → ⊥) × Once vs

  pub once_sub : {xs ys : List (Waiter 𝓢)} → Sub xs ys → Once ys → Once xs
  once_sub nothing h = tt
  once_sub (skip s) h = once_sub s h.1
  once_sub (both s) h = (λ u i. h.0 u (sub_in s i), once_sub s h.1)

  pub once_drop : (xs : List (Waiter 𝓢)) (v : Waiter 𝓢) (ys : List (Waiter 𝓢)) → Once (xs ++ (v ∷ ys))
      → (u : Waiter 𝓢) → Memᴰ u (xs ++ ys) → u.slot ≡ v.slot → ⊥
  once_drop [] v ys h u i q = h.0 u i q
  once_drop (x ∷ xs) v ys h u (Memᴰ.head e) q = h.0 v (Memᴰ.append_right xs (Memᴰ.head refl)) (sym q ∙ ap (λ z. z.slot) e)
  once_drop (x ∷ xs) v ys h u (Memᴰ.tail i) q = once_drop xs v ys h.1 u i q

  pub once_add : (xs : List (Waiter 𝓢)) (v : Waiter 𝓢) → Once xs → ((u : Waiter 𝓢) → Memᴰ u xs → u.slot ≡ v.slot → ⊥) → Once (xs ++ (v ∷ []))
  once_add [] v h away = (λ u i. absurd (Memᴰ.not-nil i), tt)
  once_add (x ∷ xs) v h away = (λ u i. last u (Memᴰ.append_cases xs i), once_add xs v h.1 (λ u i. away u (Memᴰ.tail i)))
    where
      last : (u : Waiter 𝓢) → Memᴰ u xs ⊎ Memᴰ u (v ∷ []) → u.slot ≡ x.slot → ⊥
      last u (inl i) q = h.0 u i q
      last u (inr i) q = away x (Memᴰ.head refl) (sym q ∙ ap (λ z. z.slot) (Memᴰ.eq_of_singleton i))

  pub once_same : (xs : List (Waiter 𝓢)) → Once xs → (u v : Waiter 𝓢) → Memᴰ u xs → Memᴰ v xs → u.slot ≡ v.slot → u ≡ v
  once_same [] h u v i _ q = elim i [ ]
  once_same (x ∷ xs) h u v (Memᴰ.head e) (Memᴰ.head f) q = e ∙ sym f
  once_same (x ∷ xs) h u v (Memᴰ.head e) (Memᴰ.tail j) q = absurd (h.0 v j (sym q ∙ ap (λ z. z.slot) e))
  once_same (x ∷ xs) h u v (Memᴰ.tail i) (Memᴰ.head f) q = absurd (h.0 u i (q ∙ ap (λ z. z.slot) f))
  once_same (x ∷ xs) h u v (Memᴰ.tail i) (Memᴰ.tail j) q = once_same xs h.1 u v i j q

  -- A slot whose send was withdrawn is not in the line.
  pub without_away : (s : ℕ) (line : List (Waiter 𝓢)) (v : Waiter 𝓢) → Memᴰ v (without 𝓢 s line) → v.slot ≡ s → ⊥
  without_away s line v i = eqb-false v.slot s (not-true _ (in_keep (λ v. not (eqb v.slot s)) line i).1)

  -- ---- waking

  -- What each send keeps, whether it goes on waiting or starts, holds when all had their turn. P is about the world, with those that
  -- still wait, and about the sends that have not had their turn.
  pub wake_by : (P : World 𝓢 → List (Waiter 𝓢) → Type 0)
      → ((w : World 𝓢) (v : Waiter 𝓢) (vs : List (Waiter 𝓢)) (k : ℕ) → obstacle 𝓢 w v.slot v.message ≡ some k → P w (v ∷ vs) → P (queued 𝓢 w v) vs)
      → ((w : World 𝓢) (v : Waiter 𝓢) (vs : List (Waiter 𝓢)) → obstacle 𝓢 w v.slot v.message ≡ none → P w (v ∷ vs)
      → P (started 𝓢 w v.slot v.message) vs)
      → (vs : List (Waiter 𝓢)) (w : World 𝓢) → P w vs → P (wake 𝓢 w vs) []
  wake_by P stay start [] w h = h
  wake_by P stay start (v ∷ vs) w h = wake_by P stay start vs _ (go (obstacle 𝓢 w v.slot v.message) refl)
    where
      go : (o : Option ℕ) → obstacle 𝓢 w v.slot v.message ≡ o → P (woken_or 𝓢 w v o) vs
      go (some k) e = stay w v vs k e h
      go none e = start w v vs e h

  -- It leaves alone every slot that is not in the line.
  pub wake_else : (s : ℕ) (z : Slot 𝓢) (vs : List (Waiter 𝓢)) (w : World 𝓢) → w.slots s ≡ z → ((v : Waiter 𝓢) → Memᴰ v vs → v.slot ≡ s → ⊥)
      → (wake 𝓢 w vs).slots s ≡ z
  wake_else s z vs w q away =
      (wake_by (λ w vs. (w.slots s ≡ z) × ((v : Waiter 𝓢) → Memᴰ v vs → v.slot ≡ s → ⊥))
      (λ w v vs k e h. (h.0, λ u i. h.1 u (Memᴰ.tail i)))
      (λ w v vs e h. (put_other w.slots v.slot _ s (λ e. h.1 v (Memᴰ.head refl) (sym e)) ∙ h.0, λ u i. h.1 u (Memᴰ.tail i)))
      vs w (q, away)).0

  -- The end of a transaction closes its slot.
  pub ended_closed : (w : World 𝓢) (s : ℕ) (F : Fields) → (ended 𝓢 w s F).slots s ≡ closed
  ended_closed w s F = wake_else s closed (without 𝓢 s w.line) (closed_over 𝓢 w s F) (put_same w.slots s closed) (without_away s w.line)

  -- ---- the slot of a waiting send

  -- It is one of the eight, open, with no message running, and the send is its latest in the course.
  pub record Ready (slots : ℕ → Slot 𝓢) (sends : ℕ → Sends 𝓢) (v : Waiter 𝓢) : Type 0 where
    pub below : v.slot < 8
    pub transaction : Transaction 𝓢
    pub is_open : slots v.slot ≡ opened transaction
    pub is_idle : transaction.running ≡ none
    pub latest : (sends v.slot).latest ≡ some v.message

  -- Changes of other slots leave it so.
  pub ready_as : (slots slots' : ℕ → Slot 𝓢) (sends sends' : ℕ → Sends 𝓢) (v : Waiter 𝓢) → slots' v.slot ≡ slots v.slot
      → sends' v.slot ≡ sends v.slot → Ready slots sends v → Ready slots' sends' v
  ready_as slots slots' sends sends' v e f r =
      record { below = r.below; transaction = r.transaction; is_open = e ∙ r.is_open; is_idle = r.is_idle; latest = ap (λ l. l.latest) f ∙ r.latest }
