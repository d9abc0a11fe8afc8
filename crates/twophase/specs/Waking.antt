-- What is known of the line, and that each change keeps it: a send starts, the end of a transaction wakes others, a send joins.
use Rattle.std.specs.Prelude.{ℕ, ◌<◌, ◌≡◌, refl, ◌⊎◌, Bool, true, false, not, ◌&&◌, ◌||◌, eqb}
use Rattle.std.proofs.Math.Decide.{ℕ_discrete}
use Rattle.std.proofs.Common.{sym, ap, ◌∙◌, subst, inl, inr, true≢false, ne_eqb}
use Rattle.std.proofs.Math.Path.{fun_ext}
use Rattle.std.proofs.lemmas.Bool.{false≢true}
use Rattle.std.proofs.Math.Option.{none, some}
use mathlib.Core.List.Memᴰ
use mathlib.Core.List.{List, [], ◌∷◌, ◌++◌, append_assoc, append-nil, Memᴰ}
use Rattle.model.specs.Base.{any, put, least}
use Rattle.model.specs.Service.{Service, Slot, closed, opened, World, Waiter, with_slot, standing, held_by, starting, started, in_the_way, obstacle, queued, joined, wake, closed_over, without, ended, Course}
use Rattle.laws.specs.Basics.{put_same, put_other, at_or, least_none, least_some}
use Rattle.laws.specs.Lists.{either_cases, either_right, in_keep}
use Rattle.twophase.specs.Laws.{Laws}
use Rattle.twophase.specs.Invariant.{Invariant}
use Rattle.twophase.specs.Preserve.{started_keeps}
use Rattle.twophase.specs.Order.{Before, first, later, Sub, sub_in, sub_before, sub_keep, sub_drop, sub_front, keep_before, before_across, before_right, before_in, before_tail, before_append}
use Rattle.twophase.specs.Line.{Blocks, holder, ahead, blocks_other, way_blocks, way_lock, way_send, blocks_as, same_held, Once, once_sub, once_drop, once_add, without_away, wake_by, Ready, ready_as}

module _ (𝓢 : Service) (𝓛 : Laws 𝓢) where
  open 𝓢 use {Fields, Message, clash, meets}
  open 𝓛 use {meets_sym, clash_none, clash_lock}

  -- ---- a start

  -- A slot that held a clashing lock still does.
  pub start_grow : (slots : ℕ → Slot 𝓢) (s : ℕ) (m n : Message) (k : ℕ) → clash n (held_by 𝓢 (slots k)) ≡ true
      → clash n (held_by 𝓢 (put slots s (opened (starting 𝓢 (standing 𝓢 (slots s)) m)) k)) ≡ true
  start_grow slots s m n =
      at_or (λ k. clash n (held_by 𝓢 (slots k)) ≡ true → clash n (held_by 𝓢 (put slots s after k)) ≡ true) s
      (λ c. ap (λ z. clash n (held_by 𝓢 z)) (put_same slots s after) ∙ clash_lock n m (held_by 𝓢 (slots s)) ∙ either_right (meets n m) _ c)
      (λ k ne c. ap (λ z. clash n (held_by 𝓢 z)) (put_other slots s after k ne) ∙ c)
    where
      after : Slot 𝓢
      after = opened (starting 𝓢 (standing 𝓢 (slots s)) m)

  -- The slot of the start, and no other, may come to block a send, and only one that clashes with the message started.
  start_less : (slots : ℕ → Slot 𝓢) (s : ℕ) (m : Message) (line : List (Waiter 𝓢)) (v : Waiter 𝓢) (k : ℕ)
      → Blocks 𝓢 (put slots s (opened (starting 𝓢 (standing 𝓢 (slots s)) m))) line v k
      → Blocks 𝓢 slots line v k ⊎ ((k ≡ s) × (meets v.message m ≡ true))
  start_less slots s m line v k (ahead ne u b e q) = inl (ahead ne u b e q)
  start_less slots s m line v k (holder ne c) = go (ℕ_discrete k s)
    where
      after : Slot 𝓢
      after = opened (starting 𝓢 (standing 𝓢 (slots s)) m)

      split : k ≡ s → (meets v.message m ≡ true) ⊎ (clash v.message (held_by 𝓢 (slots s)) ≡ true)
          → Blocks 𝓢 slots line v k ⊎ ((k ≡ s) × (meets v.message m ≡ true))
      split e (inl q) = inr (e, q)
      split e (inr q) = inl (holder ne (ap (λ (j : ℕ). clash v.message (held_by 𝓢 (slots j))) e ∙ q))

      go : Dec (k ≡ s) → Blocks 𝓢 slots line v k ⊎ ((k ≡ s) × (meets v.message m ≡ true))
      go (yes e) = split e (either_cases (meets v.message m) _
          (sym (clash_lock v.message m (held_by 𝓢 (slots s))) ∙ sym (ap (λ z. clash v.message (held_by 𝓢 z)) (put_same slots s after))
          ∙ subst (λ (j : ℕ). clash v.message (held_by 𝓢 (put slots s after j)) ≡ true) e c))
      go (no nk) = inl (holder ne (sym (ap (λ z. clash v.message (held_by 𝓢 z)) (put_other slots s after k nk)) ∙ c))

  -- A send without an obstacle clashes with no lock of another slot, and with no send of another slot in the line.
  pub no_lock : (w : World 𝓢) (s : ℕ) (m : Message) → obstacle 𝓢 w s m ≡ none → (k : ℕ) → (k ≡ s → ⊥) → k < 8 → clash m (held_by 𝓢 (w.slots k)) ≡ false
  no_lock w s m e k ne lt = go (clash m (held_by 𝓢 (w.slots k))) refl
    where
      go : (b : Bool) → clash m (held_by 𝓢 (w.slots k)) ≡ b → b ≡ false
      go false c = refl
      go true c = sym (way_lock 𝓢 w.slots w.line s m k ne c) ∙ least_none (in_the_way 𝓢 w.slots w.line s m) 8 e k lt

  pub no_send : (w : World 𝓢) (s : ℕ) (m : Message) → obstacle 𝓢 w s m ≡ none → (u : Waiter 𝓢) → Memᴰ u w.line → (u.slot ≡ s → ⊥) → u.slot < 8
      → meets m u.message ≡ false
  no_send w s m e u i ne lt = go (meets m u.message) refl
    where
      go : (b : Bool) → meets m u.message ≡ b → b ≡ false
      go false c = refl
      go true c = sym (way_send 𝓢 w.slots w.line s m u i ne c) ∙ least_none (in_the_way 𝓢 w.slots w.line s m) 8 e u.slot lt

  -- ---- what is known of the line

  -- Machine and course, q being the line with the sends that have not had their turn: the slot of each is ready, no slot is in it
  -- twice, and some slot blocks each send in the world's line.
  pub record Good (w : World 𝓢) (x : Course 𝓢) (q : List (Waiter 𝓢)) : Type 0 where
    pub inv : Invariant 𝓢 𝓛 w x
    pub each : (v : Waiter 𝓢) → Memᴰ v q → Ready 𝓢 w.slots x.slots v
    pub once : Once 𝓢 q
    pub stuck : (v : Waiter 𝓢) → Memᴰ v w.line → (k : ℕ) × (k < 8) × Blocks 𝓢 w.slots w.line v k

  -- A send that waits after a change waited before it, no slot blocks it that did not, and it is not overtaken: a clashing send that
  -- was behind it still is, unless its slot is one of those withdrawn.
  pub record Stays (withdrawn : ℕ → Type 0) (slots : ℕ → Slot 𝓢) (q : List (Waiter 𝓢)) (slots' : ℕ → Slot 𝓢) (q' : List (Waiter 𝓢)) (v : Waiter 𝓢) : Type 0 where
    pub was : Memᴰ v q
    pub for_less : (k : ℕ) → Blocks 𝓢 slots' q' v k → Blocks 𝓢 slots q v k
    pub order : (u : Waiter 𝓢) → (withdrawn u.slot → ⊥) → Before v u q → meets u.message v.message ≡ true → Before v u q'

  abbrev pub Less : (ℕ → Type 0) → (ℕ → Slot 𝓢) → List (Waiter 𝓢) → (ℕ → Slot 𝓢) → List (Waiter 𝓢) → Type 0
  Less withdrawn slots q slots' q' = (v : Waiter 𝓢) → Memᴰ v q' → Stays withdrawn slots q slots' q' v

  less_trans : {withdrawn : ℕ → Type 0} {slots slots' slots'' : ℕ → Slot 𝓢} {q q' q'' : List (Waiter 𝓢)} → Less withdrawn slots q slots' q'
      → Less withdrawn slots' q' slots'' q'' → Less withdrawn slots q slots'' q''
  less_trans f g v i =
      let a = g v i in
      let b = f v a.was in
      record { was = b.was; for_less = λ k c. b.for_less k (a.for_less k c); order = λ u ne c m. a.order u ne (b.order u ne c m) m }

  -- The invariant does not depend on the line.
  relined : (w : World 𝓢) (x : Course 𝓢) (q : List (Waiter 𝓢)) → Invariant 𝓢 𝓛 w x
      → Invariant 𝓢 𝓛 (record { fields = w.fields; slots = w.slots; line = q }) x
  relined w x q inv =
      record {
        messages = inv.messages;
        effects = inv.effects;
        free = inv.free;
        made = inv.made;
        slot = inv.slot;
        high = inv.high;
        ok = inv.ok;
        total = inv.total;
        good = inv.good;
      }

  -- ---- one send of the line has its turn

  module _ (w : World 𝓢) (x : Course 𝓢) (v : Waiter 𝓢) (vs : List (Waiter 𝓢)) where
    -- It goes on waiting.
    stays : (k : ℕ) → obstacle 𝓢 w v.slot v.message ≡ some k → Good w x (w.line ++ (v ∷ vs)) → Good (queued 𝓢 w v) x (w.line ++ (v ∷ []) ++ vs)
    stays k e g =
        subst (Good (queued 𝓢 w v) x) (sym (append_assoc w.line (v ∷ []) vs))
        (record { inv = relined w x _ g.inv; each = g.each; once = g.once; stuck = λ u i. still u (Memᴰ.append_cases w.line i) })
      where
        still : (u : Waiter 𝓢) → Memᴰ u w.line ⊎ Memᴰ u (v ∷ []) → (k : ℕ) × (k < 8) × Blocks 𝓢 w.slots (w.line ++ (v ∷ [])) u k
        still u (inl i) =
            let (j, lt, b) = g.stuck u i in
            (j, lt, blocks_as 𝓢 w.slots w.slots w.line (w.line ++ (v ∷ [])) u j (λ c. c) (λ z b. sub_before (sub_front w.line (v ∷ [])) b) b)
        still u (inr i) =
            let l = least_some (in_the_way 𝓢 w.slots w.line v.slot v.message) 8 k e in
            subst (λ z. (k : ℕ) × (k < 8) × Blocks 𝓢 w.slots (w.line ++ (v ∷ [])) z k) (sym (Memᴰ.eq_of_singleton i))
            (k, l.0, way_blocks 𝓢 w.slots w.line (w.line ++ (v ∷ [])) v k (λ z j. before_across w.line j (Memᴰ.head refl)) l.1)

    module _ (e : obstacle 𝓢 w v.slot v.message ≡ none) (g : Good w x (w.line ++ (v ∷ vs))) where
      -- The other sends are of other slots.
      others : (u : Waiter 𝓢) → Memᴰ u (w.line ++ vs) → u.slot ≡ v.slot → ⊥
      others = once_drop 𝓢 w.line v vs g.once

      -- It starts.
      starts : Good (started 𝓢 w v.slot v.message) x (w.line ++ vs)
      starts =
          record {
            inv = started_keeps 𝓢 𝓛 w x g.inv v.slot r.below (ap (λ z. (standing 𝓢 z).running) r.is_open ∙ r.is_idle) v.message r.latest
                (no_lock w v.slot v.message e);
            each = λ u i.
                ready_as 𝓢 w.slots _ x.slots x.slots u (put_other w.slots v.slot _ u.slot (others u i)) refl
                (g.each u (sub_in (sub_drop w.line v vs) i));
            once = once_sub 𝓢 (sub_drop w.line v vs) g.once;
            stuck = λ u i.
                let (j, lt, b) = g.stuck u i in
                (j, lt, blocks_as 𝓢 w.slots _ w.line w.line u j (start_grow w.slots v.slot v.message u.message j) (λ z b. b) b);
          }
        where
          r : Ready 𝓢 w.slots x.slots v
          r = g.each v (Memᴰ.append_right w.line (Memᴰ.head refl))

      -- It blocks nobody that it did not: it was ahead of those behind it, and it clashes with none of those ahead.
      starts_less : (withdrawn : ℕ → Type 0) → Less withdrawn w.slots (w.line ++ (v ∷ vs)) (started 𝓢 w v.slot v.message).slots (w.line ++ vs)
      starts_less withdrawn u i =
          record {
            was = sub_in (sub_drop w.line v vs) i;
            for_less = λ k b. go k b (start_less w.slots v.slot v.message (w.line ++ vs) u k b);
            order = λ z ne b m. kept z m (before_append w.line b);
          }
        where
          low : u.slot < 8
          low = (g.each u (sub_in (sub_drop w.line v vs) i)).below

          behind : (z : Waiter 𝓢) → meets z.message u.message ≡ true → Memᴰ u w.line → Memᴰ z (v ∷ vs) → Before u z (w.line ++ vs)
          behind z m j (Memᴰ.head q) = absurd (true≢false (sym m ∙ ap (λ y. meets y.message u.message) q
              ∙ no_send w v.slot v.message e u j (others u i) low))
          behind z m j (Memᴰ.tail l) = before_across w.line j l

          after : (z : Waiter 𝓢) → Before u z (v ∷ vs) → Before u z (w.line ++ vs)
          after z (first q l) = absurd (others u i (ap (λ y. y.slot) q))
          after z (later b) = before_right w.line b

          kept : (z : Waiter 𝓢) → meets z.message u.message ≡ true
              → Before u z w.line ⊎ ((Memᴰ u w.line × Memᴰ z (v ∷ vs)) ⊎ Before u z (v ∷ vs)) → Before u z (w.line ++ vs)
          kept z m (inl b) = sub_before (sub_front w.line vs) b
          kept z m (inr (inl b)) = behind z m b.0 b.1
          kept z m (inr (inr b)) = after z b

          met : (k : ℕ) → (k ≡ u.slot → ⊥) → k ≡ v.slot → meets u.message v.message ≡ true → Memᴰ u w.line ⊎ Memᴰ u vs
              → Blocks 𝓢 w.slots (w.line ++ (v ∷ vs)) u k
          met k ne q m (inl j) = absurd (true≢false (sym m ∙ meets_sym u.message v.message
              ∙ no_send w v.slot v.message e u j (others u i) low))
          met k ne q m (inr j) = ahead ne v (before_right w.line (first refl j)) (sym q) m

          go : (k : ℕ) → Blocks 𝓢 (started 𝓢 w v.slot v.message).slots (w.line ++ vs) u k
              → Blocks 𝓢 w.slots (w.line ++ vs) u k ⊎ ((k ≡ v.slot) × (meets u.message v.message ≡ true))
              → Blocks 𝓢 w.slots (w.line ++ (v ∷ vs)) u k
          go k b (inl c) =
              blocks_as 𝓢 w.slots w.slots (w.line ++ vs) (w.line ++ (v ∷ vs)) u k (λ z. z) (λ z d. sub_before (sub_drop w.line v vs) d) c
          go k b (inr c) = met k (blocks_other 𝓢 b) c.0 c.1 (Memᴰ.append_cases w.line i)

  -- ---- the end of a transaction

  -- Waking.
  wake_keeps : (withdrawn : ℕ → Type 0) (slots : ℕ → Slot 𝓢) (q : List (Waiter 𝓢)) (w : World 𝓢) (x : Course 𝓢) (vs : List (Waiter 𝓢))
      → Good w x (w.line ++ vs) → Less withdrawn slots q w.slots (w.line ++ vs)
      → Good (wake 𝓢 w vs) x (wake 𝓢 w vs).line × Less withdrawn slots q (wake 𝓢 w vs).slots (wake 𝓢 w vs).line
  wake_keeps withdrawn slots q w x vs g l =
      subst (λ z. Good (wake 𝓢 w vs) x z × Less withdrawn slots q (wake 𝓢 w vs).slots z) (append-nil (wake 𝓢 w vs).line)
      (wake_by 𝓢 (λ w vs. Good w x (w.line ++ vs) × Less withdrawn slots q w.slots (w.line ++ vs))
      (λ w v vs k e h. (stays w x v vs k e h.0, subst (Less withdrawn slots q w.slots) (sym (append_assoc w.line (v ∷ []) vs)) h.1))
      (λ w v vs e h. (starts w x v vs e h.0, less_trans h.1 (starts_less w x v vs e h.0 withdrawn)))
      vs w (g, l))

  -- A slot closes, its send in the line, if any, is withdrawn, and the others are woken.
  pub ended_keeps : (w : World 𝓢) (x x' : Course 𝓢) (s : ℕ) (F : Fields) → Good w x w.line → Invariant 𝓢 𝓛 (closed_over 𝓢 w s F) x'
      → ((k : ℕ) → (k ≡ s → ⊥) → x'.slots k ≡ x.slots k)
      → (withdrawn : ℕ → Type 0) → ((u : Waiter 𝓢) → Memᴰ u w.line → u.slot ≡ s → withdrawn u.slot)
      → Good (ended 𝓢 w s F) x' (ended 𝓢 w s F).line × Less withdrawn w.slots w.line (ended 𝓢 w s F).slots (ended 𝓢 w s F).line
  ended_keeps w x x' s F g inv same withdrawn its =
      wake_keeps withdrawn w.slots w.line (closed_over 𝓢 w s F) x' (without 𝓢 s w.line)
      (record {
        inv = inv;
        each = λ v i.
            ready_as 𝓢 w.slots _ x.slots x'.slots v (put_other w.slots s closed v.slot (away v i)) (same v.slot (away v i))
            (g.each v (sub_in part i));
        once = once_sub 𝓢 part g.once;
        stuck = λ v i. absurd (Memᴰ.not-nil i);
      })
      (λ v i. record {
        was = sub_in part i;
        for_less = λ k b. blocks_as 𝓢 _ w.slots (without 𝓢 s w.line) w.line v k (freed v k) (λ u d. sub_before part d) b;
        order = λ u ne b m.
            keep_before (λ v. not (eqb v.slot s)) w.line v u b (in_keep (λ v. not (eqb v.slot s)) w.line i).1
            (ap not (ne_eqb u.slot s (λ e. ne (its u (before_in b).1 e))));
      })
    where
      part : Sub (without 𝓢 s w.line) w.line
      part = sub_keep (λ v. not (eqb v.slot s)) w.line

      away : (v : Waiter 𝓢) → Memᴰ v (without 𝓢 s w.line) → v.slot ≡ s → ⊥
      away = without_away 𝓢 s w.line

      freed : (v : Waiter 𝓢) (k : ℕ) → clash v.message (held_by 𝓢 (put w.slots s closed k)) ≡ true → clash v.message (held_by 𝓢 (w.slots k)) ≡ true
      freed v = at_or (λ k. clash v.message (held_by 𝓢 (put w.slots s closed k)) ≡ true → clash v.message (held_by 𝓢 (w.slots k)) ≡ true) s
          (λ c. absurd (false≢true (sym (clash_none v.message) ∙ sym (ap (λ z. clash v.message (held_by 𝓢 z)) (put_same w.slots s closed)) ∙ c)))
          (λ k ne c. sym (ap (λ z. clash v.message (held_by 𝓢 z)) (put_other w.slots s closed k ne)) ∙ c)

  -- ---- a slot changes that is not in the line

  module _ (w : World 𝓢) (x : Course 𝓢) (g : Good w x w.line) (s : ℕ) (away : (v : Waiter 𝓢) → Memᴰ v w.line → v.slot ≡ s → ⊥) where
    -- It keeps its locks, or gets more.
    pub line_keeps : (F : Fields) (z : Slot 𝓢) (x' : Course 𝓢) → ((k : ℕ) → (k ≡ s → ⊥) → x'.slots k ≡ x.slots k)
        → ((n : Message) (k : ℕ) → clash n (held_by 𝓢 (w.slots k)) ≡ true → clash n (held_by 𝓢 (put w.slots s z k)) ≡ true)
        → Invariant 𝓢 𝓛 (record { fields = F; slots = put w.slots s z; line = w.line }) x'
        → Good (record { fields = F; slots = put w.slots s z; line = w.line }) x' w.line
    line_keeps F z x' same grow inv =
        record {
          inv = inv;
          each = λ v i.
              ready_as 𝓢 w.slots _ x.slots x'.slots v (put_other w.slots s z v.slot (away v i)) (same v.slot (away v i)) (g.each v i);
          once = g.once;
          stuck = λ v i. let (j, lt, b) = g.stuck v i in (j, lt, blocks_as 𝓢 w.slots _ w.line w.line v j (grow v.message j) (λ u d. d) b);
        }

    -- With the same locks it blocks the same sends.
    pub same_less : (withdrawn : ℕ → Type 0) (z : Slot 𝓢) → held_by 𝓢 z ≡ held_by 𝓢 (w.slots s) → Less withdrawn w.slots w.line (put w.slots s z) w.line
    same_less withdrawn z e v i =
        record {
          was = i;
          for_less = λ k b.
              blocks_as 𝓢 _ w.slots w.line w.line v k (λ c. ap (clash v.message) (sym (same_held 𝓢 w.slots s z e k)) ∙ c) (λ u d. d) b;
          order = λ u ne b m. b;
        }

    pub same_grow : (z : Slot 𝓢) → held_by 𝓢 z ≡ held_by 𝓢 (w.slots s) → (n : Message) (k : ℕ) → clash n (held_by 𝓢 (w.slots k)) ≡ true
        → clash n (held_by 𝓢 (put w.slots s z k)) ≡ true
    same_grow z e n k c = ap (clash n) (same_held 𝓢 w.slots s z e k) ∙ c

    -- A message starts that clashes only with sends that its slot blocked already.
    pub start_keeps_less : (withdrawn : ℕ → Type 0) (m : Message)
        → ((v : Waiter 𝓢) → Memᴰ v w.line → meets v.message m ≡ true → clash v.message (held_by 𝓢 (w.slots s)) ≡ true)
        → Less withdrawn w.slots w.line (started 𝓢 w s m).slots w.line
    start_keeps_less withdrawn m met v i =
        record { was = i; for_less = λ k b. go k (blocks_other 𝓢 b) (start_less w.slots s m w.line v k b); order = λ u ne b c. b }
      where
        go : (k : ℕ) → (k ≡ v.slot → ⊥) → Blocks 𝓢 w.slots w.line v k ⊎ ((k ≡ s) × (meets v.message m ≡ true)) → Blocks 𝓢 w.slots w.line v k
        go k ne (inl b) = b
        go k ne (inr b) = holder ne (ap (λ (j : ℕ). clash v.message (held_by 𝓢 (w.slots j))) b.0 ∙ met v i b.1)

    -- ---- a send joins the line

    module _ (m : Message) where
      abbrev pub newcomer : Waiter 𝓢
      newcomer = record { slot = s; message = m }

      pub joined_keeps : (x' : Course 𝓢) → ((k : ℕ) → (k ≡ s → ⊥) → x'.slots k ≡ x.slots k) → s < 8 → (standing 𝓢 (w.slots s)).running ≡ none
          → (x'.slots s).latest ≡ some m → (k : ℕ) → obstacle 𝓢 w s m ≡ some k
          → Invariant 𝓢 𝓛 (with_slot 𝓢 w s (opened (standing 𝓢 (w.slots s)))) x' → Good (joined 𝓢 w s m) x' (joined 𝓢 w s m).line
      joined_keeps x' same below idle latest k e inv =
          subst (Good (joined 𝓢 w s m) x') (append-nil _)
          (stays opens x' newcomer [] k (ap (λ p. least p 8) (fun_ext seen) ∙ e)
          (record { inv = inv; each = λ v i. ready v (Memᴰ.append_cases w.line i); once = once_add 𝓢 w.line newcomer before.once away; stuck = before.stuck }))
        where
          z : Slot 𝓢
          z = opened (standing 𝓢 (w.slots s))

          opens : World 𝓢
          opens = with_slot 𝓢 w s z

          before : Good opens x' w.line
          before = line_keeps w.fields z x' same (same_grow z refl) inv

          seen : (t : ℕ) → in_the_way 𝓢 opens.slots w.line s m t ≡ in_the_way 𝓢 w.slots w.line s m t
          seen t = ap (λ l. not (eqb t s) && (clash m l || any (λ v. eqb v.slot t && meets m v.message) w.line)) (same_held 𝓢 w.slots s z refl t)

          ready : (v : Waiter 𝓢) → Memᴰ v w.line ⊎ Memᴰ v (newcomer ∷ []) → Ready 𝓢 opens.slots x'.slots v
          ready v (inl i) = before.each v i
          ready v (inr i) = subst (Ready 𝓢 opens.slots x'.slots) (sym (Memᴰ.eq_of_singleton i))
              (record { below = below; transaction = standing 𝓢 (w.slots s); is_open = put_same w.slots s z; is_idle = idle; latest = latest })

      -- No slot comes to block a send that waited.
      pub joined_less : (withdrawn : ℕ → Type 0) (v : Waiter 𝓢) → Memᴰ v (joined 𝓢 w s m).line
          → Stays withdrawn w.slots w.line (joined 𝓢 w s m).slots (joined 𝓢 w s m).line v ⊎ (v ≡ newcomer)
      joined_less withdrawn v i = go (Memᴰ.append_cases w.line i)
        where
          z : Slot 𝓢
          z = opened (standing 𝓢 (w.slots s))

          old : Memᴰ v w.line → (u : Waiter 𝓢)
              → Before u v w.line ⊎ ((Memᴰ u w.line × Memᴰ v (newcomer ∷ [])) ⊎ Before u v (newcomer ∷ [])) → Before u v w.line
          old j u (inl b) = b
          old j u (inr (inl b)) = absurd (away v j (ap (λ z. z.slot) (Memᴰ.eq_of_singleton b.1)))
          old j u (inr (inr b)) = absurd (Memᴰ.not-nil (before_tail b))

          go : Memᴰ v w.line ⊎ Memᴰ v (newcomer ∷ [])
              → Stays withdrawn w.slots w.line (joined 𝓢 w s m).slots (joined 𝓢 w s m).line v ⊎ (v ≡ newcomer)
          go (inl j) = inl (record {
            was = j;
            for_less = λ k b. blocks_as 𝓢 _ w.slots _ w.line v k (λ c. ap (clash v.message) (sym (same_held 𝓢 w.slots s z refl k)) ∙ c)
                (λ u d. old j u (before_append w.line d)) b;
            order = λ u ne b c. sub_before (sub_front w.line (newcomer ∷ [])) b;
          })
          go (inr j) = inr (Memᴰ.eq_of_singleton j)
