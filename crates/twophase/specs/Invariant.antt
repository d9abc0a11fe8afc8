-- The invariant of machine and course, and what follows from it at one moment. The central lemma is `view`: a slot's messages see
-- the fields as if their transaction ran alone on the course's fields.
use Rattle.std.specs.Prelude.{ℕ, zero, suc, ◌≤◌, ◌<◌, ◌≡◌, refl, true, false, List, [], ◌∷◌, ◌++◌}
use Rattle.std.proofs.Math.Path.{sym, ap, subst}
use Rattle.std.proofs.Common.{◌∙◌}
use Rattle.std.proofs.Math.Option.{Option, none, some}
use Rattle.model.specs.Base.{any, put}
use Rattle.laws.specs.Basics.{put_cases, All, In, all_at, all_of, none_passes, each_fails}
use Rattle.model.specs.Service.{Service, Transaction, Slot, closed, opened, World, standing, held_by, Answered, Sends, Course, fields_after, answer_of, replayed, compared_in}
use Rattle.twophase.specs.Claims.{Right}
use Rattle.twophase.specs.Laws.{Part, Free, Laws}
use Rattle.twophase.specs.Effects.{acts, over, Swap, Apart, pull, push}

module _ (𝓢 : Service) (𝓛 : Laws 𝓢) where
  open 𝓢 use {Fields, Message, Run, Effect, Undo, turn, act, put_back, clash, meets, holds, alone}
  open 𝓛 use {Ok, Of, May, Agree, Aside, agree_refl, agree_sym, agree_trans, agree_act, turn_local, ok_act, meets_sym, clash_none, holds_meets, free_commute, free_agree, aside_back, aside_clean, back_clean}

  -- ---- the invariant

  -- Each effect is one that some of the messages may have.
  abbrev pub Made : List Message → List Effect → Type 0
  Made ms d = All (λ e. (m : Message) × In m ms × May m e) d

  -- No message of one list clashes with one of the other.
  abbrev pub AllFree : List Message → List Message → Type 0
  AllFree ms ms' = All (λ m. All (Free 𝓢 m) ms') ms

  -- The two agree wherever one of the messages may read.
  abbrev pub AllAgree : List Message → Fields → Fields → Type 0
  AllAgree ms F G = All (λ m. Agree m F G) ms

  -- The state of an open transaction that was granted the messages ms and had the effects d, over the course's fields P. Each
  -- claim about the course is made for all fields Q that the transaction cannot distinguish from P.

  -- No message runs: the answered sends, run in order, have these effects.
  pub record Idle (P : Fields) (ms : List Message) (d : List Effect) (s : Sends 𝓢) : Type 0 where
    pub same : (Q : Fields) → AllAgree ms P Q → acts act d Q ≡ replayed 𝓢 s.list Q

  -- A message runs: it is the latest send, and run alone after the answered sends it reaches this run and these effects.
  pub record Busy (P : Fields) (ms : List Message) (d : List Effect) (s : Sends 𝓢) (r : Run) : Type 0 where
    pub message : Message
    pub among : In message ms
    pub of : Of message r
    pub latest : s.latest ≡ some message
    pub part : (Q : Fields) → AllAgree ms P Q → Part 𝓢 message (replayed 𝓢 s.list Q) r (acts act d Q)

  -- What is known, by the running message, if any.
  abbrev pub Activity : Fields → List Message → List Effect → Sends 𝓢 → Option Run → Type 0
  Activity P ms d s none = Idle P ms d s
  Activity P ms d s (some r) = Busy P ms d s r

  -- An open slot: a message clashes with its locks if it clashes with a message granted; the effects of a message that clashes with
  -- none leave the noted places alone; the notes undo the effects; the answers given are those of the course; and what is known of
  -- the running message.
  pub record Open (P : Fields) (ms : List Message) (d : List Effect) (y : Transaction 𝓢) (s : Sends 𝓢) : Type 0 where
    pub held : (m : Message) → clash m y.locks ≡ any (meets m) ms
    pub far : (m : Message) → All (Free 𝓢 m) ms → (e : Effect) → May m e → Aside y.undo e
    pub undoes : put_back y.undo (acts act d P) ≡ P
    pub right : (Q : Fields) → AllAgree ms P Q → All Right (compared_in 𝓢 s.list Q)
    pub activity : Activity P ms d s y.running

  -- The state of a slot; a closed one has no messages, no effects and no answered sends.
  abbrev pub SlotState : Fields → List Message → List Effect → Sends 𝓢 → Slot 𝓢 → Type 0
  SlotState P ms d s closed = (ms ≡ []) × (d ≡ []) × (s.list ≡ [])
  SlotState P ms d s (opened y) = Open P ms d y s

  -- Machine and course: for each slot the messages granted to its open transaction and that transaction's effects, latest first.
  -- The messages of different slots do not clash, and the machine's fields are the course's with all these effects.
  pub record Invariant (w : World 𝓢) (x : Course 𝓢) : Type 0 where
    pub messages : ℕ → List Message
    pub effects : ℕ → List Effect
    pub free : (t k : ℕ) → (t ≡ k → ⊥) → AllFree (messages t) (messages k)
    pub made : (t : ℕ) → Made (messages t) (effects t)
    pub slot : (t : ℕ) → SlotState x.fields (messages t) (effects t) (x.slots t) (w.slots t)
    pub high : (t : ℕ) → 8 ≤ t → w.slots t ≡ closed
    pub ok : Ok x.fields
    pub total : w.fields ≡ over act 8 effects x.fields
    pub good : All Right x.compared

  -- ---- effects of messages that do not clash

  -- Freedom from clashes is symmetric.
  pub free_sym : (m m' : Message) → Free 𝓢 m m' → Free 𝓢 m' m
  free_sym m m' f = meets_sym m' m ∙ f

  -- A message's effect commutes with effects of messages that do not clash with it.
  swap_one : (m : Message) (e : Effect) → May m e → (ms : List Message) → All (Free 𝓢 m) ms → (d : List Effect) → Made ms d
      → (F : Fields) → act e (acts act d F) ≡ acts act d (act e F)
  swap_one m e may ms free [] made F = refl
  swap_one m e may ms free (e' ∷ d) made F =
      let (m', i, may') = made.0 in
      free_commute m m' e e' (acts act d F) (all_at (Free 𝓢 m) ms m' i free) may may' ∙ ap (act e') (swap_one m e may ms free d made.1 F)

  -- Two lists of such effects commute.
  swap_lists : (ms ms' : List Message) → AllFree ms ms' → (d d' : List Effect) → Made ms d → Made ms' d' → Swap act d d'
  swap_lists ms ms' free [] d' made made' F = refl
  swap_lists ms ms' free (e ∷ d) d' made made' F =
      let (m, i, may) = made.0 in
      ap (act e) (swap_lists ms ms' free d d' made.1 made' F)
      ∙ swap_one m e may ms' (all_at (λ m. All (Free 𝓢 m) ms') ms m i free) d' made' (acts act d F)

  -- The effects of any two slots commute.
  pub apart : (messages : ℕ → List Message) (effects : ℕ → List Effect)
      → ((t k : ℕ) → (t ≡ k → ⊥) → AllFree (messages t) (messages k))
      → ((t : ℕ) → Made (messages t) (effects t)) → Apart act effects
  apart messages effects free made t k ne = swap_lists (messages t) (messages k) (free t k ne) (effects t) (effects k) (made t) (made k)

  -- Putting back commutes with the effects of messages that do not clash.
  pub back_acts : (ms : List Message) (u : Undo) → ((m : Message) → All (Free 𝓢 m) ms → (e : Effect) → May m e → Aside u e)
      → (ms' : List Message) → AllFree ms' ms → (d : List Effect) → Made ms' d → (F : Fields) → put_back u (acts act d F) ≡ acts act d (put_back u F)
  back_acts ms u far ms' free [] made F = refl
  back_acts ms u far ms' free (e ∷ d) made F =
      let (m, i, may) = made.0 in
      aside_back u e (acts act d F) (far m (all_at (λ m. All (Free 𝓢 m) ms) ms' m i free) e may)
      ∙ ap (act e) (back_acts ms u far ms' free d made.1 F)

  -- Putting back commutes with the effects of all slots.
  back_over : (n : ℕ) (u : Undo) (effects : ℕ → List Effect)
      → ((k : ℕ) (F : Fields) → put_back u (acts act (effects k) F) ≡ acts act (effects k) (put_back u F))
      → (F : Fields) → put_back u (over act n effects F) ≡ over act n effects (put_back u F)
  back_over zero u effects back F = refl
  back_over (suc n) u effects back F = back n (over act n effects F) ∙ ap (acts act (effects n)) (back_over n u effects back F)

  -- The same effects preserve agreement.
  agree_acts : (m : Message) (d : List Effect) (F G : Fields) → Agree m F G → Agree m (acts act d F) (acts act d G)
  agree_acts m [] F G a = a
  agree_acts m (e ∷ d) F G a = agree_act m e _ _ (agree_acts m d F G a)

  -- A message does not see the effects of messages that do not clash with it.
  pub agree_made : (m : Message) (ms : List Message) → All (Free 𝓢 m) ms → (d : List Effect) → Made ms d → (F : Fields) → Agree m F (acts act d F)
  agree_made m ms free [] made F = agree_refl m F
  agree_made m ms free (e ∷ d) made F =
      let (m', i, may) = made.0 in
      agree_trans m F (acts act d F) _ (agree_made m ms free d made.1 F) (free_agree m m' e (acts act d F) (all_at (Free 𝓢 m) ms m' i free) may)

  -- It does not see those of all slots together.
  agree_over : (n : ℕ) (m : Message) (effects : ℕ → List Effect) → ((k : ℕ) (F : Fields) → Agree m F (acts act (effects k) F))
      → (F : Fields) → Agree m F (over act n effects F)
  agree_over zero m effects each F = agree_refl m F
  agree_over (suc n) m effects each F = agree_trans m F (over act n effects F) _ (agree_over n m effects each F) (each n _)

  -- A transaction's effects preserve fields that can occur.
  pub ok_acts : (ms : List Message) (d : List Effect) → Made ms d → (F : Fields) → Ok F → Ok (acts act d F)
  ok_acts ms [] made F ok = ok
  ok_acts ms (e ∷ d) made F ok = let (m, i, may) = made.0 in ok_act m e _ (ok_acts ms d made.1 F ok) may

  -- The effects of all slots do too.
  ok_over : (n : ℕ) (messages : ℕ → List Message) (effects : ℕ → List Effect) → ((t : ℕ) → Made (messages t) (effects t))
      → (F : Fields) → Ok F → Ok (over act n effects F)
  ok_over zero messages effects made F ok = ok
  ok_over (suc n) messages effects made F ok = ok_acts (messages n) (effects n) (made n) _ (ok_over n messages effects made F ok)

  -- It is symmetric for lists of messages.
  pub all_free_sym : (ms ms' : List Message) → AllFree ms ms' → AllFree ms' ms
  all_free_sym ms ms' free = all_of (λ m. All (Free 𝓢 m) ms) ms' (λ m i. all_of (Free 𝓢 m) ms (back m i))
    where
      back : (m : Message) → In m ms' → (m' : Message) → In m' ms → Free 𝓢 m m'
      back m i m' j = free_sym m' m (all_at (Free 𝓢 m') ms' m i (all_at (λ m. All (Free 𝓢 m) ms') ms m' j free))

  -- An open slot's state holds over other fields of the course that its transaction cannot distinguish and that its notes restore.
  pub over_other : (P P' : Fields) (ms : List Message) (d : List Effect) (y : Transaction 𝓢) (s : Sends 𝓢) → AllAgree ms P P'
      → put_back y.undo (acts act d P') ≡ P' → Open P ms d y s → Open P' ms d y s
  over_other P P' ms d y s alike undoes o =
      record { held = o.held; far = o.far; undoes = undoes; right = λ Q a. o.right Q (tell Q a); activity = active y.running o.activity }
    where
      tell : (Q : Fields) → AllAgree ms P' Q → AllAgree ms P Q
      tell Q a =
          all_of (λ m. Agree m P Q) ms (λ m i. agree_trans m P P' Q (all_at (λ m. Agree m P P') ms m i alike) (all_at (λ m. Agree m P' Q) ms m i a))

      active : (r : Option Run) → Activity P ms d s r → Activity P' ms d s r
      active none v = record { same = λ Q a. v.same Q (tell Q a) }
      active (some r) v = record { message = v.message; among = v.among; of = v.of; latest = v.latest; part = λ Q a. v.part Q (tell Q a) }

  -- ---- one more send at the end of a slot's list

  -- The fields after the list.
  pub replayed_more : (ys : List (Answered 𝓢)) (y : Answered 𝓢) (F : Fields)
      → replayed 𝓢 (ys ++ (y ∷ [])) F ≡ fields_after 𝓢 (alone y.message (replayed 𝓢 ys F)) (replayed 𝓢 ys F)
  replayed_more [] y F = refl
  replayed_more (z ∷ ys) y F = replayed_more ys y (fields_after 𝓢 (alone z.message F) F)

  -- The answers compared.
  pub right_more : (ys : List (Answered 𝓢)) (y : Answered 𝓢) (F : Fields) → All Right (compared_in 𝓢 ys F)
      → answer_of 𝓢 (alone y.message (replayed 𝓢 ys F)) ≡ some y.answer → All Right (compared_in 𝓢 (ys ++ (y ∷ [])) F)
  right_more [] y F h e = (e, tt)
  right_more (z ∷ ys) y F h e = (h.0, right_more ys y (fields_after 𝓢 (alone z.message F) F) h.1 e)

  -- ---- what follows at one moment

  module _ (w : World 𝓢) (x : Course 𝓢) (inv : Invariant w x) where
    open inv use {messages, effects, free, made}

    -- All slots' effects commute.
    pub all_apart : Apart act effects
    all_apart = apart messages effects free made

    -- The machine's fields can occur.
    pub fields_ok : Ok w.fields
    fields_ok = subst Ok (sym inv.total) (ok_over 8 messages effects made x.fields inv.ok)

    -- Fields agree with themselves for every message.
    pub agree_self : (t : ℕ) → AllAgree (messages t) x.fields x.fields
    agree_self t = all_of (λ m. Agree m x.fields x.fields) (messages t) (λ m i. agree_refl m x.fields)

    module _ (t : ℕ) where
      -- The effects of the other slots, none for this one.
      abbrev pub others : ℕ → List Effect
      others = put effects t []

      -- A message of the slot is free of another slot's messages.
      pub free_from : (m : Message) → In m (messages t) → (k : ℕ) → (t ≡ k → ⊥) → All (Free 𝓢 m) (messages k)
      free_from m i k ne = all_at (λ m. All (Free 𝓢 m) (messages k)) (messages t) m i (free t k ne)

      -- A closed slot's state.
      pub closed_state : w.slots t ≡ closed → (messages t ≡ []) × (effects t ≡ []) × ((x.slots t).list ≡ [])
      closed_state q = subst (SlotState x.fields (messages t) (effects t) (x.slots t)) q (inv.slot t)

      -- An open slot's state.
      pub open_state : (y : Transaction 𝓢) → w.slots t ≡ opened y → Open x.fields (messages t) (effects t) y (x.slots t)
      open_state y q = subst (SlotState x.fields (messages t) (effects t) (x.slots t)) q (inv.slot t)

      -- The state of the transaction that a send to the slot belongs to: a closed slot is as one that a new transaction opened.
      pub standing_state : Open x.fields (messages t) (effects t) (standing 𝓢 (w.slots t)) (x.slots t)
      unfolding any
      standing_state = go (w.slots t) (inv.slot t)
        where
          go : (z : Slot 𝓢) → SlotState x.fields (messages t) (effects t) (x.slots t) z
              → Open x.fields (messages t) (effects t) (standing 𝓢 z) (x.slots t)
          go (opened y) v = v
          go closed v =
              record {
                held = λ m. clash_none m ∙ sym (ap (any (meets m)) v.0);
                far = λ m f e may. aside_clean e;
                undoes = back_clean _ ∙ ap (λ d. acts act d x.fields) v.1;
                right = λ Q a. subst (λ l. All Right (compared_in 𝓢 l Q)) (sym v.2) tt;
                activity = record { same = λ Q a. ap (λ d. acts act d Q) v.1 ∙ ap (λ l. replayed 𝓢 l Q) (sym v.2) };
              }

      -- A message that clashes with none of the slot's locks is free of its messages, and the other way round.
      pub clear_free : (m : Message) → clash m (held_by 𝓢 (w.slots t)) ≡ false → All (Free 𝓢 m) (messages t)
      clear_free m c = none_passes (meets m) (messages t) (sym (standing_state.held m) ∙ c)

      pub free_clear : (m : Message) → All (Free 𝓢 m) (messages t) → clash m (held_by 𝓢 (w.slots t)) ≡ false
      free_clear m f = standing_state.held m ∙ each_fails (meets m) (messages t) f

      -- The slot's effects commute with the others'.
      pub swap_others : (k : ℕ) → Swap act (effects t) (others k)
      swap_others = put_cases (λ k d. Swap act (effects t) d) effects t [] (λ F. refl) (λ k ne. all_apart t k (λ e. ne (sym e)))

      -- Putting back one slot's notes removes its effects, which were applied after those of the others.
      pub back_below : (n : ℕ) (y : Transaction 𝓢) → w.slots t ≡ opened y
          → put_back y.undo (acts act (effects t) (over act n others x.fields)) ≡ over act n others x.fields
      back_below n y q =
          ap (put_back y.undo) (push act n (effects t) others x.fields swap_others)
          ∙ back_over n y.undo others backs _ ∙ ap (over act n others) state.undoes
        where
          state : Open x.fields (messages t) (effects t) y (x.slots t)
          state = open_state y q

          backs : (k : ℕ) (F : Fields) → put_back y.undo (acts act (others k) F) ≡ acts act (others k) (put_back y.undo F)
          backs = put_cases (λ k d. (F : Fields) → put_back y.undo (acts act d F) ≡ acts act d (put_back y.undo F)) effects t [] (λ F. refl)
              (λ k ne. back_acts (messages t) y.undo state.far (messages k) (free k t ne) (effects k) (made k))

      module _ (below : t < 8) where
        -- The slot's effects may be applied after all others.
        pub split : w.fields ≡ acts act (effects t) (over act 8 others x.fields)
        split = inv.total ∙ pull act 8 t effects x.fields below all_apart

        -- A message of the slot sees the fields as if its transaction ran alone on the course's fields.
        pub view : (m : Message) → In m (messages t) → Agree m w.fields (acts act (effects t) x.fields)
        view m i =
            subst (λ F. Agree m F (acts act (effects t) x.fields)) (sym split)
            (agree_acts m (effects t) _ _ (agree_sym m _ _ (agree_over 8 m others each x.fields)))
          where
            each : (k : ℕ) (F : Fields) → Agree m F (acts act (others k) F)
            each = put_cases (λ k d. (F : Fields) → Agree m F (acts act d F)) effects t [] (λ F. agree_refl m F)
                (λ k ne. agree_made m (messages k) (free_from m i k (λ e. ne (sym e))) (effects k) (made k))

        -- Its next step is the one that it would take if its transaction ran alone on such fields.
        pub same_turn : (m : Message) (r : Run) → In m (messages t) → Of m r → (Q : Fields) → AllAgree (messages t) x.fields Q
            → turn r (acts act (effects t) Q) ≡ turn r w.fields
        same_turn m r i of Q a =
            turn_local m r _ _ of
            (agree_trans m _ _ _ (agree_acts m (effects t) _ _ (agree_sym m _ _ (all_at (λ m. Agree m x.fields Q) (messages t) m i a)))
            (agree_sym m _ _ (view m i)))

    -- A message all of whose locks a slot holds clashes with no lock of another slot.
    pub own_clear : (t : ℕ) (m : Message) → holds m (held_by 𝓢 (w.slots t)) ≡ true → (k : ℕ) → (k ≡ t → ⊥) → clash m (held_by 𝓢 (w.slots k)) ≡ false
    own_clear t m h k ne =
        free_clear k m (all_of (Free 𝓢 m) (messages k)
        (λ n i. free_sym n m (holds_meets m n (held_by 𝓢 (w.slots t)) h (free_clear t n (free_from k n i t ne)))))
