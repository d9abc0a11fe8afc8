-- Each transition preserves the invariant: the course names a send, a slot opens to wait, a send is granted, a step has its effect,
-- a slot closes. Theorem says which call makes which transition.
use Rattle.std.specs.Prelude.{ℕ, ◌≤◌, ◌<◌, ◌≡◌, refl, Bool, false, ◌||◌, List, [], ◌∷◌, ◌++◌}
use Rattle.std.proofs.Common.{arith, sym, ap, ◌∙◌, subst}
use Rattle.std.proofs.Math.Option.{Option, none, some}
use Rattle.model.specs.Base.{any, put}
use Rattle.laws.specs.Basics.{put_same, put_other, put_id, put_cases, at_or, below_or, All, In, here, there, all_at, all_of, all_map, all_append}
use Rattle.model.specs.Service.{Service, goes, ends, Compared, Transaction, Slot, closed, opened, World, with_slot, standing, starting, started, advanced, held_by, closed_over, after, Answered, Sends, Course, no_sends, with_sends, fields_after, answer_of, replayed, compared_in, committed, named, add_answer}
use Rattle.twophase.specs.Claims.{Right}
use Rattle.twophase.specs.Laws.{Part, start, more, Free, Laws}
use Rattle.twophase.specs.Effects.{acts, over, push, over_more}
use Rattle.twophase.specs.Invariant.{Made, AllFree, AllAgree, Idle, Busy, Activity, Open, SlotState, Invariant, apart, back_acts, agree_made, ok_acts, all_free_sym, over_other, replayed_more, right_more, all_apart, fields_ok, agree_self, others, free_from, swap_others, closed_state, open_state, standing_state, clear_free, free_sym, back_below, split, view, same_turn}

module _ (𝓢 : Service) (𝓛 : Laws 𝓢) (w : World 𝓢) (x : Course 𝓢) (inv : Invariant 𝓢 𝓛 w x) (t : ℕ) (below : t < 8) where
  open 𝓢 use {Fields, Message, Run, Effect, begun, turn, act, put_back, clash, meets, alone}
  open 𝓛 use {Ok, May, of_begun, of_turn, may_goes, may_ends, clash_lock, back_noted, noted_local, aside_noted, alone_end}
  open inv use {messages, effects, free, made}

  -- The slots from 8 on stay closed.
  still_high : (y : Slot 𝓢) (k : ℕ) → 8 ≤ k → put w.slots t y k ≡ closed
  still_high y k far = put_other w.slots t y k (omega arith) ∙ inv.high k far

  -- The course makes a send the latest of a slot where no message runs.
  pub named_keeps : (standing 𝓢 (w.slots t)).running ≡ none → (m : Message) → Invariant 𝓢 𝓛 w (named 𝓢 x t (some m))
  named_keeps n m =
      record {
        messages = messages;
        effects = effects;
        free = free;
        made = made;
        slot = put_cases (λ k s. SlotState 𝓢 𝓛 x.fields (messages k) (effects k) s (w.slots k)) x.slots t sends
            (now (w.slots t) n (inv.slot t)) (λ k ne. inv.slot k);
        high = inv.high;
        ok = inv.ok;
        total = inv.total;
        good = inv.good;
      }
    where
      sends : Sends 𝓢
      sends = record { latest = some m; list = (x.slots t).list }

      idle : (r : Option Run) → r ≡ none → Activity 𝓢 𝓛 x.fields (messages t) (effects t) (x.slots t) r
          → Activity 𝓢 𝓛 x.fields (messages t) (effects t) sends r
      idle none e v = record { same = v.same }
      idle (some r) e v = absurd (let z : ◌≡◌ {A = ℕ} 0 1 = cc in omega arith)

      now : (z : Slot 𝓢) → (standing 𝓢 z).running ≡ none → SlotState 𝓢 𝓛 x.fields (messages t) (effects t) (x.slots t) z
          → SlotState 𝓢 𝓛 x.fields (messages t) (effects t) sends z
      now closed e v = v
      now (opened y) e v =
          record { held = v.held; far = v.far; undoes = v.undoes; right = v.right; activity = idle y.running e v.activity }

  -- A slot opens, if it was closed, without a start.
  pub opened_keeps : Invariant 𝓢 𝓛 (with_slot 𝓢 w t (opened (standing 𝓢 (w.slots t)))) x
  opened_keeps =
      record {
        messages = messages;
        effects = effects;
        free = free;
        made = made;
        slot = at_or _ t (simp put_same (standing_state 𝓢 𝓛 w x inv t)) (λ k ne. simp (put_other, ne) (inv.slot k));
        high = still_high _;
        ok = inv.ok;
        total = inv.total;
        good = inv.good;
      }

  -- The latest send, which clashes with no other slot's locks, gets its locks and starts.
  pub started_keeps : (standing 𝓢 (w.slots t)).running ≡ none → (m : Message) → (x.slots t).latest ≡ some m
      → ((k : ℕ) → (k ≡ t → ⊥) → k < 8 → clash m (held_by 𝓢 (w.slots k)) ≡ false)
      → Invariant 𝓢 𝓛 (started 𝓢 w t m) x
  unfolding any
  started_keeps n m l clear =
      record {
        messages = grown;
        effects = effects;
        free = put_cases (λ k ms. (s : ℕ) → (k ≡ s → ⊥) → AllFree 𝓢 𝓛 ms (grown s)) messages t (m ∷ messages t)
            (λ s ne. subst (AllFree 𝓢 𝓛 (m ∷ messages t)) (sym (put_other messages t (m ∷ messages t) s (λ e. ne (sym e))))
            (clear_of s (λ e. ne (sym e)), free t s ne))
            (λ k nt. put_cases (λ s ms. (k ≡ s → ⊥) → AllFree 𝓢 𝓛 (messages k) ms) messages t (m ∷ messages t)
            (λ ne. all_free_sym 𝓢 𝓛 (m ∷ messages t) (messages k) (clear_of k nt, free t k (λ e. nt (sym e))))
            (λ s ns ne. free k s ne));
        made = put_cases (λ k ms. Made 𝓢 𝓛 ms (effects k)) messages t (m ∷ messages t)
            (all_map _ _ (effects t) (λ e made. (made.0, there made.1, made.2)) (made t)) (λ k ne. made k);
        slot = at_or _ t (simp put_same now) (λ k ne. simp (put_other, ne) (inv.slot k));
        high = still_high _;
        ok = inv.ok;
        total = inv.total;
        good = inv.good;
      }
    where
      y : Transaction 𝓢
      y = standing 𝓢 (w.slots t)

      before : Open 𝓢 𝓛 x.fields (messages t) (effects t) y (x.slots t)
      before = standing_state 𝓢 𝓛 w x inv t

      idle : Idle 𝓢 𝓛 x.fields (messages t) (effects t) (x.slots t)
      idle = subst (Activity 𝓢 𝓛 x.fields (messages t) (effects t) (x.slots t)) n before.activity

      grown : ℕ → List Message
      grown = put messages t (m ∷ messages t)

      clear_of : (k : ℕ) → (k ≡ t → ⊥) → All (Free 𝓢 m) (messages k)
      clear_of = below_or (λ k. (k ≡ t → ⊥) → All (Free 𝓢 m) (messages k)) 8
          (λ k low ne. clear_free 𝓢 𝓛 w x inv k m (clear k ne low))
          (λ k far ne. subst (All (Free 𝓢 m)) (sym (closed_state 𝓢 𝓛 w x inv k (inv.high k far)).0) tt)

      now : Open 𝓢 𝓛 x.fields (m ∷ messages t) (effects t) (starting 𝓢 y m) (x.slots t)
      now = record {
        held = λ m'. clash_lock m' m y.locks ∙ ap (λ (b : Bool). meets m' m || b) (before.held m');
        far = λ m' f. before.far m' f.1;
        undoes = before.undoes;
        right = λ Q a. before.right Q a.1;
        activity = record {
          message = m;
          among = here refl;
          of = of_begun m;
          latest = l;
          part = λ Q a. subst (Part 𝓢 m (replayed 𝓢 (x.slots t).list Q) (begun m)) (sym (idle.same Q a.1)) start;
        };
      }

  module _ (y : Transaction 𝓢) (q : w.slots t ≡ opened y) where
    -- The slot's state before.
    before : Open 𝓢 𝓛 x.fields (messages t) (effects t) y (x.slots t)
    before = open_state 𝓢 𝓛 w x inv t y q

    -- What is known of the slot, given its running message.
    state : (r : Option Run) → y.running ≡ r → Activity 𝓢 𝓛 x.fields (messages t) (effects t) (x.slots t) r
    state r n = subst (Activity 𝓢 𝓛 x.fields (messages t) (effects t) (x.slots t)) n before.activity

    -- A step has its effect, whatever runs next and whatever the course then holds for the slot.
    pub moved : (m : Message) → In m (messages t) → (e : Effect) → May m e → (r : Option Run) (s : Sends 𝓢)
        → ((Q : Fields) → AllAgree 𝓢 𝓛 (messages t) x.fields Q → All Right (compared_in 𝓢 s.list Q))
        → Activity 𝓢 𝓛 x.fields (messages t) (e ∷ effects t) s r → Invariant 𝓢 𝓛 (after 𝓢 w t y e r) (with_sends 𝓢 x t s)
    moved m i e may r s right activity =
        record {
          messages = messages;
          effects = put effects t (e ∷ effects t);
          free = free;
          made = all_made;
          slot = at_or _ t (simp put_same now) (λ k ne. simp (put_other, ne) (inv.slot k));
          high = still_high _;
          ok = inv.ok;
          total = ap (act e) inv.total
              ∙ over_more act 8 t e effects x.fields below (all_apart 𝓢 𝓛 w x inv)
              (apart 𝓢 𝓛 messages (put effects t (e ∷ effects t)) free all_made);
          good = inv.good;
        }
      where
        all_made : (k : ℕ) → Made 𝓢 𝓛 (messages k) (put effects t (e ∷ effects t) k)
        all_made = put_cases (λ k d. Made 𝓢 𝓛 (messages k) d) effects t (e ∷ effects t) ((m, i, may), made t) (λ k ne. made k)

        now : Open 𝓢 𝓛 x.fields (messages t) (e ∷ effects t) (advanced 𝓢 y e w.fields r) s
        now = record {
          held = before.held;
          far = λ m' f e' may'.
              aside_noted m m' y.undo e e' w.fields (free_sym 𝓢 𝓛 m' m (all_at (Free 𝓢 m') (messages t) m i f)) may may' (before.far m' f e' may');
          undoes = ap (λ u. put_back u (act e (acts act (effects t) x.fields))) (noted_local m y.undo e _ _ may (view 𝓢 𝓛 w x inv t below m i))
              ∙ back_noted m y.undo e _ (ok_acts 𝓢 𝓛 (messages t) (effects t) (made t) _ inv.ok) may ∙ before.undoes;
          right = right;
          activity = activity;
        }

    module _ (r : Run) (n : y.running ≡ some r) where
      -- What is known of the running message.
      busy : Busy 𝓢 𝓛 x.fields (messages t) (effects t) (x.slots t) r
      busy = state (some r) n

      -- A step after which the message goes on.
      pub goes_keeps : (r' : Run) (e : Effect) → turn r w.fields ≡ goes r' e → Invariant 𝓢 𝓛 (after 𝓢 w t y e (some r')) x
      goes_keeps r' e v =
          subst (λ sends. Invariant 𝓢 𝓛 (after 𝓢 w t y e (some r')) (record { fields = x.fields; slots = sends; compared = x.compared }))
          (put_id x.slots t)
          (moved busy.message busy.among e may (some r') (x.slots t) before.right next)
        where
          may : May busy.message e
          may = may_goes busy.message r r' e _ (fields_ok 𝓢 𝓛 w x inv) busy.of v

          next : Busy 𝓢 𝓛 x.fields (messages t) (e ∷ effects t) (x.slots t) r'
          next = record {
            message = busy.message;
            among = busy.among;
            of = of_turn busy.message r r' e _ (fields_ok 𝓢 𝓛 w x inv) busy.of v;
            latest = busy.latest;
            part = λ Q a. more r' e (busy.part Q a) (same_turn 𝓢 𝓛 w x inv t below busy.message r busy.among busy.of Q a ∙ v);
          }

      -- A step that ends the message with its answer.
      pub ends_keeps : (a : ℕ) (e : Effect) → turn r w.fields ≡ ends a e
          → Invariant 𝓢 𝓛 (after 𝓢 w t y e none) (add_answer 𝓢 x t a (x.slots t).latest)
      ends_keeps a e v =
          subst (λ l. Invariant 𝓢 𝓛 (after 𝓢 w t y e none) (add_answer 𝓢 x t a l)) (sym busy.latest)
          (moved busy.message busy.among e may none sends right next)
        where
          may : May busy.message e
          may = may_ends busy.message r a e _ (fields_ok 𝓢 𝓛 w x inv) busy.of v

          list : List (Answered 𝓢)
          list = (x.slots t).list

          sent : Answered 𝓢
          sent = record { message = busy.message; answer = a }

          sends : Sends 𝓢
          sends = record { latest = some busy.message; list = list ++ (sent ∷ []) }

          run : (Q : Fields) → AllAgree 𝓢 𝓛 (messages t) x.fields Q
              → alone busy.message (replayed 𝓢 list Q) ≡ some (a, act e (acts act (effects t) Q))
          run Q c = alone_end busy.message _ _ r a e (busy.part Q c) (same_turn 𝓢 𝓛 w x inv t below busy.message r busy.among busy.of Q c ∙ v)

          right : (Q : Fields) → AllAgree 𝓢 𝓛 (messages t) x.fields Q → All Right (compared_in 𝓢 sends.list Q)
          right Q c = right_more 𝓢 𝓛 list sent Q (before.right Q c) (ap (answer_of 𝓢) (run Q c))

          next : Idle 𝓢 𝓛 x.fields (messages t) (e ∷ effects t) sends
          next = record { same = λ Q c. sym (replayed_more 𝓢 𝓛 list sent Q ∙ ap (λ z. fields_after 𝓢 z (replayed 𝓢 list Q)) (run Q c)) }

    -- A slot closes, over any fields of the course over which the states of the other slots still hold.
    pub shut : (F P : Fields) (l : List Compared) → Ok P → F ≡ over act 8 (others 𝓢 𝓛 w x inv t) P → All Right l
        → ((k : ℕ) → (k ≡ t → ⊥) → (s : Slot 𝓢) → SlotState 𝓢 𝓛 x.fields (messages k) (effects k) (x.slots k) s
        → SlotState 𝓢 𝓛 P (messages k) (effects k) (x.slots k) s)
        → Invariant 𝓢 𝓛 (closed_over 𝓢 w t F) (record { fields = P; slots = put x.slots t (no_sends 𝓢); compared = l })
    shut F P l ok total good stands =
        record {
          messages = left;
          effects = others 𝓢 𝓛 w x inv t;
          free = put_cases (λ k ms. (s : ℕ) → (k ≡ s → ⊥) → AllFree 𝓢 𝓛 ms (left s)) messages t [] (λ s ne. tt)
              (λ k nt. put_cases (λ s ms. (k ≡ s → ⊥) → AllFree 𝓢 𝓛 (messages k) ms) messages t []
              (λ ne. all_free_sym 𝓢 𝓛 [] (messages k) tt) (λ s ns ne. free k s ne));
          made = at_or (λ k. Made 𝓢 𝓛 (left k) (others 𝓢 𝓛 w x inv t k)) t (simp put_same tt) (λ k ne. simp (put_other, ne) (made k));
          slot = at_or _ t (simp put_same (refl, refl, refl)) (λ k ne. simp (put_other, ne) (stands k ne (w.slots k) (inv.slot k)));
          high = still_high _;
          ok = ok;
          total = total;
          good = good;
        }
      where
        left : ℕ → List Message
        left = put messages t []

    -- A slot closes by undoing its transaction.
    pub undone_keeps : Invariant 𝓢 𝓛 (closed_over 𝓢 w t (put_back y.undo w.fields)) (with_sends 𝓢 x t (no_sends 𝓢))
    undone_keeps =
        shut _ x.fields x.compared inv.ok
        (ap (put_back y.undo) (split 𝓢 𝓛 w x inv t below) ∙ back_below 𝓢 𝓛 w x inv t 8 y q) inv.good (λ k ne s v. v)

    -- A slot closes by committing its transaction: its effects are added to the course's fields, and no other slot can
    -- distinguish them.
    pub committed_keeps : y.running ≡ none → Invariant 𝓢 𝓛 (closed_over 𝓢 w t w.fields) (committed 𝓢 x t)
    committed_keeps n =
        subst (λ P. Invariant 𝓢 𝓛 (closed_over 𝓢 w t w.fields) (record { fields = P; slots = put x.slots t (no_sends 𝓢); compared = x.compared ++ list })) replay
        (shut w.fields (acts act (effects t) x.fields) (x.compared ++ list)
        (ok_acts 𝓢 𝓛 (messages t) (effects t) (made t) x.fields inv.ok)
        (split 𝓢 𝓛 w x inv t below ∙ push act 8 (effects t) (others 𝓢 𝓛 w x inv t) x.fields (swap_others 𝓢 𝓛 w x inv t))
        (all_append Right x.compared list inv.good (before.right x.fields (agree_self 𝓢 𝓛 w x inv t)))
        stands)
      where
        list : List Compared
        list = compared_in 𝓢 (x.slots t).list x.fields

        replay : acts act (effects t) x.fields ≡ replayed 𝓢 (x.slots t).list x.fields
        replay = (state none n).same x.fields (agree_self 𝓢 𝓛 w x inv t)

        stands : (k : ℕ) → (k ≡ t → ⊥) → (s : Slot 𝓢) → SlotState 𝓢 𝓛 x.fields (messages k) (effects k) (x.slots k) s
            → SlotState 𝓢 𝓛 (acts act (effects t) x.fields) (messages k) (effects k) (x.slots k) s
        stands k ne closed v = v
        stands k ne (opened z) v =
            over_other 𝓢 𝓛 x.fields (acts act (effects t) x.fields) (messages k) (effects k) z (x.slots k)
            (all_of _ (messages k)
            (λ m i. agree_made 𝓢 𝓛 m (messages t) (free_from 𝓢 𝓛 w x inv k m i t ne) (effects t) (made t) x.fields))
            (ap (put_back z.undo) (all_apart 𝓢 𝓛 w x inv k t ne x.fields)
            ∙ back_acts 𝓢 𝓛 (messages k) z.undo v.far (messages t) (free t k (λ e. ne (sym e))) (effects t) (made t) _
            ∙ ap (acts act (effects t)) v.undoes)
            v
