-- Each call preserves the invariant and what is known of the line, being one of the moves; so they hold after every list of calls.
-- From them follow the two claims: commit order where no transaction is open, and what can be observed at each moment.
use Rattle.std.specs.Prelude.{ℕ, zero, suc, ◌<◌, ◌≡◌, refl, ◌⊎◌, Bool, true, false, eqb}
use Rattle.std.proofs.Common.{arith, sym, ap, ◌∙◌, subst, inl, inr, true≢false, eq-eqb}
use Rattle.std.proofs.Math.Path.{fun_ext}
use Rattle.std.proofs.Math.Option.{Option, none, some}
use mathlib.Core.List.Memᴰ
use mathlib.Core.List.{List, [], ◌∷◌, Memᴰ}
use Rattle.model.specs.Base.{put}
use Rattle.laws.specs.Basics.{put_same, put_other, below_or}
use Rattle.laws.specs.Lists.{member_any}
use Rattle.model.specs.Service.{Service, Call, send, step, commit, abort, Answer, done, refuse, Transaction, Slot, closed, opened, Waiter, World, fresh, held_by, started, waits, obstacle, joined, in_circle, ended, undone, after, slot_of, call, Sends, Course, no_sends, with_sends, start_course, committed, add_answer, named, fed}
use Rattle.twophase.specs.Claims.{both, put_back_slot, put_back_all, Serial, Moment}
use Rattle.twophase.specs.Laws.{Laws}
use Rattle.twophase.specs.Effects.{acts, over, over_same}
use Rattle.twophase.specs.Invariant.{Invariant, agree_self, closed_state, open_state, back_below, own_clear}
use Rattle.twophase.specs.Moves.{Asks, Move, refused, closes_circle, joins, starts, goes_on, replies, halts, commits, aborts, moves}
use Rattle.twophase.specs.Preserve.{named_keeps, opened_keeps, started_keeps, goes_keeps, ends_keeps, undone_keeps, committed_keeps}
use Rattle.twophase.specs.Line.{open_closed, Ready}
use Rattle.twophase.specs.Waking.{Good, Less, start_grow, no_lock, no_send, ended_keeps, line_keeps, same_less, same_grow, start_keeps_less, joined_keeps}

module _ (𝓢 : Service) (𝓛 : Laws 𝓢) where
  open 𝓢 use {Fields, Request, Message, Run, Effect, act, put_back, clash, meets, holds}
  open 𝓛 use {Ok, meets_sym, holds_meets}

  -- ---- each call

  -- What a call does to the line: it leaves sends that waited, blocked by no more slots than before and in their order, or it adds
  -- one at the end that closes no circle of waits. Only an abort withdraws a send.
  pub data Next (w : World 𝓢) (c : Call Request) : World 𝓢 → Type 0 where
    leaves : (w' : World 𝓢) → Less 𝓢 𝓛 (λ k. c ≡ abort k) w.slots w.line w'.slots w'.line → Next w c w'
    adds : (m : Message) → ((v : Waiter 𝓢) → Memᴰ v w.line → v.slot ≡ slot_of 𝓢 c → ⊥) → in_circle 𝓢 (joined 𝓢 w (slot_of 𝓢 c) m) (slot_of 𝓢 c) ≡ false
        → Next w c (joined 𝓢 w (slot_of 𝓢 c) m)

  -- What is known at each moment.
  abbrev pub Known : World 𝓢 → Course 𝓢 → Type 0
  Known w x = Good 𝓢 𝓛 w x w.line

  module _ (w : World 𝓢) (x : Course 𝓢) (g : Known w x) where
    -- What is known after a call with this answer and this world, and what the call did to the line.
    abbrev Keeps : Call Request → Answer × World 𝓢 → Type 0
    Keeps c y = Known y.1 (fed 𝓢 x c y.0) × Next w c y.1

    -- A refused call changes nothing.
    same_next : (c : Call Request) → Next w c w
    same_next c = leaves w (λ v i. record { was = i; for_less = λ k b. b; order = λ u ne b m. b })

    refuse_keeps : (c : Call Request) (n : ℕ) → Keeps c (refuse n, w)
    refuse_keeps (send s p) n = (g, same_next (send s p))
    refuse_keeps (step s) n = (g, same_next (step s))
    refuse_keeps (commit s) n = (g, same_next (commit s))
    refuse_keeps (abort s) n = (g, same_next (abort s))

    -- The course of the other slots stays.
    put_off : (s : ℕ) (l : Sends 𝓢) (k : ℕ) → (k ≡ s → ⊥) → put x.slots s l k ≡ x.slots k
    put_off s l k ne = put_other x.slots s l k ne

    -- A slot that is closed or does not wait is not in the line.
    not_in_line : (s : ℕ) → waits 𝓢 w.line s ≡ false → (v : Waiter 𝓢) → Memᴰ v w.line → v.slot ≡ s → ⊥
    not_in_line s e v i q = true≢false (sym (member_any (λ v. eqb v.slot s) i (eq-eqb v.slot s q)) ∙ e)

    outside : (s : ℕ) → (w.slots s ≡ closed) ⊎ (waits 𝓢 w.line s ≡ false) → (v : Waiter 𝓢) → Memᴰ v w.line → v.slot ≡ s → ⊥
    outside s (inr e) v i q = not_in_line s e v i q
    outside s (inl e) v i q = let r = g.each v i in open_closed 𝓢 r.transaction (sym r.is_open ∙ ap w.slots q ∙ e)

    module _ (s : ℕ) (q : Request) (m : Message) (a : Asks 𝓢 w s q m) where
      -- The course makes the send its slot's latest.
      abbrev after_naming : Course 𝓢
      after_naming = named 𝓢 x s (some m)

      named_inv : Invariant 𝓢 𝓛 w after_naming
      named_inv = named_keeps 𝓢 𝓛 w x g.inv s a.below a.idle m

      its_latest : (after_naming.slots s).latest ≡ some m
      its_latest = ap (λ l. l.latest) (put_same x.slots s _)

      away : (v : Waiter 𝓢) → Memᴰ v w.line → v.slot ≡ s → ⊥
      away = outside s a.still

      -- A message that starts clashes with no lock of another slot, and with no send in the line that its slot did not block.
      clear : (holds m (held_by 𝓢 (w.slots s)) ≡ true) ⊎ (obstacle 𝓢 w s m ≡ none) → (k : ℕ) → (k ≡ s → ⊥) → k < 8 → clash m (held_by 𝓢 (w.slots k)) ≡ false
      clear (inl h) k ne lt = own_clear 𝓢 𝓛 w x g.inv s m h k ne
      clear (inr o) k ne lt = no_lock 𝓢 𝓛 w s m o k ne lt

      met : (holds m (held_by 𝓢 (w.slots s)) ≡ true) ⊎ (obstacle 𝓢 w s m ≡ none)
          → (v : Waiter 𝓢) → Memᴰ v w.line → meets v.message m ≡ true → clash v.message (held_by 𝓢 (w.slots s)) ≡ true
      met (inr o) v i c = absurd (true≢false (sym c ∙ meets_sym v.message m ∙ no_send 𝓢 𝓛 w s m o v i (away v i) (g.each v i).below))
      met (inl h) v i c = go (clash v.message (held_by 𝓢 (w.slots s))) refl
        where
          go : (b : Bool) → clash v.message (held_by 𝓢 (w.slots s)) ≡ b → b ≡ true
          go true e = refl
          go false e = absurd (true≢false (sym c ∙ holds_meets m v.message (held_by 𝓢 (w.slots s)) h e))

      start_keeps : (holds m (held_by 𝓢 (w.slots s)) ≡ true) ⊎ (obstacle 𝓢 w s m ≡ none) → Known (started 𝓢 w s m) after_naming × Next w (send s q) (started 𝓢 w s m)
      start_keeps h = (
        line_keeps 𝓢 𝓛 w x g s away w.fields _ after_naming (put_off s _) (start_grow 𝓢 𝓛 w.slots s m)
            (started_keeps 𝓢 𝓛 w after_naming named_inv s a.below a.idle m its_latest (clear h)),
        leaves (started 𝓢 w s m) (start_keeps_less 𝓢 𝓛 w x g s away _ m (met h)),
      )

      -- A message joins the line.
      join_keeps : (k : ℕ) → obstacle 𝓢 w s m ≡ some k → in_circle 𝓢 (joined 𝓢 w s m) s ≡ false
          → Known (joined 𝓢 w s m) after_naming × Next w (send s q) (joined 𝓢 w s m)
      join_keeps k o e = (
        joined_keeps 𝓢 𝓛 w x g s away m after_naming (put_off s _) a.below a.idle its_latest k o
            (opened_keeps 𝓢 𝓛 w after_naming named_inv s a.below),
        adds m away e,
      )

    module _ (s : ℕ) (below : s < 8) (y : Transaction 𝓢) (q : w.slots s ≡ opened y) where
      -- A transaction is undone.
      undo_keeps : (withdrawn : ℕ → Type 0) → ((u : Waiter 𝓢) → Memᴰ u w.line → u.slot ≡ s → withdrawn u.slot)
          → Known (undone 𝓢 w s y) (with_sends 𝓢 x s (no_sends 𝓢)) × Less 𝓢 𝓛 withdrawn w.slots w.line (undone 𝓢 w s y).slots (undone 𝓢 w s y).line
      undo_keeps =
          ended_keeps 𝓢 𝓛 w x (with_sends 𝓢 x s (no_sends 𝓢)) s (put_back y.undo w.fields) g (undone_keeps 𝓢 𝓛 w x g.inv s below y q) (put_off s _)

      -- It is committed.
      commit_keeps : waits 𝓢 w.line s ≡ false → y.running ≡ none → Keeps (commit s) (done, ended 𝓢 w s w.fields)
      commit_keeps still n =
          let r = ended_keeps 𝓢 𝓛 w x (committed 𝓢 x s) s w.fields g (committed_keeps 𝓢 𝓛 w x g.inv s below y q n) (put_off s _)
          _ (λ u i e. absurd (not_in_line s still u i e)) in
          (r.0, leaves (ended 𝓢 w s w.fields) r.1)

      -- A step has its effect, and leaves locks and line.
      after_keeps : waits 𝓢 w.line s ≡ false → (e : Effect) (r : Option Run) (x' : Course 𝓢) → ((k : ℕ) → (k ≡ s → ⊥) → x'.slots k ≡ x.slots k)
          → Invariant 𝓢 𝓛 (after 𝓢 w s y e r) x' → Known (after 𝓢 w s y e r) x' × Next w (step s) (after 𝓢 w s y e r)
      after_keeps still e r x' off inv =
          let away = not_in_line s still in (
            line_keeps 𝓢 𝓛 w x g s away _ _ x' off (same_grow 𝓢 𝓛 w x g s away _ (ap (held_by 𝓢) (sym q))) inv,
            leaves (after 𝓢 w s y e r) (same_less 𝓢 𝓛 w x g s away _ _ (ap (held_by 𝓢) (sym q))),
          )

    answered_off : (s v : ℕ) (l : Option Message) (k : ℕ) → (k ≡ s → ⊥) → (add_answer 𝓢 x s v l).slots k ≡ x.slots k
    answered_off s v none k ne = refl
    answered_off s v (some m) k ne = put_off s _ k ne

    -- Every move.
    move_keeps : {c : Call Request} {y : Answer × World 𝓢} → Move 𝓢 w c y → Keeps c y
    move_keeps (refused c n h l) = refuse_keeps c n
    move_keeps (closes_circle s q m k a h o e) = refuse_keeps (send s q) 42
    move_keeps (joins s q m k a h o e) =
        subst (λ f. Known (joined 𝓢 w s m) (named 𝓢 x s f) × Next w (send s q) (joined 𝓢 w s m)) (sym a.found) (join_keeps s q m a k o e)
    move_keeps (starts s q m a h) =
        subst (λ f. Known (started 𝓢 w s m) (named 𝓢 x s f) × Next w (send s q) (started 𝓢 w s m)) (sym a.found) (start_keeps s q m a h)
    move_keeps (goes_on s y r r' e a v) =
        after_keeps s a.below y a.is_open a.still e (some r') x (λ k ne. refl)
        (goes_keeps 𝓢 𝓛 w x g.inv s a.below y a.is_open r a.runs r' e v)
    move_keeps (replies s y r n e a v) =
        after_keeps s a.below y a.is_open a.still e none _ (answered_off s n (x.slots s).latest)
        (ends_keeps 𝓢 𝓛 w x g.inv s a.below y a.is_open r a.runs n e v)
    move_keeps (halts s y r a v) =
        let z = undo_keeps s a.below y a.is_open _ (λ u i e. absurd (not_in_line s a.still u i e)) in (z.0, leaves (undone 𝓢 w s y) z.1)
    move_keeps (commits s y below o still n) = commit_keeps s below y o still n
    move_keeps (aborts s y below o) = let z = undo_keeps s below y o _ (λ u i e. ap abort (sym e)) in (z.0, leaves (undone 𝓢 w s y) z.1)

    -- Every call.
    pub call_keeps : (c : Call Request) → Keeps c (call 𝓢 w c)
    call_keeps c = move_keeps (moves 𝓢 w c)

    -- ---- consequences of the invariant

    -- Undoing the slots below n removes their effects.
    undo_over : (n : ℕ) → put_back_all 𝓢 n w.slots (over act n g.inv.effects x.fields) ≡ x.fields
    undo_over zero = refl
    undo_over (suc n) = ap (put_back_all 𝓢 n w.slots) (go (w.slots n) refl) ∙ undo_over n
      where
        F : Fields
        F = over act n g.inv.effects x.fields

        lower : F ≡ over act n (put g.inv.effects n []) x.fields
        lower = over_same act n g.inv.effects (put g.inv.effects n []) x.fields (λ k lt. sym (put_other g.inv.effects n [] k (omega arith)))

        go : (z : Slot 𝓢) → w.slots n ≡ z → put_back_slot 𝓢 z (acts act (g.inv.effects n) F) ≡ F
        go closed q = ap (λ d. acts act d F) (closed_state 𝓢 𝓛 w x g.inv n q).1
        go (opened y) q = subst (λ G. put_back_slot 𝓢 (opened y) (acts act (g.inv.effects n) G) ≡ G) (sym lower) (back_below 𝓢 𝓛 w x g.inv n n y q)

    -- What can be observed at this moment.
    moment : Moment 𝓢 w x
    moment =
        record {
          undone_fields = ap (put_back_all 𝓢 8 w.slots) g.inv.total ∙ undo_over 8;
          open_answers = λ t y q. (open_state 𝓢 𝓛 w x g.inv t y q).right x.fields (agree_self 𝓢 𝓛 w x g.inv t);
          committed_answers = g.inv.good;
        }

    -- Where no transaction is open, machine and course have the same fields.
    serial : ((t : ℕ) → t < 8 → w.slots t ≡ closed) → Serial 𝓢 w x
    serial shut = record { same_fields = same; same_answers = g.inv.good; as_new = λ i. record { fields = same i; slots = fun_ext none_open i; line = nobody w.line g.each i } }
      where
        same : w.fields ≡ x.fields
        same = g.inv.total ∙ over_same act 8 g.inv.effects (λ k. []) x.fields (λ k lt. (closed_state 𝓢 𝓛 w x g.inv k (shut k lt)).1)

        none_open : (t : ℕ) → w.slots t ≡ closed
        none_open = below_or (λ t. w.slots t ≡ closed) 8 shut g.inv.high

        nobody : (line : List (Waiter 𝓢)) → ((v : Waiter 𝓢) → Memᴰ v line → Ready 𝓢 w.slots x.slots v) → line ≡ []
        nobody [] each = refl
        nobody (v ∷ vs) each =
            let r = each v (Memᴰ.head refl) in absurd (open_closed 𝓢 r.transaction (sym r.is_open ∙ none_open v.slot))

  -- ---- lists of calls

  -- After a start.
  start_invariant : (F : Fields) → Ok F → Invariant 𝓢 𝓛 (fresh 𝓢 F) (start_course 𝓢 F)
  start_invariant F ok =
      record {
        messages = λ t. [];
        effects = λ t. [];
        free = λ t k ne. tt;
        made = λ t. tt;
        slot = λ t. (refl, refl, refl);
        high = λ t far. refl;
        ok = ok;
        total = refl;
        good = tt;
      }

  pub start_known : (F : Fields) → Ok F → Known (fresh 𝓢 F) (start_course 𝓢 F)
  start_known F ok =
      record { inv = start_invariant F ok; each = λ v i. absurd (Memᴰ.not-nil i); once = tt; stuck = λ v i. absurd (Memᴰ.not-nil i) }

  -- After any list of calls.
  pub both_keeps : (w : World 𝓢) (x : Course 𝓢) → Known w x → (cs : List (Call Request)) → let y = both 𝓢 w x cs in Known y.0 y.1
  both_keeps w x g [] = g
  both_keeps w x g (c ∷ cs) = let y = call 𝓢 w c in both_keeps y.1 (fed 𝓢 x c y.0) (call_keeps w x g c).0 cs

  -- Commit order. Where a list of calls after a start leaves no transaction open, the fields are those of the plain course, which
  -- runs each transaction's sends at its commit; each answer in a slot's list at its commit is the one that its run gives; and
  -- the machine is as after a start on these fields.
  pub commit_order : (F : Fields) → Ok F → (cs : List (Call Request)) → let y = both 𝓢 (fresh 𝓢 F) (start_course 𝓢 F) cs in
      ((t : ℕ) → t < 8 → y.0.slots t ≡ closed) → Serial 𝓢 y.0 y.1
  commit_order F ok cs = serial _ _ (both_keeps (fresh 𝓢 F) (start_course 𝓢 F) (start_known F ok) cs)

  -- At each moment. After any list of calls, undoing all open transactions gives the fields of the plain course, that is, of the
  -- committed ones run in commit order; and the answers given to an open transaction are those that it would get running alone on
  -- these fields.
  pub at_each_moment : (F : Fields) → Ok F → (cs : List (Call Request)) → let y = both 𝓢 (fresh 𝓢 F) (start_course 𝓢 F) cs in Moment 𝓢 y.0 y.1
  at_each_moment F ok cs = moment _ _ (both_keeps (fresh 𝓢 F) (start_course 𝓢 F) (start_known F ok) cs)
