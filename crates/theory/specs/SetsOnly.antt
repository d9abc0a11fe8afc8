-- Vectors are sound, second half: a message changes a field only as its vector allows, and each step leaves a run of the message.
use Rattle.std.specs.Prelude.{ℕ, ◌<◌, ◌≡◌, Bool, cond, length, leb, ltb}
use Rattle.std.proofs.Math.Path.{refl}
use Rattle.std.proofs.Common.{sym, subst}
use Rattle.std.proofs.Math.Bool.{true, false}
use mathlib.Core.List.Memᴰ
use mathlib.Core.List.{List, [], ◌∷◌, Memᴰ}
use Rattle.model.specs.Word.{Name}
use Rattle.model.specs.Form.{Action, assign, send, send_prefixed, reply, Statement}
use Rattle.model.specs.Library.{class_number, body_of}
use Rattle.model.specs.Mode.{Null}
use Rattle.model.specs.Graph.{Node, callee}
use Rattle.model.specs.Vector.{Program, in_expression, in_action, in_guard, in_statement, mention, mode_of}
use Rattle.model.specs.Message.{Message, class_of, size_of, place_of, look, Effect, idle, store_at, Activation, Run, opened, visit, Outcome, goes, ends, stops, onward, with_rest, with_got, replied, worth, holds, called, perform, guarded, plus_reply, object_ends, body_ends, in_body, on_object, limited, turn}
use Rattle.laws.specs.Lists.{same_refl}
use Rattle.laws.specs.Modes.{Le, le_refl, le_left, le_right, le_trans}
use Rattle.vector_theory.specs.VectorLaws.{body_at, Compiled}
use Rattle.theory.specs.Places.{field_place, by_place}
use Rattle.theory.specs.Footprint.{Visits, mode_at, May}
use Rattle.theory.specs.Coverage.{Covered, AllCovered, CoveredOn, Of, callee_covered, cons_covered, visit_of, covered_within}

module _ (p : Program) (m : Message) where
  -- What a step may give: a run of the message, with an effect that the message may have.
  abbrev pub Fine : Outcome → Type 0
  Fine (goes r e) = Of p m r × May p m e
  Fine (ends v e) = May p m e
  Fine stops = Unit {0}

  fine_if : (b : Bool) (x : Outcome) → Fine x → Fine (cond b x stops)
  fine_if true x f = f
  fine_if false x f = tt

  fine_limited : (x : Outcome) → Fine x → Fine (limited x)
  fine_limited (goes r e) f = fine_if (ltb r.steps 1024) (goes r e) f
  fine_limited (ends v e) f = f
  fine_limited stops f = tt

  fine_unless : (b : Bool) (x : Outcome) → Fine x → Fine (cond b stops x)
  fine_unless true x f = tt
  fine_unless false x f = f

module _ (p : Program) (right : Compiled p) (m : Message) where
  -- The run on its object o, with os to come.
  module _ (r : Run) (i : Of p m r) (o : ℕ) (os : List ℕ) (now : r.objects ≡ o ∷ os) where
    -- Each rule of a step is fine.
    visits_now : Visits p m o
    visits_now = i.visiting o (subst (λ x. Memᴰ o x) (sym now) (Memᴰ.head refl))

    onward_fine : (stack : List Activation) (e : Effect) → AllCovered p (class_of p o) m.method stack → May p m e → Fine p m (onward r stack e)
    onward_fine stack e c y =
        (record { its = i.its; visiting = i.visiting; covered = subst (λ x. CoveredOn p m.method x stack) (sym now) c }, y)

    called_fine : (a : Activation) (below : List Activation) (body : List Statement) (v : ℕ) → AllCovered p (class_of p o) m.method (a ∷ below)
        → ((s : Statement) → Memᴰ s body → Covered p (class_of p o) m.method s) → Fine p m (called r a below body v)
    called_fine a below body v c b =
        fine_unless p m (leb 8 (length (a ∷ below))) (onward r (opened body v ∷ a ∷ below) idle)
        (onward_fine (opened body v ∷ a ∷ below) idle (cons_covered p m (class_of p o) (opened body v) (a ∷ below) b c) tt)

    perform_fine : (a : Activation) (below : List Activation) (fields : Name → ℕ) (x : Action) → AllCovered p (class_of p o) m.method (a ∷ below)
        → ((v : Node) → Memᴰ v (callee p.library (class_of p o) x)
        → (t : Statement) → Memᴰ t (body_at p.library p.resolve v) → Covered p (class_of p o) m.method t)
        → ((f : Name) → field_place p o f < size_of p o → Le (in_action f x) (mode_at p m o (field_place p o f)))
        → Fine p m (perform p r o a below fields x)
    unfolding callee in_action
    perform_fine a below fields (assign how f e) c behind within =
        onward_fine (a ∷ below) (store_at how (place_of p o f) (worth a fields e)) c
        (by_place p (λ y. May p m (store_at how y (worth a fields e))) o f tt
        (λ h. record {
          on = o;
          at = field_place p o f;
          visits = visits_now;
          inside = h;
          there = refl;
          allowed = le_trans (subst (λ b. Le (mode_of how) (cond b (mode_of how) Null)) (sym (same_refl f)) (le_refl (mode_of how)))
              (le_trans (le_left (mention (mode_of how) f f) (in_expression f e)) (within f h));
        }))
    perform_fine a below fields (send n e) c behind within =
        called_fine a below (body_of p.library p.resolve (class_of p o) n) (worth a fields e) c (behind _ (Memᴰ.head refl))
    perform_fine a below fields (send_prefixed d n e) c behind within =
        called_fine a below (body_of p.library p.resolve (class_number p.library d) n) (worth a fields e) c (behind _ (Memᴰ.head refl))
    perform_fine a below fields (reply e) c behind within =
        onward_fine (replied a (worth a fields e) ∷ below) idle
        (cons_covered p m (class_of p o) (replied a (worth a fields e)) below (λ s k. absurd (Memᴰ.not-nil k)) (λ b k. c b (Memᴰ.tail k)))
        tt

    guarded_fine : (a : Activation) (below : List Activation) (fields : Name → ℕ) (s : Statement) (b : Bool)
        → AllCovered p (class_of p o) m.method (a ∷ below) → Covered p (class_of p o) m.method s
        → Fine p m (guarded p r o a below fields s.action b)
    unfolding in_statement
    guarded_fine a below fields s true c q =
        perform_fine a below fields s.action c (λ v k. callee_covered p m (class_of p o) s v q k)
        (λ f h. le_trans (le_right (in_guard f s.guard) (in_action f s.action)) (covered_within p right m o s f q h))
    guarded_fine a below fields s false c q = onward_fine (a ∷ below) idle c tt

    ends_fine : (v : ℕ) (qs : List ℕ) → ((q : ℕ) → Memᴰ q qs → Visits p m q) → Fine p m (object_ends p r qs v)
    ends_fine v [] visits = tt
    ends_fine v (q ∷ qs) visits =
        let sum = plus_reply r.sum v in
        (subst (λ x. Of p m (visit p x (q ∷ qs) sum)) (sym i.its) (visit_of p m (q ∷ qs) sum visits), tt)

    object_ends_fine : (v : ℕ) → Fine p m (object_ends p r os v)
    object_ends_fine v = ends_fine v os (λ q k. i.visiting q (subst (λ x. Memᴰ q x) (sym now) (Memᴰ.tail k)))

    body_ends_fine : (a : Activation) (below : List Activation) → AllCovered p (class_of p o) m.method below → Fine p m (body_ends p r os a below)
    body_ends_fine a [] c = object_ends_fine a.reply
    body_ends_fine a (b ∷ bs) c =
        onward_fine (with_got b a.reply ∷ bs) idle
        (cons_covered p m (class_of p o) (with_got b a.reply) bs (c b (Memᴰ.head refl)) (λ d k. c d (Memᴰ.tail k))) tt

    body_fine : (a : Activation) (below : List Activation) (fields : Name → ℕ) (ss : List Statement)
        → ((s : Statement) → Memᴰ s ss → Covered p (class_of p o) m.method s) → AllCovered p (class_of p o) m.method below
        → Fine p m (in_body p r o os a below fields ss)
    body_fine a below fields [] top c = body_ends_fine a below c
    body_fine a below fields (s ∷ ss) top c =
        guarded_fine (with_rest a ss) below fields s (holds a fields s.guard)
        (cons_covered p m (class_of p o) (with_rest a ss) below (λ t k. top t (Memᴰ.tail k)) c) (top s (Memᴰ.head refl))

  object_fine : (r : Run) → Of p m r → (fields os : List ℕ) (stack : List Activation) → r.objects ≡ os
      → CoveredOn p m.method os stack → Fine p m (on_object p r fields os stack)
  object_fine r i fields [] stack now c = tt
  object_fine r i fields (o ∷ os) [] now c = object_ends_fine r i o os now 0
  object_fine r i fields (o ∷ os) (a ∷ below) now c =
      body_fine r i o os now a below (look p fields o) a.rest (c a (Memᴰ.head refl)) (λ b k. c b (Memᴰ.tail k))

  -- A step leads to runs of the same message, and has effects that the message may have.
  pub turn_fine : (r : Run) (fields : List ℕ) → Of p m r → Fine p m (turn p r fields)
  unfolding turn
  turn_fine r fields i =
      fine_limited p m (on_object p r fields r.objects r.activations) (object_fine r i fields r.objects r.activations refl i.covered)

  -- What a step leaves is a run of the message.
  pub of_turn : (r r' : Run) (e : Effect) (fields : List ℕ) → Of p m r → turn p r fields ≡ goes r' e → Of p m r'
  of_turn r r' e fields i q = (subst (Fine p m) q (turn_fine r fields i)).0

  -- Each effect is one that the message may have.
  pub may_goes : (r r' : Run) (e : Effect) (fields : List ℕ) → Of p m r → turn p r fields ≡ goes r' e → May p m e
  may_goes r r' e fields i q = (subst (Fine p m) q (turn_fine r fields i)).1

  pub may_ends : (r : Run) (v : ℕ) (e : Effect) (fields : List ℕ) → Of p m r → turn p r fields ≡ ends v e → May p m e
  may_ends r v e fields i q = subst (Fine p m) q (turn_fine r fields i)
