-- The plain course runs a send object by object; the machine runs it step by step. Where the steps come to an answer, the course
-- comes to the same answer and the same fields.
use Rattle.std.specs.Prelude.{ℕ, suc, ◌-◌, ◌<◌, ◌≡◌, refl, Bool, true, false, cond, length, leb, ltb}
use Rattle.std.proofs.Common.{arith, subst, ◌∙◌}
use Rattle.std.proofs.Math.Path.{sym, ap}
use Rattle.std.proofs.Math.Option.{some}
use mathlib.Core.List.{List, [], ◌∷◌}
use Rattle.model.specs.Word.{Name}
use Rattle.model.specs.Form.{Action, assign, send, send_prefixed, reply, Statement}
use Rattle.model.specs.Library.{class_number, body_of}
use Rattle.model.specs.Vector.{Program}
use Rattle.model.specs.Message.{Message, class_of, visited, place_of, look, Effect, idle, act, store_at, Activation, Run, opened, visit, Outcome, goes, ends, stops, onward, with_rest, with_got, replied, worth, holds, called, perform, guarded, plus_reply, object_ends, in_body, on_object, limited, turn}
use Rattle.model.specs.Alone.{Ran, then_run, go_on, finished, object_by_object, alone}
use Rattle.model.specs.Machine.{service}
use Rattle.twophase.specs.Laws.{Part, start, more}
use Rattle.laws.specs.Lists.{ltb_true}

-- The result of a step on an object: the message stays there, the object ends with a reply, or the message is stopped.
data Step : Type 0 where
  stays : List Activation → Effect → Step
  over : ℕ → Step
  halts : Step

module _ (p : Program) (m : Message) (o : ℕ) (n : ℕ) where
  -- A run on the object o, with the objects os to come and a sum so far.
  abbrev at : List Activation → List ℕ → ℕ → Run
  at stack os sum = record { message = m; objects = o ∷ os; activations = stack; steps = n; sum = sum }

  -- The outcome of the step there.
  abbrev made : List Activation → List ℕ → ℕ → Step → Outcome
  made stack os sum (stays after e) = onward (at stack os sum) after e
  made stack os sum (over v) = object_ends p (at stack os sum) os v
  made stack os sum halts = stops

  -- The outcome is that of one step, whatever objects are to come and whatever the sum.
  abbrev Alike : List Activation → (List ℕ → ℕ → Outcome) → Type 0
  Alike stack outcome = (x : Step) × ((os : List ℕ) (sum : ℕ) → outcome os sum ≡ made stack os sum x)

  -- The outcome of each rule of a step is of this kind.
  called_alike : (stack : List Activation) (a : Activation) (below : List Activation) (body : List Statement) (v : ℕ)
      → Alike stack (λ os sum. called (at stack os sum) a below body v)
  called_alike stack a below body v = go (leb 8 (length (a ∷ below)))
    where
      go : (b : Bool) → Alike stack (λ os sum. cond b stops (onward (at stack os sum) (opened body v ∷ a ∷ below) idle))
      go true = (halts, λ os sum. refl)
      go false = (stays (opened body v ∷ a ∷ below) idle, λ os sum. refl)

  perform_alike : (stack : List Activation) (a : Activation) (below : List Activation) (fields : Name → ℕ) (x : Action)
      → Alike stack (λ os sum. perform p (at stack os sum) o a below fields x)
  perform_alike stack a below fields (assign how f e) = (stays (a ∷ below) (store_at how (place_of p o f) (worth a fields e)), λ os sum. refl)
  perform_alike stack a below fields (send k e) = called_alike stack a below (body_of p.library p.resolve (class_of p o) k) (worth a fields e)
  perform_alike stack a below fields (send_prefixed c k e) =
      called_alike stack a below (body_of p.library p.resolve (class_number p.library c) k) (worth a fields e)
  perform_alike stack a below fields (reply e) = (stays (replied a (worth a fields e) ∷ below) idle, λ os sum. refl)

  guarded_alike : (stack : List Activation) (a : Activation) (below : List Activation) (fields : Name → ℕ) (x : Action) (b : Bool)
      → Alike stack (λ os sum. guarded p (at stack os sum) o a below fields x b)
  guarded_alike stack a below fields x true = perform_alike stack a below fields x
  guarded_alike stack a below fields x false = (stays (a ∷ below) idle, λ os sum. refl)

  body_alike : (stack : List Activation) (a : Activation) (below : List Activation) (fields : Name → ℕ) (ss : List Statement)
      → Alike stack (λ os sum. in_body p (at stack os sum) o os a below fields ss)
  body_alike stack a [] fields [] = (over a.reply, λ os sum. refl)
  body_alike stack a (b ∷ bs) fields [] = (stays (with_got b a.reply ∷ bs) idle, λ os sum. refl)
  body_alike stack a below fields (s ∷ ss) = guarded_alike stack (with_rest a ss) below fields s.action (holds a fields s.guard)

  object_alike : (fields : List ℕ) (stack rest : List Activation) → Alike stack (λ os sum. on_object p (at stack os sum) fields (o ∷ os) rest)
  object_alike fields stack [] = (over 0, λ os sum. refl)
  object_alike fields stack (a ∷ below) = body_alike stack a below (look p fields o) a.rest

  -- A step that stays on the object is not its 1,024th.
  abbrev InTime : Step → Type 0
  InTime (stays after e) = suc n < 1024
  InTime (over v) = Unit {0}
  InTime halts = Unit {0}

  -- So is the outcome under the limit on an object's steps.
  limited_alike : (stack : List Activation) (x : Step)
      → (y : Step) × ((os : List ℕ) (sum : ℕ) → limited (made stack os sum x) ≡ made stack os sum y) × InTime y
  limited_alike stack (stays after e) = go (ltb (suc n) 1024) refl
    where
      go : (b : Bool) → ltb (suc n) 1024 ≡ b
          → (y : Step) × ((os : List ℕ) (sum : ℕ) → cond b (onward (at stack os sum) after e) stops ≡ made stack os sum y) × InTime y
      go true q = (stays after e, λ os sum. refl, ltb_true (suc n) 1024 q)
      go false q = (halts, λ os sum. refl, tt)
  limited_alike stack (over v) = (over v, next, tt)
    where
      next : (os : List ℕ) (sum : ℕ) → limited (object_ends p (at stack os sum) os v) ≡ object_ends p (at stack os sum) os v
      next [] sum = refl
      next (q ∷ qs) sum = refl
  limited_alike stack halts = (halts, λ os sum. refl, tt)

  -- The outcome of `turn` is of this kind.
  turn_alike : (fields : List ℕ) (stack : List Activation)
      → (x : Step) × ((os : List ℕ) (sum : ℕ) → turn p (at stack os sum) fields ≡ made stack os sum x) × InTime x
  unfolding turn
  turn_alike fields stack =
      let (x, e) = object_alike fields stack stack in
      let (y, d, t) = limited_alike stack x in
      (y, λ os sum. ap limited (e os sum) ∙ d os sum, t)

-- ---- the rest of the course from a run on

-- The current object to its end, then the others.
abbrev rest : Program → Run → List ℕ → List ℕ → Ran
rest p r [] fields = some (r.sum, fields)
rest p r (o ∷ os) fields =
    then_run (finished p (1024 - r.steps) (at p r.message o r.steps r.activations [] 0) fields)
    (λ v after. object_by_object p r.message os (plus_reply r.sum v) after)

-- Where the message comes to its next objects, this is the course's own run.
rest_visit : (p : Program) (m : Message) (os : List ℕ) (sum : ℕ) (fields : List ℕ)
    → rest p (visit p m os sum) os fields ≡ object_by_object p m os sum fields
unfolding object_by_object
rest_visit p m [] sum fields = refl
rest_visit p m (o ∷ os) sum fields = refl

-- A step does not change what the course gives.
abbrev Keeps : Program → Run → List ℕ → Outcome → Type 0
Keeps p r fields (goes r' e) = (rest p r r.objects fields ≡ rest p r' r'.objects (act e fields)) × (r'.steps < 1024)
Keeps p r fields (ends v e) = rest p r r.objects fields ≡ some (v, act e fields)
Keeps p r fields stops = Unit {0}

-- The course adds replies that have already been reduced.
sum_reply : (sum v : ℕ) → plus_reply sum (plus_reply 0 v) ≡ plus_reply sum v
sum_reply sum v = omega arith

-- With steps left, the course takes the same step.
finished_turn : (p : Program) (n : ℕ) (r : Run) (fields : List ℕ) → n < 1024
    → finished p (1024 - n) r fields ≡ go_on (turn p r fields) fields (λ next after. finished p (1024 - suc n) next after)
unfolding finished
finished_turn p n r fields h = let e : 1024 - n ≡ suc (1024 - suc n) = omega arith in ap (λ k. finished p k r fields) e

module _ (p : Program) (m : Message) (o : ℕ) (n : ℕ) (h : n < 1024) (fields : List ℕ) (stack : List Activation) where
  -- The course's run of the object takes the step too.
  finished_made : (x : Step) → turn p (at p m o n stack [] 0) fields ≡ made p m o n stack [] 0 x
      → finished p (1024 - n) (at p m o n stack [] 0) fields
      ≡ go_on (made p m o n stack [] 0 x) fields (λ next after. finished p (1024 - suc n) next after)
  finished_made x q =
      finished_turn p n (at p m o n stack [] 0) fields h ∙ ap (λ y. go_on y fields (λ next after. finished p (1024 - suc n) next after)) q

  -- Where the object ends, the other objects are left.
  object_over : (os : List ℕ) (sum v : ℕ) → turn p (at p m o n stack [] 0) fields ≡ made p m o n stack [] 0 (over v)
      → rest p (at p m o n stack os sum) (o ∷ os) fields ≡ object_by_object p m os (plus_reply sum v) fields
  object_over os sum v q =
      ap (λ x. then_run x (λ v after. object_by_object p m os (plus_reply sum v) after)) (finished_made (over v) q)
      ∙ ap (λ s. object_by_object p m os s fields) (sum_reply sum v)

  -- So a step does not change what the course gives.
  keeps_made : (os : List ℕ) (sum : ℕ) (x : Step) → turn p (at p m o n stack [] 0) fields ≡ made p m o n stack [] 0 x → InTime p m o n x
      → Keeps p (at p m o n stack os sum) fields (made p m o n stack os sum x)
  unfolding object_by_object
  keeps_made os sum (stays after e) q t =
      (ap (λ x. then_run x (λ v after. object_by_object p m os (plus_reply sum v) after)) (finished_made (stays after e) q), t)
  keeps_made [] sum (over v) q t = object_over [] sum v q
  keeps_made (k ∷ ks) sum (over v) q t = (object_over (k ∷ ks) sum v q ∙ sym (rest_visit p m (k ∷ ks) (plus_reply sum v) fields), omega arith)
  keeps_made os sum halts q t = tt

-- No step of `turn` changes it.
turn_keeps : (p : Program) (r : Run) (fields : List ℕ) → r.steps < 1024 → Keeps p r fields (turn p r fields)
unfolding turn
turn_keeps p r fields h = each r.objects
  where
    on : (os : List ℕ) → Run
    on os = record { message = r.message; objects = os; activations = r.activations; steps = r.steps; sum = r.sum }

    each : (os : List ℕ) → Keeps p (on os) fields (turn p (on os) fields)
    each [] = refl
    each (o ∷ os) =
        let (x, e, t) = turn_alike p r.message o r.steps fields r.activations in
        subst (Keeps p (on (o ∷ os)) fields) (sym (e os r.sum))
        (keeps_made p r.message o r.steps h fields r.activations os r.sum x (e [] 0) t)

-- ---- the steps of a message

-- At every moment the rest of the course gives what it gives from the start.
part_rest : (p : Program) (m : Message) {first : List ℕ} {r : Run} {fields : List ℕ} → Part (service p) m first r fields
    → (alone p m first ≡ rest p r r.objects fields) × (r.steps < 1024)
unfolding alone
part_rest p m {first} start = (sym (rest_visit p m (visited p m.target) 0 first), omega arith)
part_rest p m (more {r = r} {G = fields} r' e t q) =
    let (d, h) = part_rest p m t in
    let (c, k) = subst (Keeps p r fields) q (turn_keeps p r fields h) in
    (d ∙ c, k)

-- Where the steps of a message from `first` on end with an answer, the course's run from `first` has that answer and those fields.
pub alone_end : (p : Program) (m : Message) (first fields : List ℕ) (r : Run) (v : ℕ) (e : Effect) → Part (service p) m first r fields
    → turn p r fields ≡ ends v e → alone p m first ≡ some (v, act e fields)
alone_end p m first fields r v e t q =
    let (d, h) = part_rest p m t in
    d ∙ subst (Keeps p r fields) q (turn_keeps p r fields h)
