-- Names are known in every running message: each object that it visits has its method, and the class of the current object knows
-- the names of the remaining statements.
use Rattle.std.specs.Prelude.{ℕ, ◌≡◌, Bool, not, cond, ◌&&◌, ◌||◌, List, [], ◌∷◌, length, get_or, eqb, leb, ltb}
use Rattle.std.proofs.Common.{arith, sym, ap}
use Rattle.std.proofs.Math.Path.{refl, subst}
use Rattle.std.proofs.Math.Bool.{true, false}
use Rattle.std.proofs.Math.Option.{Option, none, some}
use Rattle.std.proofs.lemmas.List.{length-map}
use Rattle.std.proofs.lemmas.Bool.{not-true}
use Rattle.model.specs.Word.{Name}
use Rattle.model.specs.Form.{Action, assign, send, send_prefixed, reply, Statement}
use Rattle.model.specs.Library.{Member, Class, Library, Resolution, among, member, member_place, class_number, is_class, class_name, class_at, statements_of, body_of, method_names}
use Rattle.model.specs.Fault.{strange, strange_guard}
use Rattle.model.specs.Vector.{Program}
use Rattle.model.specs.Message.{Target, object, class, domain, Message, class_of, in_domain, in_target, visited, place_of, look, Effect, idle, store_at, Activation, Run, opened, visit, begun, Outcome, goes, ends, stops, onward, with_rest, with_got, replied, worth, holds, called, perform, guarded, plus_reply, object_ends, body_ends, in_body, on_object, limited, turn}
use Rattle.model.specs.Machine.{Request, to, method_at, find}
use Rattle.laws.specs.Basics.{All}
use Rattle.laws.specs.Lists.{both_left, both_right, eqb_true, ltb_true}
use Rattle.laws.specs.Lookup.{place_known, name_known}
use Rattle.text_theory.specs.Copies.{Resolves}
use Rattle.text_theory.specs.Heirs.{Wider, grown_same}
use Rattle.text_theory.specs.NamedLines.{body_still}
use Rattle.text_theory.specs.Named.{named_action, named, NamedBody, Names}

-- The class of an object.
abbrev pub class_on : Program → ℕ → Class
class_on p o = class_at p.library (class_of p o)

-- Each object of the message's target has its method.
abbrev pub NamedMessage : Program → Message → Type 0
NamedMessage p m = (o : ℕ) → in_target p m.target o ≡ true → among (class_on p o).methods m.method ≡ true

-- The class of the current object knows the names of the remaining statements of its activations.
abbrev pub NamedOn : Program → List ℕ → List Activation → Type 0
NamedOn p [] below = Unit {0}
NamedOn p (o ∷ os) below = All (λ (a : Activation). NamedBody p.library (class_on p o) a.rest) below

pub record NamedRun (p : Program) (r : Run) : Type 0 where
  pub message : NamedMessage p r.message
  pub rests : NamedOn p r.objects r.activations

-- ---- what a known statement contains

-- The parts of a known action.
abbrev pub KnownAction : Library → Class → Action → Type 0
KnownAction l k (assign how f e) = (among k.fields f ≡ true) × (strange k e ≡ false)
KnownAction l k (send m e) = (among k.methods m ≡ true) × (strange k e ≡ false)
KnownAction l k (send_prefixed c m e) =
    (is_class l c ≡ true) × (k.ancestors (class_number l c) ≡ true) × (among (class_name l c).methods m ≡ true) × (strange k e ≡ false)
KnownAction l k (reply e) = strange k e ≡ false

module _ (l : Library) (k : Class) where
  action_known : (x : Action) → named_action l k x ≡ true → KnownAction l k x
  action_known (assign how f e) h =
      let t = among k.fields f in
      (both_left t (not (strange k e)) h, not-true (strange k e) (both_right t (not (strange k e)) h))
  action_known (send m e) h =
      let t = among k.methods m in
      (both_left t (not (strange k e)) h, not-true (strange k e) (both_right t (not (strange k e)) h))
  action_known (send_prefixed c m e) h =
      let a = is_class l c in
      let b = k.ancestors (class_number l c) in
      let t = among (class_name l c).methods m in
      let most = both_left (a && b && t) (not (strange k e)) h in
      let two = both_left (a && b) t most in
      (both_left a b two, both_right a b two, both_right (a && b) t most, not-true (strange k e) (both_right (a && b && t) (not (strange k e)) h))
  action_known (reply e) h = not-true (strange k e) h

  -- A known statement's guard names fields that the class has, and its action is known.
  pub guard_known : (s : Statement) → named l k s ≡ true → strange_guard k s.guard ≡ false
  guard_known s h = not-true (strange_guard k s.guard) (both_left (not (strange_guard k s.guard)) (named_action l k s.action) h)

  pub statement_known : (s : Statement) → named l k s ≡ true → KnownAction l k s.action
  statement_known s h = action_known s.action (both_right (not (strange_guard k s.guard)) (named_action l k s.action) h)

-- ---- what a class knows

module _ (l : Library) (names : Names l) where
  module _ (resolve : Resolution) (rule : Resolves l resolve) where
    -- A class knows the names in the body that it runs for a method.
    body_named : (c : ℕ) (m : Name) → NamedBody l (class_at l c) (body_of l resolve c m)
    unfolding body_of member
    body_named c m = go (among (class_at l c).methods m) refl
      where
        go : (b : Bool) → among (class_at l c).methods m ≡ b → NamedBody l (class_at l c) (body_of l resolve c m)
        go true e =
            subst (λ (b : Member). NamedBody l (class_at l c) (statements_of l b)) (sym (rule.copied c m e).1)
            (names.bodies c (member_place (class_at l c).methods m) (place_known (class_at l c).methods m e))
        go false e = subst (NamedBody l (class_at l c)) (sym (rule.lawful.unknown c m e)) tt

    -- It knows the names in the body that an ancestor runs.
    ancestor_named : (c d : ℕ) (m : Name) → (class_at l c).ancestors d ≡ true → NamedBody l (class_at l c) (body_of l resolve d m)
    ancestor_named c d m up =
        let has : Wider (class_at l d) (class_at l c) = record { fields = names.fields c d up; methods = names.methods c d up; ancestors = λ e. names.ancestors c d e up } in
        body_still (class_at l d) (class_at l c) has l l (grown_same l.classes) (body_of l resolve d m) (body_named d m)

-- ---- outcomes

module _ (p : Program) where
  -- The outcome of a step: the names stay known.
  abbrev Named : Outcome → Type 0
  Named (goes r e) = NamedRun p r
  Named (ends v e) = Unit {0}
  Named stops = Unit {0}

  if_named : (b : Bool) (x : Outcome) → Named x → Named (cond b x stops)
  if_named true x h = h
  if_named false x h = tt

  unless_named : (b : Bool) (x : Outcome) → Named x → Named (cond b stops x)
  unless_named true x h = tt
  unless_named false x h = h

  limited_named : (x : Outcome) → Named x → Named (limited x)
  limited_named (goes r e) h = if_named (ltb r.steps 1024) (goes r e) h
  limited_named (ends v e) h = tt
  limited_named stops h = tt

-- ---- a message's objects

module _ (p : Program) (names : Names p.library) where
  abbrev l : Library
  l = p.library

  -- A message to a target whose objects have the methods of class c.
  method_named : (t : Target) (c k a : ℕ)
      → ((o : ℕ) → in_target p t o ≡ true → (n : Name) → among (class_at l c).methods n ≡ true → among (class_on p o).methods n ≡ true)
      → (m : Message) → method_at p t c k a ≡ some m → NamedMessage p m
  method_named t c k a has m e = go (ltb k (length (method_names l c))) refl e
    where
      message : Message
      message = record { target = t; method = get_or (method_names l c) k []; argument = a }

      go : (b : Bool) → ltb k (length (method_names l c)) ≡ b → cond b (some message) none ≡ some m → NamedMessage p m
      go true h q =
          let there = ltb_true k (length (method_names l c)) h in
          subst (NamedMessage p) (let z : message ≡ m = cc in z)
          (λ o i. has o i message.method (name_known (class_at l c).methods k (omega (arith, length-map (class_at l c).methods (λ x. x.name)))))
      go false h q = let z : ◌≡◌ {A = ℕ} 0 1 = cc in absurd (omega arith)

  -- Where there is a message, its target exists.
  there_named : (b : Bool) (x : Option Message) (m : Message) → (x ≡ some m → NamedMessage p m) → cond b x none ≡ some m → NamedMessage p m
  there_named true x m f e = f e
  there_named false x m f e = let z : ◌≡◌ {A = ℕ} 0 1 = cc in absurd (omega arith)

  same_class : (d c : ℕ) → d ≡ c → (n : Name) → among (class_at l c).methods n ≡ true → among (class_at l d).methods n ≡ true
  same_class d c e n h = subst (λ (b : ℕ). among (class_at l b).methods n ≡ true) (sym e) h

  -- A class of a domain has the methods of the domain's class.
  pub domain_methods : (c d : ℕ) → in_domain p c d ≡ true → (n : Name) → among (class_at l c).methods n ≡ true → among (class_at l d).methods n ≡ true
  domain_methods c d = go (eqb d c) refl
    where
      go : (b : Bool) → eqb d c ≡ b → b || (class_at l d).ancestors c ≡ true
          → (n : Name) → among (class_at l c).methods n ≡ true → among (class_at l d).methods n ≡ true
      go true e i = same_class d c (eqb_true d c e)
      go false e i = names.methods d c i

  message_named : (t : Target) (k a : ℕ) (m : Message) → find p (to t k a) ≡ some m → NamedMessage p m
  message_named (object i) k a m =
      there_named (ltb i (length l.objects)) (method_at p (object i) (class_of p i) k a) m
      (method_named (object i) (class_of p i) k a (λ o e. same_class (class_of p o) (class_of p i) (ap (class_of p) (eqb_true o i e))) m)
  message_named (class c) k a m =
      there_named (ltb c (length l.classes)) (method_at p (class c) c k a) m
      (method_named (class c) c k a (λ o e. same_class (class_of p o) c (eqb_true (class_of p o) c e)) m)
  message_named (domain c) k a m =
      there_named (ltb c (length l.classes)) (method_at p (domain c) c k a) m (method_named (domain c) c k a (λ o. domain_methods c (class_of p o)) m)

  -- ---- a step

  module _ (rule : Resolves p.library p.resolve) where
    -- A message at its next objects.
    visit_named : (m : Message) → NamedMessage p m → (os : List ℕ) (sum : ℕ) → NamedRun p (visit p m os sum)
    visit_named m h [] sum = record { message = h; rests = tt }
    visit_named m h (o ∷ os) sum = record { message = h; rests = (body_named l names p.resolve rule (class_of p o) m.method, tt) }

    module _ (r : Run) (h : NamedRun p r) (o : ℕ) (os : List ℕ) (now : r.objects ≡ o ∷ os) where
      abbrev Rests : List Activation → Type 0
      Rests below = All (λ (a : Activation). NamedBody l (class_on p o) a.rest) below

      onward_named : (below : List Activation) (e : Effect) → Rests below → Named p (onward r below e)
      onward_named below e rests = record { message = h.message; rests = subst (λ (xs : List ℕ). NamedOn p xs below) (sym now) rests }

      called_named : (a : Activation) (below : List Activation) (body : List Statement) (v : ℕ) → NamedBody l (class_on p o) body → Rests (a ∷ below)
          → Named p (called r a below body v)
      called_named a below body v b rests =
          unless_named p (leb 8 (length (a ∷ below))) (onward r (opened body v ∷ a ∷ below) idle)
          (onward_named (opened body v ∷ a ∷ below) idle (b, rests))

      perform_named : (a : Activation) (below : List Activation) (fields : Name → ℕ) (x : Action) → KnownAction l (class_on p o) x → Rests (a ∷ below)
          → Named p (perform p r o a below fields x)
      perform_named a below fields (assign how f e) known rests = onward_named (a ∷ below) (store_at how (place_of p o f) (worth a fields e)) rests
      perform_named a below fields (send m e) known rests =
          called_named a below (body_of l p.resolve (class_of p o) m) (worth a fields e) (body_named l names p.resolve rule (class_of p o) m) rests
      perform_named a below fields (send_prefixed d m e) known rests =
          called_named a below (body_of l p.resolve (class_number l d) m) (worth a fields e)
          (ancestor_named l names p.resolve rule (class_of p o) (class_number l d) m known.1) rests
      perform_named a below fields (reply e) known rests = onward_named (replied a (worth a fields e) ∷ below) idle (tt, rests.1)

      guarded_named : (a : Activation) (below : List Activation) (fields : Name → ℕ) (x : Action) (b : Bool) → KnownAction l (class_on p o) x
          → Rests (a ∷ below) → Named p (guarded p r o a below fields x b)
      guarded_named a below fields x true known rests = perform_named a below fields x known rests
      guarded_named a below fields x false known rests = onward_named (a ∷ below) idle rests

      ends_named : (v : ℕ) (qs : List ℕ) → Named p (object_ends p r qs v)
      ends_named v [] = tt
      ends_named v (q ∷ qs) = visit_named r.message h.message (q ∷ qs) (plus_reply r.sum v)

      body_ends_named : (a : Activation) (below : List Activation) → Rests below → Named p (body_ends p r os a below)
      body_ends_named a [] rests = ends_named a.reply os
      body_ends_named a (b ∷ bs) rests = onward_named (with_got b a.reply ∷ bs) idle rests

      in_body_named : (a : Activation) (below : List Activation) (fields : Name → ℕ) (ss : List Statement) → NamedBody l (class_on p o) ss → Rests below
          → Named p (in_body p r o os a below fields ss)
      in_body_named a below fields [] known rests = body_ends_named a below rests
      in_body_named a below fields (s ∷ ss) known rests =
          guarded_named (with_rest a ss) below fields s.action (holds a fields s.guard) (statement_known l (class_on p o) s known.0) (known.1, rests)

    object_named : (r : Run) → NamedRun p r → (fields os : List ℕ) (below : List Activation) → r.objects ≡ os → NamedOn p os below
        → Named p (on_object p r fields os below)
    object_named r h fields [] below now rests = tt
    object_named r h fields (o ∷ os) [] now rests = ends_named r h o os now 0 os
    object_named r h fields (o ∷ os) (a ∷ below) now rests = in_body_named r h o os now a below (look p fields o) a.rest rests.0 rests.1

    -- The names stay known as the message goes on.
    pub turn_named : (r : Run) (fields : List ℕ) → NamedRun p r → (next : Run) (e : Effect) → turn p r fields ≡ goes next e → NamedRun p next
    unfolding turn
    turn_named r fields h next e q =
        subst (Named p) q
        (limited_named p (on_object p r fields r.objects r.activations) (object_named r h fields r.objects r.activations refl h.rests))

    -- The names are known at a message's start.
    pub begun_named : (q : Request) (m : Message) → find p q ≡ some m → NamedRun p (begun p m)
    begun_named (to t k a) m e = visit_named m (message_named t k a m e) (visited p m.target) 0
