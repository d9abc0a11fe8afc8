-- A message and how it runs, one step at a time (01, "The machine", "A step runs one statement" and what follows it).
use Rattle.std.specs.Prelude.{ℕ, zero, suc, ◌+◌, ◌%◌, Bool, true, false, not, cond, ◌||◌, List, [], ◌∷◌, map, length, get_or, set, eqb, leb, ltb}
use Rattle.std.proofs.Math.Option.{Option, none, some}
use Rattle.model.specs.Base.{keep, upto}
use Rattle.model.specs.Word.{Name}
use Rattle.model.specs.Expression.{Expression, value_of}
use Rattle.model.specs.Form.{Change, replace, increase, Action, assign, send, send_prefixed, reply, Statement}
use Rattle.model.specs.Library.{class_at, class_number, member_place, body_of}
use Rattle.model.specs.Vector.{Program}
use Rattle.model.specs.Service
pub use Rattle.model.specs.Service.{goes, ends, stops}

-- "one target: an object; a class's own objects; or a class's domain (it and all descendants)"
pub data Target : Type 0 where
  object class domain : ℕ → Target

-- A send whose target and method exist. The method is given by its name: each object runs "its own class's method of that name".
pub record Message : Type 0 where
  pub target : Target
  pub method : Name
  pub argument : ℕ

-- ---- objects

-- The class of an object; a number past the last class where there is no such object.
abbrev pub class_of : Program → ℕ → ℕ
class_of p o = get_or (map (λ x. x.class) p.library.objects) o (length p.library.classes)

-- "a class's domain (it and all descendants)"
abbrev pub in_domain : Program → ℕ → ℕ → Bool
in_domain p c d = eqb d c || (class_at p.library d).ancestors c

abbrev pub in_target : Program → Target → ℕ → Bool
in_target p (object n) o = eqb o n
in_target p (class c) o = eqb (class_of p o) c
in_target p (domain c) o = in_domain p c (class_of p o)

-- "Class and domain messages visit objects in text order"
unfoldable pub visited : Program → Target → List ℕ
unfolding keep upto
visited p t = keep (in_target p t) (upto (λ o. o) (length p.library.objects))

-- ---- fields: "a lent list of u32 values, object by object"

abbrev pub size_of : Program → ℕ → ℕ
size_of p o = length (class_at p.library (class_of p o)).fields

-- Where the values of an object begin.
unfoldable pub base_of : Program → ℕ → ℕ
base_of p zero = 0
base_of p (suc o) = base_of p o + size_of p o

-- Where the value of an object's field is stored; none where its class has no such field.
unfoldable pub place_of : Program → ℕ → Name → Option ℕ
unfolding base_of member_place
place_of p o f =
    let k = member_place (class_at p.library (class_of p o)).fields f in
    cond (ltb k (size_of p o)) (some (base_of p o + k)) none

abbrev pub value_at : List ℕ → Option ℕ → ℕ
value_at fields none = 0
value_at fields (some k) = get_or fields k 0

-- An object's fields, by name.
abbrev pub look : Program → List ℕ → ℕ → Name → ℕ
look p fields o f = value_at fields (place_of p o f)

-- "adds E to F modulo 4,294,967,296". Every value is below that; one that were not would stay as it is, so that what an abort takes
-- back is what was added, whatever the values.
abbrev pub increased : ℕ → ℕ → ℕ
increased x v = cond (ltb x 4294967296) ((x + v) % 4294967296) x

-- The value x changed by v.
abbrev pub changed : Change → ℕ → ℕ → ℕ
changed replace x v = v
changed increase x v = increased x v

-- What a step does to the fields: nothing, or it changes the value at a place.
pub data Effect : Type 0 where
  idle : Effect
  store : Change → ℕ → ℕ → Effect

abbrev pub act : Effect → List ℕ → List ℕ
act idle fields = fields
act (store how k v) fields = set fields k (changed how (get_or fields k 0) v)

abbrev pub store_at : Change → Option ℕ → ℕ → Effect
store_at how none v = idle
store_at how (some k) v = store how k v

-- ---- a running message

-- An activation: the remaining statements of its body, "its own `arg`", its `got` and its reply.
pub record Activation : Type 0 where
  pub rest : List Statement
  pub arg : ℕ
  pub got : ℕ
  pub reply : ℕ

-- A running message: the objects still to visit, the current one first; the activations on the current object, the latest first;
-- the steps taken on it; the sum of the replies so far.
pub record Run : Type 0 where
  pub message : Message
  pub objects : List ℕ
  pub activations : List Activation
  pub steps : ℕ
  pub sum : ℕ

-- "opens an activation with its own `arg`, and `got` 0"; "the reply (0 if none)"
abbrev pub opened : List Statement → ℕ → Activation
opened body arg = record { rest = body; arg = arg; got = 0; reply = 0 }

abbrev pub first_activation : Program → Message → List ℕ → List Activation
first_activation p m [] = []
first_activation p m (o ∷ os) = opened (body_of p.library p.resolve (class_of p o) m.method) m.argument ∷ []

-- The message at its next objects, "each running its own class's method of that name with the send's argument".
abbrev pub visit : Program → Message → List ℕ → ℕ → Run
visit p m os sum = record { message = m; objects = os; activations = first_activation p m os; steps = 0; sum = sum }

abbrev pub begun : Program → Message → Run
begun p m = visit p m (visited p m.target) 0

abbrev pub Outcome : Type 0
Outcome = Service.Outcome Run Effect

-- The outcome of one more step on the same object.
abbrev pub onward : Run → List Activation → Effect → Outcome
onward r below e = goes (record { message = r.message; objects = r.objects; activations = below; steps = suc r.steps; sum = r.sum }) e

abbrev pub with_rest : Activation → List Statement → Activation
with_rest a ss = record { rest = ss; arg = a.arg; got = a.got; reply = a.reply }

abbrev pub with_got : Activation → ℕ → Activation
with_got a v = record { rest = a.rest; arg = a.arg; got = v; reply = a.reply }

-- "A reply sets the reply (0 if none) and goes to the body's end."
abbrev pub replied : Activation → ℕ → Activation
replied a v = record { rest = []; arg = a.arg; got = a.got; reply = v }

abbrev pub worth : Activation → (Name → ℕ) → Expression → ℕ
worth a fields e = value_of fields a.arg a.got e

abbrev pub holds : Activation → (Name → ℕ) → Option Expression → Bool
holds a fields none = true
holds a fields (some e) = not (eqb (worth a fields e) 0)

-- "Stopped (41): a self-call that would open a ninth activation"
abbrev pub called : Run → Activation → List Activation → List Statement → ℕ → Outcome
called r a below body v = cond (leb 8 (length (a ∷ below))) stops (onward r (opened body v ∷ a ∷ below) idle)

-- The statement's action on the object o, in the activation a, which then continues.
abbrev pub perform : Program → Run → ℕ → Activation → List Activation → (Name → ℕ) → Action → Outcome
perform p r o a below fields (assign how f e) = onward r (a ∷ below) (store_at how (place_of p o f) (worth a fields e))
perform p r o a below fields (send m e) = called r a below (body_of p.library p.resolve (class_of p o) m) (worth a fields e)
perform p r o a below fields (send_prefixed c m e) =
    called r a below (body_of p.library p.resolve (class_number p.library c) m) (worth a fields e)
perform p r o a below fields (reply e) = onward r (replied a (worth a fields e) ∷ below) idle

-- "a `when` of value 0 skips it"
abbrev pub guarded : Program → Run → ℕ → Activation → List Activation → (Name → ℕ) → Action → Bool → Outcome
guarded p r o a below fields act' true = perform p r o a below fields act'
guarded p r o a below fields act' false = onward r (a ∷ below) idle

-- The replies' sum, "modulo 4,294,967,296"
abbrev pub plus_reply : ℕ → ℕ → ℕ
plus_reply sum v = (sum + v) % 4294967296

-- The object has ended with a reply: the next object, or the message's answer.
abbrev pub object_ends : Program → Run → List ℕ → ℕ → Outcome
object_ends p r [] v = ends (plus_reply r.sum v) idle
object_ends p r (o ∷ os) v = goes (visit p r.message (o ∷ os) (plus_reply r.sum v)) idle

-- "At the end of a body, a step hands the reply to the caller's `got`, or ends that object."
abbrev pub body_ends : Program → Run → List ℕ → Activation → List Activation → Outcome
body_ends p r os a [] = object_ends p r os a.reply
body_ends p r os a (b ∷ bs) = onward r (with_got b a.reply ∷ bs) idle

-- "A step runs one statement", or ends a body.
abbrev pub in_body : Program → Run → ℕ → List ℕ → Activation → List Activation → (Name → ℕ) → List Statement → Outcome
in_body p r o os a below fields [] = body_ends p r os a below
in_body p r o os a below fields (s ∷ ss) = guarded p r o (with_rest a ss) below fields s.action (holds a fields s.guard)

-- "With no objects the first step answers 0."
abbrev pub on_object : Program → Run → List ℕ → List ℕ → List Activation → Outcome
on_object p r fields [] below = ends r.sum idle
on_object p r fields (o ∷ os) [] = object_ends p r os 0
on_object p r fields (o ∷ os) (a ∷ below) = in_body p r o os a below (look p fields o) a.rest

-- "or an object's 1,024th step .. if it doesn't end that object"
abbrev pub limited : Outcome → Outcome
limited (goes r e) = cond (ltb r.steps 1024) (goes r e) stops
limited (ends v e) = ends v e
limited stops = stops

-- One step of a running message.
unfoldable pub turn : Program → Run → List ℕ → Outcome
unfolding value_of place_of body_of class_number
turn p r fields = limited (on_object p r fields r.objects r.activations)
