-- The invariant of a message's run: it is on objects that the message visits, and each remaining statement stands in a body that
-- is reached from the message's method in the graph of the object's class.
use Rattle.std.specs.Prelude.{ℕ, ◌<◌, ◌≡◌, refl, ◌⊎◌}
use Rattle.std.proofs.Common.{sym, subst, inl, inr}
use mathlib.Core.List.Memᴰ
use mathlib.Core.List.{List, [], ◌∷◌, Memᴰ}
use Rattle.model.specs.Word.{Name}
use Rattle.model.specs.Form.{Statement}
use Rattle.model.specs.Library.{body_of}
use Rattle.model.specs.Graph.{Node, callee, calls, successors, here, further, Reached}
use Rattle.model.specs.Vector.{Program, in_statement}
use Rattle.model.specs.Message.{Message, class_of, visited, size_of, Activation, Run, opened, visit, begun}
use Rattle.laws.specs.Lists.{flat_map_in}
use Rattle.laws.specs.Modes.{Le}
use Rattle.vector_theory.specs.VectorLaws.{root, body_at, statement_within, Compiled}
use Rattle.theory.specs.Places.{field_place}
use Rattle.theory.specs.Footprint.{Visits, mode_at}

-- The statement stands in a body that is reached from the method m in the graph of class c.
pub record Covered (p : Program) (c : ℕ) (m : Name) (s : Statement) : Type 0 where
  pub vertex : Node
  pub met : Reached p.library p.resolve c (root c m) vertex
  pub written : Memᴰ s (body_at p.library p.resolve vertex)

-- Every remaining statement of the activations is covered.
abbrev pub AllCovered : Program → ℕ → Name → List Activation → Type 0
AllCovered p c m stack = (a : Activation) → Memᴰ a stack → (s : Statement) → Memᴰ s a.rest → Covered p c m s

-- They are covered on the first of the objects.
abbrev pub CoveredOn : Program → Name → List ℕ → List Activation → Type 0
CoveredOn p m [] stack = Unit {0}
CoveredOn p m (o ∷ os) stack = AllCovered p (class_of p o) m stack

-- The run is one of the message.
pub record Of (p : Program) (m : Message) (r : Run) : Type 0 where
  pub its : r.message ≡ m
  pub visiting : (o : ℕ) → Memᴰ o r.objects → Visits p m o
  pub covered : CoveredOn p m.method r.objects r.activations

module _ (p : Program) (m : Message) where
  -- The method's own body is covered, and so is each body that a covered statement calls.
  root_covered : (c : ℕ) (s : Statement) → Memᴰ s (body_of p.library p.resolve c m.method) → Covered p c m.method s
  root_covered c s k = record { vertex = root c m.method; met = here; written = k }

  pub callee_covered : (c : ℕ) (s : Statement) (v : Node) → Covered p c m.method s → Memᴰ v (callee p.library c s.action)
      → (t : Statement) → Memᴰ t (body_at p.library p.resolve v) → Covered p c m.method t
  unfolding successors calls
  callee_covered c s v q k t i = record {
    vertex = v;
    met = further q.met (flat_map_in (λ x. callee p.library c x.action) q.written k);
    written = i;
  }

  -- Activations are covered if the top one is and those below are.
  pub cons_covered : (c : ℕ) (a : Activation) (below : List Activation) → ((s : Statement) → Memᴰ s a.rest → Covered p c m.method s)
      → AllCovered p c m.method below → AllCovered p c m.method (a ∷ below)
  cons_covered c a below top rest b k s i = go (Memᴰ.cases_cons k)
    where
      go : (b ≡ a) ⊎ Memᴰ b below → Covered p c m.method s
      go (inl e) = top s (subst (λ x. Memᴰ s x.rest) e i)
      go (inr n) = rest b n s i

  -- A message at its next objects is a run of it.
  pub visit_of : (os : List ℕ) (sum : ℕ) → ((o : ℕ) → Memᴰ o os → Visits p m o) → Of p m (visit p m os sum)
  visit_of [] sum visits = record { its = refl; visiting = visits; covered = tt }
  visit_of (o ∷ os) sum visits = record { its = refl; visiting = visits; covered = first }
    where
      first : AllCovered p (class_of p o) m.method (opened (body_of p.library p.resolve (class_of p o) m.method) m.argument ∷ [])
      first a k s i = root_covered (class_of p o) s (subst (λ x. Memᴰ s x.rest) (Memᴰ.eq_of_singleton k) i)

  -- A message at its start is a run of it.
  pub of_begun : Of p m (begun p m)
  of_begun = visit_of (visited p m.target) 0 (λ o k. k)

-- The mode of a field in a covered statement is within the message's mode at the field's place.
pub covered_within : (p : Program) → Compiled p → (m : Message) (o : ℕ) (s : Statement) (f : Name) → Covered p (class_of p o) m.method s
    → field_place p o f < size_of p o → Le (in_statement f s) (mode_at p m o (field_place p o f))
covered_within p right m o s f c h =
    subst (Le (in_statement f s)) (sym (right.mode_at (class_of p o) m.method f h))
    (statement_within p.library p.resolve (class_of p o) m.method c.vertex c.met s c.written f)
