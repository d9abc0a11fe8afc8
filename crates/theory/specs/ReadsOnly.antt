-- Vectors are sound, first half: a message reads only fields that its vector depends on. Fields that agree there give each step
-- the same outcome.
use Rattle.std.specs.Prelude.{ℕ, ◌≡◌, Bool, false, not, eqb}
use Rattle.std.proofs.Math.Path.{refl, ap}
use Rattle.std.proofs.Common.{◌∙◌}
use Rattle.std.proofs.Math.Bool.{true}
use Rattle.std.proofs.Math.Option.{Option, none, some}
use mathlib.Core.List.{List, [], ◌∷◌, Memᴰ}
use Rattle.model.specs.Word.{Name}
use Rattle.model.specs.Expression.{Expression, number, field, argument, got, apply, operate, value_of}
use Rattle.model.specs.Form.{Action, assign, send, send_prefixed, reply, Statement}
use Rattle.model.specs.Library.{class_number, body_of}
use Rattle.model.specs.Mode.{depends}
use Rattle.model.specs.Vector.{Program, in_expression, in_action, in_guard, in_statement, mention, mode_of}
use Rattle.model.specs.Message.{Message, class_of, place_of, value_at, look, idle, store_at, Activation, Run, onward, with_rest, replied, holds, called, perform, guarded, in_body, on_object, limited, turn}
use Rattle.laws.specs.Lists.{same_refl}
use Rattle.laws.specs.Modes.{le_left, le_right}
use Rattle.vector_theory.specs.VectorLaws.{Compiled}
use Rattle.theory.specs.Places.{field_place, by_place}
use Rattle.theory.specs.Footprint.{Visits, Agree}
use Rattle.theory.specs.Coverage.{Covered, CoveredOn, Of, covered_within}

-- Readers that agree on the fields that an expression depends on give it the same value.
value_local : (look₁ look₂ : Name → ℕ) (arg got' : ℕ) (e : Expression) → ((f : Name) → depends (in_expression f e) ≡ true → look₁ f ≡ look₂ f)
    → value_of look₁ arg got' e ≡ value_of look₂ arg got' e
unfolding value_of in_expression
value_local look₁ look₂ arg got' (number n) h = refl
value_local look₁ look₂ arg got' (field g) h = h g (rw same_refl)
value_local look₁ look₂ arg got' argument h = refl
value_local look₁ look₂ arg got' got h = refl
value_local look₁ look₂ arg got' (apply o a b) h = λ i. operate o
    (value_local look₁ look₂ arg got' a (λ f d. h f ((le_left (in_expression f a) (in_expression f b)).depend d)) i)
    (value_local look₁ look₂ arg got' b (λ f d. h f ((le_right (in_expression f a) (in_expression f b)).depend d)) i)

-- They give a guard the same value.
guard_local : (a : Activation) (look₁ look₂ : Name → ℕ) (g : Option Expression) → ((f : Name) → depends (in_guard f g) ≡ true → look₁ f ≡ look₂ f)
    → holds a look₁ g ≡ holds a look₂ g
guard_local a look₁ look₂ none h = refl
guard_local a look₁ look₂ (some e) h = ap (λ v. not (eqb v 0)) (value_local look₁ look₂ a.arg a.got e h)

module _ (p : Program) where
  -- They give an action the same outcome.
  perform_local : (r : Run) (o : ℕ) (a : Activation) (below : List Activation) (look₁ look₂ : Name → ℕ) (x : Action)
      → ((f : Name) → depends (in_action f x) ≡ true → look₁ f ≡ look₂ f) → perform p r o a below look₁ x ≡ perform p r o a below look₂ x
  unfolding in_action
  perform_local r o a below look₁ look₂ (assign how f e) h =
      ap (λ v. onward r (a ∷ below) (store_at how (place_of p o f) v))
      (value_local look₁ look₂ a.arg a.got e (λ g d. h g ((le_right (mention (mode_of how) g f) (in_expression g e)).depend d)))
  perform_local r o a below look₁ look₂ (send m e) h =
      ap (called r a below (body_of p.library p.resolve (class_of p o) m)) (value_local look₁ look₂ a.arg a.got e h)
  perform_local r o a below look₁ look₂ (send_prefixed c m e) h =
      ap (called r a below (body_of p.library p.resolve (class_number p.library c) m)) (value_local look₁ look₂ a.arg a.got e h)
  perform_local r o a below look₁ look₂ (reply e) h =
      ap (λ v. onward r (replied a v ∷ below) idle) (value_local look₁ look₂ a.arg a.got e h)

  guarded_local : (r : Run) (o : ℕ) (a : Activation) (below : List Activation) (look₁ look₂ : Name → ℕ) (x : Action) (b : Bool)
      → ((f : Name) → depends (in_action f x) ≡ true → look₁ f ≡ look₂ f) → guarded p r o a below look₁ x b ≡ guarded p r o a below look₂ x b
  guarded_local r o a below look₁ look₂ x true h = perform_local r o a below look₁ look₂ x h
  guarded_local r o a below look₁ look₂ x false h = refl

module _ (p : Program) (right : Compiled p) (m : Message) where
  -- Fields that agree wherever the message may read are such readers for each statement that it runs.
  look_local : (fields others : List ℕ) → Agree p m fields others → (o : ℕ) → Visits p m o → (s : Statement) → Covered p (class_of p o) m.method s
      → (f : Name) → depends (in_statement f s) ≡ true → look p fields o f ≡ look p others o f
  look_local fields others agree o visits s c f d =
      by_place p (λ x. value_at fields x ≡ value_at others x) o f refl
      (λ h. agree.alike o (field_place p o f) visits h ((covered_within p right m o s f c h).depend d))

  body_local : (fields others : List ℕ) → Agree p m fields others → (r : Run) (o : ℕ) (os : List ℕ) (a : Activation) (below : List Activation)
      → Visits p m o → (ss : List Statement) → ((s : Statement) → Memᴰ s ss → Covered p (class_of p o) m.method s)
      → in_body p r o os a below (look p fields o) ss ≡ in_body p r o os a below (look p others o) ss
  unfolding in_statement
  body_local fields others agree r o os a below visits [] c = refl
  body_local fields others agree r o os a below visits (s ∷ ss) c =
      ap (guarded p r o (with_rest a ss) below (look p fields o) s.action) (guard_local a (look p fields o) (look p others o) s.guard guard_same)
      ∙ guarded_local p r o (with_rest a ss) below (look p fields o) (look p others o) s.action (holds a (look p others o) s.guard) action_same
    where
      same_look : (f : Name) → depends (in_statement f s) ≡ true → look p fields o f ≡ look p others o f
      same_look = look_local fields others agree o visits s (c s (Memᴰ.head refl))

      guard_same : (f : Name) → depends (in_guard f s.guard) ≡ true → look p fields o f ≡ look p others o f
      guard_same f d = same_look f ((le_left (in_guard f s.guard) (in_action f s.action)).depend d)

      action_same : (f : Name) → depends (in_action f s.action) ≡ true → look p fields o f ≡ look p others o f
      action_same f d = same_look f ((le_right (in_guard f s.guard) (in_action f s.action)).depend d)

  object_local : (fields others : List ℕ) → Agree p m fields others → (r : Run) (os : List ℕ) (stack : List Activation)
      → ((o : ℕ) → Memᴰ o os → Visits p m o) → CoveredOn p m.method os stack → on_object p r fields os stack ≡ on_object p r others os stack
  object_local fields others agree r [] stack visits c = refl
  object_local fields others agree r (o ∷ os) [] visits c = refl
  object_local fields others agree r (o ∷ os) (a ∷ below) visits c =
      body_local fields others agree r o os a below (visits o (Memᴰ.head refl)) a.rest (c a (Memᴰ.head refl))

  -- Fields that agree wherever the message may read give the same outcome.
  pub turn_local : (r : Run) (fields others : List ℕ) → Of p m r → Agree p m fields others → turn p r fields ≡ turn p r others
  unfolding turn
  turn_local r fields others i agree = ap limited (object_local fields others agree r r.objects r.activations i.visiting i.covered)
