-- The outcome of a turn over the words: the cases of a step, and the model's turn in each of them.
use Rattle.std.specs.Prelude.{ℕ, suc, ◌≤◌, ◌<◌, ◌≡◌, Bool, true, false, cond, get_or}
use Rattle.std.proofs.Math.Path.{refl, ap, ap₂}
use Rattle.std.proofs.Common.{sym, subst, subst₂, ◌∙◌, lt-ltb, le-ltb}
use mathlib.Core.List.{List, ◌∷◌}
use Rattle.layout.specs.Layout.{depth_at, steps_at, object_at}
use Rattle.model.specs.Form.{Statement}
use Rattle.model.specs.Vector.{Program}
use Rattle.model.specs.Message.{Effect, idle, look, Activation, Run, Outcome, goes, ends, stops, onward, in_body, on_object, limited, turn}
use Rattle.text_theory.specs.Named.{NamedBody}
use Rattle.text_theory.specs.NamedRuns.{class_on, NamedOn, NamedRun}
use Rattle.catalog.specs.View.{object_count}
use Rattle.machine_words.specs.Row.{Turn, stop, answer, carried}
use Rattle.machine_refinement.specs.Rep.{Fits, Running, message_of, activation_of, stack_of, objects_from, run_of}
use Rattle.machine_refinement.specs.Objects.{objects_here}
use Rattle.machine_refinement.specs.Going.{Matches, onward_run}

-- A turn that is carried out leaves what the model's outcome requires.
pub record Comes (text tables : List ℕ) (p : Program) (row values : List ℕ) (t : Turn) (y : Outcome) : Type 0 where
  pub matches : Matches text tables p row values (carried row values t) y

module _ {text tables : List ℕ} {p : Program} {row values : List ℕ} where
  -- The same for an equal turn and an equal outcome.
  pub by : {t t' : Turn} {y y' : Outcome} → t ≡ t' → y ≡ y' → Comes text tables p row values t' y' → Comes text tables p row values t y
  by {t} {t'} {y} {y'} e f m = subst (λ (z : Turn). Comes text tables p row values z y) (sym e)
      (subst (λ (z : Outcome). Comes text tables p row values t' z) (sym f) m)

  pub answers : (v : ℕ) → Comes text tables p row values (answer v) (ends v idle)
  unfolding carried
  answers v = record { matches = record { answered = refl; fields = refl; left = refl; effect = refl } }

  pub halts : Comes text tables p row values stop stops
  unfolding carried
  halts = record { matches = record { answered = refl; fields = refl; left = refl } }

module _ (text : List ℕ) (p : Program) (row : List ℕ) where
  abbrev r : Run
  r = run_of text p row

  -- "an object's 1,024th step .. if it doesn't end that object"
  pub early_on : (below : List Activation) (e : Effect) → suc (get_or row steps_at 0) < 1024 → limited (onward r below e) ≡ goes (onward_run r below) e
  unfolding run_of
  early_on below e h = rw (lt-ltb (suc (get_or row steps_at 0)) 1024 h) refl

  pub late_on : (below : List Activation) (e : Effect) → 1024 ≤ suc (get_or row steps_at 0) → limited (onward r below e) ≡ stops
  unfolding run_of
  late_on below e h = rw (le-ltb (suc (get_or row steps_at 0)) 1024 h) refl

  pub late_call : (below : List Activation) (b : Bool) → 1024 ≤ suc (get_or row steps_at 0) → limited (cond b stops (onward r below idle)) ≡ stops
  late_call below true h = refl
  late_call below false h = late_on below idle h

  -- The model's turn, by the objects and the activations.
  pub turn_is : (values os : List ℕ) (below : List Activation) → r.objects ≡ os → r.activations ≡ below
      → turn p r values ≡ limited (on_object p r values os below)
  unfolding turn
  turn_is values os below e f = ap₂ (λ (xs : List ℕ) (ys : List Activation). limited (on_object p r values xs ys)) e f

-- On an object: by what is left of the body of the latest activation.
module _ (text tables : List ℕ) (p : Program) (fits : Fits text tables p) (row : List ℕ) (runs : Running tables p row) (here : get_or row object_at 0 < object_count tables)
    (k : ℕ) (deep : get_or row depth_at 0 ≡ suc k) where
  abbrev o : ℕ
  o = get_or row object_at 0

  abbrev later : List ℕ
  later = objects_from p (message_of text row).target (suc o)

  here_is : (run_of text p row).objects ≡ o ∷ later
  unfolding run_of
  here_is = objects_here text tables p fits (message_of text row).target o here (runs.visiting here)

  stack_is : (run_of text p row).activations ≡ activation_of p.library row k ∷ stack_of p.library row k
  unfolding run_of stack_of
  stack_is = ap (stack_of p.library row) deep

  pub turn_on : (values : List ℕ) (ss : List Statement) → (activation_of p.library row k).rest ≡ ss
      → turn p (run_of text p row) values
      ≡ limited (in_body p (run_of text p row) o later (activation_of p.library row k) (stack_of p.library row k) (look p values o) ss)
  turn_on values ss e =
      let a = activation_of p.library row k in
      let below = stack_of p.library row k in
      turn_is text p row values (o ∷ later) (a ∷ below) here_is stack_is
      ∙ ap (λ (xs : List Statement). limited (in_body p (run_of text p row) o later a below (look p values o) xs)) e

  -- The object's class knows the names in the statements that are left.
  pub rest_named : NamedRun p (run_of text p row) → NamedBody p.library (class_on p o) (activation_of p.library row k).rest
  rest_named named =
      let rests : NamedOn p (o ∷ later) (activation_of p.library row k ∷ stack_of p.library row k) =
      subst₂ (λ (os : List ℕ) (below : List Activation). NamedOn p os below) here_is stack_is named.rests in
      rests.0
