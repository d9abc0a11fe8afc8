-- A message on an object: its first activation there, as a message starts or goes on to its next object; and a message that
-- has no object.
use Rattle.std.specs.Prelude.{ℕ, zero, suc, ◌+◌, ◌*◌, ◌≤◌, ◌<◌, ◌≡◌, refl, ◌≢◌, true, get_or, set}
use native.Mathlib.Omega.{arith}
use Rattle.std.proofs.Common.{sym, ap₂, ◌∙◌, length-set}
use Rattle.std.proofs.Math.Path.{ap}
use Rattle.std.proofs.Math.Option.{some}
use mathlib.Core.List.{List, [], ◌∷◌}
use Rattle.std.proofs.Math.ListN.{length}
use Rattle.layout.specs.Layout.{object_class_at, depth_at, steps_at, sum_at, object_at, kind_at, number_at, name_at, argument_at, activations_at, activation_words, shallow_at, row_words}
use Rattle.model.specs.Form.{Statement}
use Rattle.model.specs.Library.{Member, among}
use Rattle.model.specs.Vector.{Program}
use Rattle.model.specs.Message.{Message, idle, Activation, opened, visit}
use Rattle.model.specs.Message as Model
use Rattle.catalog.specs.View.{name_of, object_word, object_count}
use Rattle.text_theory.specs.NamedRuns.{class_on}
use Rattle.machine_words.specs.Row.{next, object_row, going_to}
use Rattle.catalog.specs.Bodies.{body_in}
use Rattle.machine_words.specs.Turn.{target_there, next_on, next_turn}
use Rattle.machine_refinement.specs.Rep.{Fits, Running, target_by, message_of, stack_of, objects_from, run_of}
use Rattle.machine_refinement.specs.Tables.{method_for, class_is, body_found, body_is, body_end}
use Rattle.machine_refinement.specs.Objects.{objects_here, objects_past}
use Rattle.machine_refinement.specs.Runs.{message_same, note_same, run_is}
use Rattle.machine_refinement.specs.Stores.{else_word, new_word, act_length, act_other, act_opened, act_start, act_end}
use Rattle.machine_refinement.specs.Going.{Goes, Inside}
use Rattle.machine_refinement.specs.Freeing.{clean_alike}

-- The row with its head words on object o, with d activations.
abbrev pub head_row : List ℕ → ℕ → ℕ → ℕ → List ℕ
head_row row o sum d = set (set (set (set row object_at o) depth_at d) steps_at 0) sum_at sum

-- The row on object o, which runs its own class's method of the name sent.
abbrev pub visit_row : List ℕ → Program → List ℕ → ℕ → ℕ → List ℕ
visit_row text p row o sum =
    let b = method_for p (Model.class_of p o) (name_of text (get_or row name_at 0)) in
    object_row o b.first (b.first + b.count) sum row

module _ (row : List ℕ) (size : length row ≡ row_words) (o sum d : ℕ) where
  abbrev row₁ : List ℕ
  row₁ = set row object_at o

  abbrev row₂ : List ℕ
  row₂ = set row₁ depth_at d

  abbrev row₃ : List ℕ
  row₃ = set row₂ steps_at 0

  long₂ : length row₂ ≡ row_words
  long₂ = length-set row₁ depth_at d ∙ length-set row object_at o ∙ size

  pub head_length : length (head_row row o sum d) ≡ row_words
  head_length = length-set row₃ sum_at sum ∙ length-set row₂ steps_at 0 ∙ long₂

  pub head_other : (i : ℕ) → (i ≢ depth_at) × (i ≢ steps_at) × (i ≢ sum_at) × (i ≢ object_at) → get_or (head_row row o sum d) i 0 ≡ get_or row i 0
  head_other i n = else_word row₃ sum_at sum i n.2 ∙ else_word row₂ steps_at 0 i n.1 ∙ else_word row₁ depth_at d i n.0 ∙ else_word row object_at o i n.3

  pub head_depth : get_or (head_row row o sum d) depth_at 0 ≡ d
  head_depth = else_word row₃ sum_at sum 1 (omega arith) ∙ else_word row₂ steps_at 0 1 (omega arith) ∙ new_word row₁ depth_at d (omega (arith, length-set row object_at o))

  head_steps : get_or (head_row row o sum d) steps_at 0 ≡ 0
  head_steps = else_word row₃ sum_at sum 2 (omega arith) ∙ new_word row₂ steps_at 0 (omega (arith, long₂))

  head_sum : get_or (head_row row o sum d) sum_at 0 ≡ sum
  head_sum = new_word row₃ sum_at sum (omega (arith, length-set row₂ steps_at 0, long₂))

  head_object : get_or (head_row row o sum d) object_at 0 ≡ o
  head_object = else_word row₃ sum_at sum 4 (omega arith) ∙ else_word row₂ steps_at 0 4 (omega arith) ∙ else_word row₁ depth_at d 4 (omega arith) ∙ new_word row object_at o (omega arith)

module _ (text tables : List ℕ) (p : Program) (fits : Fits text tables p) (row : List ℕ) (size : length row ≡ row_words)
    (there : target_there tables (get_or row kind_at 0) (get_or row number_at 0) ≡ true) (o sum : ℕ) where
  abbrev m : Message
  m = message_of text row

  -- ---- past the last object: nothing is left to visit

  module _ (past : o ≡ object_count tables) where
    abbrev emptied : List ℕ
    emptied = head_row row o sum 0

    -- The message is as in the model with no object left.
    pub empty_run : run_of text p emptied ≡ visit p m [] sum
    unfolding stack_of
    empty_run =
        run_is text p emptied m [] [] 0 sum (message_same text row emptied (λ i g h. head_other row size o sum 0 i (omega arith)))
        (objects_past text tables p fits (message_of text emptied).target (get_or emptied object_at 0) (omega (arith, head_object row size o sum 0)))
        (ap (stack_of p.library emptied) (head_depth row size o sum 0)) (head_steps row size o sum 0) (head_sum row size o sum 0)

    pub empty_running : Running tables p emptied
    empty_running =
        let w1 = head_depth row size o sum 0 in
        let w4 = head_object row size o sum 0 in
        let w5 = head_other row size o sum 0 5 (omega arith) in
        let w6 = head_other row size o sum 0 6 (omega arith) in
        record {
          depth = omega arith;
          within = omega arith;
          active = λ h. absurd (omega arith);
          visiting = λ h. absurd (omega arith);
          starts = λ j h. absurd (omega arith);
          ends = λ j h. absurd (omega arith);
          target = ap₂ (target_there tables) w5 w6 ∙ there;
          early = omega (arith, head_steps row size o sum 0);
        }

  -- ---- on an object of the target

  module _ (here : o < object_count tables) (aimed : Model.in_target p m.target o ≡ true) (known : among (class_on p o).methods m.method ≡ true) where
    abbrev body : Member
    body = method_for p (Model.class_of p o) m.method

    abbrev first : ℕ
    first = body.first

    abbrev end : ℕ
    end = first + body.count

    abbrev on : List ℕ
    on = visit_row text p row o sum

    abbrev head : List ℕ
    head = head_row row o sum 1

    abbrev argument : ℕ
    argument = get_or row argument_at 0

    pub visit_length : length on ≡ row_words
    unfolding object_row
    visit_length = act_length head 0 first end argument ∙ head_length row size o sum 1

    behind : (i : ℕ) → (activations_at ≤ i → i < shallow_at → ⊥) → get_or on i 0 ≡ get_or head i 0
    unfolding object_row
    behind i out = act_other head 0 first end argument i (λ g h. out (omega arith) (omega arith))

    pub visit_other : (i : ℕ) → (i ≢ depth_at) × (i ≢ steps_at) × (i ≢ sum_at) × (i ≢ object_at) × (activations_at ≤ i → i < shallow_at → ⊥) → get_or on i 0 ≡ get_or row i 0
    visit_other i n = behind i n.4 ∙ head_other row size o sum 1 i (n.0, n.1, n.2, n.3)

    -- The words find that method's body.
    pub visit_body : body_in text tables (object_word tables o object_class_at) m.method ≡ some body
    visit_body =
        ap (λ (c : ℕ). body_in text tables c m.method) (sym (class_is text tables p fits o here))
        ∙ body_found text tables p fits (Model.class_of p o) m.method known

    abbrev os : List ℕ
    os = o ∷ objects_from p m.target (suc o)

    stack : stack_of p.library on 1 ≡ Model.first_activation p m os
    unfolding stack_of object_row
    stack =
        ap {B = List Activation} (λ a. a ∷ [])
        (act_opened head 0 first end argument p.library (omega (arith, head_length row size o sum 1))
        ∙ ap (λ (ss : List Statement). opened ss argument) (sym (body_is text tables p fits (Model.class_of p o) m.method known)))

    pub visit_depth : get_or on depth_at 0 ≡ 1
    visit_depth = behind 1 (omega arith) ∙ head_depth row size o sum 1

    object_is : get_or on object_at 0 ≡ o
    object_is = behind 4 (omega arith) ∙ head_object row size o sum 1

    -- The message is as in the model on this object.
    pub visit_run : run_of text p on ≡ visit p m os sum
    visit_run =
        let e = message_same text row on (λ i g h. visit_other i (omega arith)) in
        run_is text p on m os (Model.first_activation p m os) 0 sum e
        (ap₂ (objects_from p) (ap (λ (z : Message). z.target) e) object_is ∙ objects_here text tables p fits m.target o here aimed)
        (ap (stack_of p.library on) visit_depth ∙ stack)
        (behind 2 (omega arith) ∙ head_steps row size o sum 1) (behind 3 (omega arith) ∙ head_sum row size o sum 1)

    inside : Inside tables on 0
    unfolding object_row
    inside =
        let room : activations_at + 0 * activation_words + activation_words ≤ length head = omega (arith, head_length row size o sum 1) in
        omega (
          arith,
          act_start head 0 first end argument p.library room,
          act_end head 0 first end argument p.library room,
          body_end text tables p fits (Model.class_of p o) m.method,
        )

    pub visit_running : Running tables p on
    visit_running =
        let w1 = visit_depth in
        let w4 = object_is in
        let w5 = visit_other 5 (omega arith) in
        let w6 = visit_other 6 (omega arith) in
        record {
          depth = omega arith;
          within = omega arith;
          active = λ h. omega arith;
          visiting = λ h. ap₂ (Model.in_target p) (ap₂ target_by w5 w6) w4 ∙ aimed;
          starts = λ j h. (only j (omega arith)).0;
          ends = λ j h. (only j (omega arith)).1;
          target = ap₂ (target_there tables) w5 w6 ∙ there;
          early = omega (arith, behind 2 (omega arith), head_steps row size o sum 1);
        }
      where
        only : (j : ℕ) → j < 1 → Inside tables on j
        only zero z = inside
        only (suc j) z = absurd (omega arith)

    -- The turn to a next object.
    pub next_turn_law : next_turn text tables (get_or row name_at 0) o sum ≡ next o first end sum
    next_turn_law = ap (next_on o sum) visit_body

    pub next_goes : (values : List ℕ) → Goes text tables p row values (going_to on values) (visit p m os sum) idle
    next_goes values =
        record {
          answered = refl;
          fields = refl;
          size = visit_length;
          phase = visit_other 0 (omega arith);
          run = sym visit_run;
          runs = visit_running;
          notes = note_same row on (λ i g h. visit_other i (omega arith));
          clean = clean_alike row on (λ i g h. visit_other i (omega arith)) (λ i g h. visit_other i (omega arith)) (λ l. omega (arith, visit_depth));
          locks = λ i g h. visit_other i (omega arith);
        }
