-- When what a step leaves in a row matches the model's turn; and the turns that stay on the same object and change no value: a
-- skipped statement, a self-call, a reply, the end of a callee's body.
use Prim.Native.Nat.{ℕ, suc, ◌+◌, ◌-◌, ◌*◌, ◌%◌, ◌≤◌, ◌<◌}
use native.Mathlib.Omega.{arith}
use Rattle.std.specs.Prelude.{◌≡◌, refl, ◌≢◌, length}
use Rattle.std.proofs.Math.Path.{sym, ap, ap₂, subst}
use Rattle.std.proofs.Common.{◌∙◌}
use mathlib.Core.List.{List, ◌∷◌}
use Rattle.std.proofs.Math.ListN.{get_or, set, length-set}
use Rattle.layout.specs.Layout.{phase_at, depth_at, steps_at, sum_at, object_at, kind_at, number_at, called_at, activations_at, next_at, end_at, arg_at, got_at, reply_at, activation_words, object_locks_at, marks_at, row_words}
use Rattle.model.specs.Form.{Statement}
use Rattle.model.specs.Library.{Library}
use Rattle.model.specs.Vector.{Program}
use Rattle.model.specs.Message.{Message, Effect, idle, Activation, Run, Outcome, goes, ends, stops, opened, with_rest, with_got, replied}
use Rattle.model.specs.Message as Model
use Rattle.model.specs.Undo.{noted, put_back}
use Rattle.model.specs.Service.{going, answer, stopped}
use Rattle.catalog.specs.View.{statement_count}
use Rattle.laws.specs.Basics.{at_or}
use Rattle.machine_words.specs.Row.{Left, act, with_act, new_act, top, stepped, passed, note_at, skip_row, call_row, reply_row, back_row, freed, going_to}
use Rattle.machine_words.specs.Turn.{target_there}
use Rattle.machine_refinement.specs.Rep.{target_by, message_of, between, activation_of, stack_of, objects_from, run_of, Running, Shallow, Clean}
use Rattle.machine_refinement.specs.Runs.{Alike, between_none, activation_is, activation_same, stack_same, message_same, note_same, run_is}
use Rattle.machine_refinement.specs.Stores.{else_word, new_word, act_length, act_other, act_opened, act_start, act_end}
use Rattle.machine_refinement.specs.Freeing.{clean_kept}

-- ---- what a step leaves, against the model's outcome

-- The message goes on as the run r, with the effect e.
pub record Goes (text tables : List ℕ) (p : Program) (row values : List ℕ) (x : Left) (r : Run) (e : Effect) : Type 0 where
  pub answered : x.answered ≡ going
  pub fields : x.values ≡ Model.act e values
  pub size : length x.row ≡ row_words
  pub phase : get_or x.row phase_at 0 ≡ get_or row phase_at 0
  pub run : r ≡ run_of text p x.row
  pub runs : Running tables p x.row
  pub notes : (k : ℕ) → note_at x.row k ≡ noted (note_at row) e values k
  pub clean : Clean row → Clean x.row
  pub locks : Alike object_locks_at marks_at row x.row

-- The message ends with its answer; all else is kept.
pub record Ends (row values : List ℕ) (x : Left) (v : ℕ) (e : Effect) : Type 0 where
  pub answered : x.answered ≡ answer v
  pub fields : x.values ≡ values
  pub left : x.row ≡ set row phase_at 1
  pub effect : e ≡ idle

-- The transaction is undone and its slot freed.
pub record Halts (row values : List ℕ) (x : Left) : Type 0 where
  pub answered : x.answered ≡ stopped
  pub fields : x.values ≡ put_back (note_at row) values
  pub left : x.row ≡ freed row

-- What a step leaves matches the outcome of the model's turn.
abbrev pub Matches : List ℕ → List ℕ → Program → List ℕ → List ℕ → Left → Outcome → Type 0
Matches text tables p row values x (goes r e) = Goes text tables p row values x r e
Matches text tables p row values x (ends v e) = Ends row values x v e
Matches text tables p row values x stops = Halts row values x

-- The run after one more step on the same object, with these activations.
abbrev pub onward_run : Run → List Activation → Run
onward_run r below = record { message = r.message; objects = r.objects; activations = below; steps = suc r.steps; sum = r.sum }

-- ---- a turn on the same object

-- Activation j is within the text's statements.
abbrev pub Inside : List ℕ → List ℕ → ℕ → Type 0
Inside tables row j = (act row j next_at ≤ act row j end_at) × (act row j end_at ≤ statement_count tables)

-- The row after such a turn: all else is kept, and the d activations are these.
record Onward (tables : List ℕ) (p : Program) (row row' : List ℕ) (d : ℕ) (stack : List Activation) : Type 0 where
  long : length row' ≡ row_words
  phase : get_or row' phase_at 0 ≡ get_or row phase_at 0
  head : Alike 3 11 row row'
  tail : Alike object_locks_at row_words row row'
  depth : get_or row' depth_at 0 ≡ d
  some : 0 < d
  few : d ≤ 8
  steps : get_or row' steps_at 0 ≡ suc (get_or row steps_at 0)
  early : suc (get_or row steps_at 0) < 1024
  activations : stack_of p.library row' d ≡ stack
  inside : (j : ℕ) → j < d → Inside tables row' j
  calls : (get_or row called_at 0 ≡ 0 → Shallow row) → get_or row' called_at 0 ≡ 0 → Shallow row'

module _ (text tables : List ℕ) (p : Program) (row values : List ℕ) (size : length row ≡ row_words) (runs : Running tables p row) where
  onward_goes : (given row' : List ℕ) (d : ℕ) (stack : List Activation) → given ≡ row' → Onward tables p row row' d stack
      → Goes text tables p row values (going_to given values) (onward_run (run_of text p row) stack) idle
  unfolding run_of
  onward_goes given row' d stack is o =
      subst (λ (z : List ℕ). Goes text tables p row values (going_to z values) (onward_run (run_of text p row) stack) idle) (sym is)
      (record {
        answered = refl;
        fields = refl;
        size = o.long;
        phase = o.phase;
        run = sym (run_is text p row' (message_of text row) (objects_from p (message_of text row).target (get_or row object_at 0)) stack (suc (get_or row steps_at 0))
            (get_or row sum_at 0) message
            (ap₂ (objects_from p) (ap (λ (m : Message). m.target) message) w4) (ap (stack_of p.library row') o.depth ∙ o.activations) o.steps
            (o.head 3 (omega arith) (omega arith)));
        runs = record {
          depth = omega (arith, o);
          within = omega (arith, w4, runs.within);
          active = λ h. omega (arith, o);
          visiting = λ h. ap₂ (Model.in_target p) (ap₂ target_by w5 w6) w4 ∙ runs.visiting (omega (arith, w4));
          starts = λ j h. (o.inside j (omega (arith, o))).0;
          ends = λ j h. (o.inside j (omega (arith, o))).1;
          target = ap₂ (target_there tables) w5 w6 ∙ runs.target;
          early = omega (arith, o);
        };
        notes = note_same row row' (λ i g h. o.tail i (omega arith) (omega arith));
        clean = clean_kept row row' (λ i g h. o.head i (omega arith) h) o.tail o.calls;
        locks = λ i g h. o.tail i g (omega arith);
      })
    where
      message : message_of text row' ≡ message_of text row
      message = message_same text row row' (λ i g h. o.head i (omega arith) (omega arith))

      w4 : get_or row' object_at 0 ≡ get_or row object_at 0
      w4 = o.head 4 (omega arith) (omega arith)

      w5 : get_or row' kind_at 0 ≡ get_or row kind_at 0
      w5 = o.head 5 (omega arith) (omega arith)

      w6 : get_or row' number_at 0 ≡ get_or row number_at 0
      w6 = o.head 6 (omega arith) (omega arith)

  abbrev l : Library
  l = p.library

  -- An activation whose place is kept stays within the text's statements.
  inside_kept : (row' : List ℕ) (j : ℕ) → j < get_or row depth_at 0 → act row' j next_at ≡ act row j next_at → act row' j end_at ≡ act row j end_at → Inside tables row' j
  inside_kept row' j h a b = omega (arith, runs.starts j h, runs.ends j h)

  module _ (k : ℕ) (deep : get_or row depth_at 0 ≡ suc k) (early : suc (get_or row steps_at 0) < 1024) where
    abbrev steps : ℕ
    steps = get_or row steps_at 0

    abbrev below : List Activation
    below = stack_of l row k

    abbrev next : ℕ
    next = act row k next_at

    -- The words of the latest activation.
    abbrev at : ℕ → ℕ
    at i = activations_at + k * activation_words + i

    few : suc k ≤ 8
    few = omega (arith, runs.depth)

    top_is : top row ≡ k
    top_is = omega arith

    step_is : (z : List ℕ) → get_or z steps_at 0 ≡ steps → stepped z ≡ set z steps_at (suc steps)
    unfolding stepped
    step_is z e = let m : (get_or z steps_at 0 + 1) % 65536 ≡ suc steps = omega arith in ap (set z steps_at) m

    pass_is : next < 4096 → passed row ≡ set row (at 0) (suc next)
    unfolding passed with_act
    pass_is h =
        let n : (next + 1) % 4294967296 ≡ suc next = omega arith in
        ap (λ (j : ℕ). set row (activations_at + j * activation_words + 0) ((act row j next_at + 1) % 4294967296)) top_is ∙ ap (set row (at 0)) n

    -- ---- a skipped statement

    skip_is : next < 4096 → skip_row row ≡ set (set row (at 0) (suc next)) steps_at (suc steps)
    unfolding skip_row
    skip_is h = ap stepped (pass_is h) ∙ step_is (set row (at 0) (suc next)) (else_word row (at 0) (suc next) 2 (omega arith))

    -- The activation goes on after the statement.
    pub skip_goes : next < act row k end_at
        → Goes text tables p row values (going_to (skip_row row) values)
        (onward_run (run_of text p row) (with_rest (activation_of l row k) (between l (suc next) (act row k end_at)) ∷ below)) idle
    unfolding stack_of activation_of act
    skip_goes h =
        let last = runs.ends k (omega arith) in
        let one = set row (at 0) (suc next) in
        let row' = set one steps_at (suc steps) in
        let long₁ = length-set row (at 0) (suc next) in
        let long₂ = length-set one steps_at (suc steps) in
        let keep : (i : ℕ) → (i ≢ steps_at) × (i ≢ at 0) → get_or row' i 0 ≡ get_or row i 0 =
        λ i n. else_word one steps_at (suc steps) i n.0 ∙ else_word row (at 0) (suc next) i n.1 in
        let on = else_word one steps_at (suc steps) (at 0) (omega arith) ∙ new_word row (at 0) (suc next) (omega (arith, few)) in
        onward_goes (skip_row row) row' (suc k) (with_rest (activation_of l row k) (between l (suc next) (act row k end_at)) ∷ below) (skip_is (omega arith)) (record {
          long = omega arith;
          phase = keep 0 (omega arith);
          head = λ i g h. keep i (omega arith);
          tail = λ i g h. keep i (omega (arith, few));
          depth = keep 1 (omega arith) ∙ deep;
          some = omega arith;
          few = few;
          steps = new_word one steps_at (suc steps) (omega arith);
          early = early;
          activations = ap₂ (λ (x : Activation) (xs : List Activation). x ∷ xs)
              (activation_is l row' k (suc next) (act row k end_at) (act row k arg_at) (act row k got_at) (act row k reply_at) on
              (keep (at 1) (omega arith)) (keep (at 2) (omega arith)) (keep (at 3) (omega arith)) (keep (at 4) (omega arith)))
              (stack_same l row row' k (λ i g h. keep i (omega arith)));
          inside = at_or (λ (j : ℕ). j < suc k → Inside tables row' j) k (λ z. omega (arith, on, keep (at 1) (omega arith), last))
              (λ j ne z. inside_kept row' j (omega arith) (keep (activations_at + j * activation_words + 0) (omega arith, λ g. ne (omega arith))) (keep (activations_at + j * activation_words + 1) (omega arith)));
          calls = λ shallow z.
              let s = shallow (sym (keep 11 (omega arith)) ∙ z) in
              (omega (arith, keep 1 (omega arith), s.0), λ i g h. keep i (omega (arith, s.0, deep)) ∙ s.1 i g h);
        })

    -- ---- a reply

    reply_is : (v : ℕ) → reply_row v row ≡ set (set (set row (at 0) (act row k end_at)) (at 4) v) steps_at (suc steps)
    unfolding reply_row with_act act
    reply_is v =
        ap (λ (j : ℕ). stepped (set (set row (activations_at + j * activation_words + 0) (act row j end_at)) (activations_at + j * activation_words + 4) v)) top_is
        ∙ step_is (set (set row (at 0) (act row k end_at)) (at 4) v)
        (else_word (set row (at 0) (act row k end_at)) (at 4) v 2 (omega arith) ∙ else_word row (at 0) (act row k end_at) 2 (omega arith))

    -- The body has its reply, and is at its end.
    pub reply_goes : (v : ℕ)
        → Goes text tables p row values (going_to (reply_row v row) values) (onward_run (run_of text p row) (replied (activation_of l row k) v ∷ below)) idle
    unfolding stack_of activation_of act
    reply_goes v =
        let end = act row k end_at in
        let one = set row (at 0) end in
        let two = set one (at 4) v in
        let row' = set two steps_at (suc steps) in
        let long₁ = length-set row (at 0) end in
        let long₂ = length-set one (at 4) v in
        let long₃ = length-set two steps_at (suc steps) in
        let keep : (i : ℕ) → (i ≢ steps_at) × (i ≢ at 4) × (i ≢ at 0) → get_or row' i 0 ≡ get_or row i 0 =
        λ i n. else_word two steps_at (suc steps) i n.0 ∙ else_word one (at 4) v i n.1 ∙ else_word row (at 0) end i n.2 in
        let over =
        else_word two steps_at (suc steps) (at 0) (omega arith) ∙ else_word one (at 4) v (at 0) (omega arith) ∙ new_word row (at 0) end (omega (arith, few)) in
        onward_goes (reply_row v row) row' (suc k) (replied (activation_of l row k) v ∷ below) (reply_is v) (record {
          long = omega arith;
          phase = keep 0 (omega arith);
          head = λ i g h. keep i (omega arith);
          tail = λ i g h. keep i (omega (arith, few));
          depth = keep 1 (omega arith) ∙ deep;
          some = omega arith;
          few = few;
          steps = new_word two steps_at (suc steps) (omega arith);
          early = early;
          activations = ap₂ (λ (x : Activation) (xs : List Activation). x ∷ xs)
              (activation_is l row' k end end (act row k arg_at) (act row k got_at) v over
              (keep (at 1) (omega arith)) (keep (at 2) (omega arith)) (keep (at 3) (omega arith))
              (else_word two steps_at (suc steps) (at 4) (omega arith) ∙ new_word one (at 4) v (omega (arith, few)))
              ∙ ap (λ (ss : List Statement). record { rest = ss; arg = act row k arg_at; got = act row k got_at; reply = v }) (between_none l end end (omega arith)))
              (stack_same l row row' k (λ i g h. keep i (omega arith)));
          inside = at_or (λ (j : ℕ). j < suc k → Inside tables row' j) k (λ z. omega (arith, over, keep (at 1) (omega arith), runs.ends k (omega arith)))
              (λ j ne z. inside_kept row' j (omega arith) (keep (activations_at + j * activation_words + 0) (omega arith, omega arith, λ g. ne (omega arith)))
              (keep (activations_at + j * activation_words + 1) (omega arith)));
          calls = λ shallow z.
              let s = shallow (sym (keep 11 (omega arith)) ∙ z) in
              (omega (arith, keep 1 (omega arith), s.0), λ i g h. keep i (omega (arith, s.0, deep)) ∙ s.1 i g h);
        })

    -- ---- a self-call

    module _ (first end argument : ℕ) (h : next < act row k end_at) where
      abbrev passed_on : List ℕ
      passed_on = set row (at 0) (suc next)

      abbrev with_callee : List ℕ
      with_callee = new_act passed_on (suc k) first end argument

      abbrev calling : List ℕ
      calling = set with_callee called_at 1

      abbrev deeper : List ℕ
      deeper = set calling depth_at (suc (suc k))

      call_is : call_row first end argument row ≡ set deeper steps_at (suc steps)
      unfolding call_row
      call_is =
          let more : (suc k + 1) % 4294967296 ≡ suc (suc k) = omega (arith, few) in
          let low : next < 4096 = omega (arith, runs.ends k (omega arith)) in
          ap₂ (λ (z : List ℕ) (d : ℕ). stepped (set (set (new_act z d first end argument) called_at 1) depth_at ((d + 1) % 4294967296))) (pass_is low) deep
          ∙ ap (λ (d : ℕ). stepped (set calling depth_at d)) more
          ∙ step_is deeper (else_word calling depth_at (suc (suc k)) 2 (omega arith) ∙ else_word with_callee called_at 1 2 (omega arith)
          ∙ act_other passed_on (suc k) first end argument 2 (omega arith) ∙ else_word row (at 0) (suc next) 2 (omega arith))

      -- The callee's activation is opened, and the caller goes on after the call.
      pub call_goes : first ≤ end → end ≤ statement_count tables → suc k < 8
          → Goes text tables p row values (going_to (call_row first end argument row) values)
          (onward_run (run_of text p row) (opened (between l first end) argument ∷ with_rest (activation_of l row k) (between l (suc next) (act row k end_at)) ∷ below)) idle
      unfolding stack_of activation_of act
      call_goes fits short room =
          let row' = set deeper steps_at (suc steps) in
          let long₁ = length-set row (at 0) (suc next) in
          let long₂ = act_length passed_on (suc k) first end argument in
          let long₃ = length-set with_callee called_at 1 in
          let long₄ = length-set calling depth_at (suc (suc k)) in
          let long₅ = length-set deeper steps_at (suc steps) in
          let behind : (i : ℕ) → (i ≢ steps_at) × (i ≢ depth_at) × (i ≢ called_at) → get_or row' i 0 ≡ get_or with_callee i 0 =
          λ i n. else_word deeper steps_at (suc steps) i n.0 ∙ else_word calling depth_at (suc (suc k)) i n.1 ∙ else_word with_callee called_at 1 i n.2 in
          let keep : (i : ℕ) → (i ≢ steps_at) × (i ≢ depth_at) × (i ≢ called_at) × (i ≢ at 0) × (activations_at + suc k * activation_words ≤ i → i < activations_at + suc k * activation_words + activation_words → ⊥) → get_or row' i 0 ≡ get_or row i 0 =
          λ i n. behind i (n.0, n.1, n.2) ∙ act_other passed_on (suc k) first end argument i n.4 ∙ else_word row (at 0) (suc next) i n.3 in
          let flag : get_or row' called_at 0 ≡ 1 =
          else_word deeper steps_at (suc steps) 11 (omega arith) ∙ else_word calling depth_at (suc (suc k)) 11 (omega arith) ∙ new_word with_callee called_at 1 (omega arith) in
          let start = behind (activations_at + suc k * activation_words + 0) (omega arith) ∙ act_start passed_on (suc k) first end argument l (omega arith) in
          let last = behind (activations_at + suc k * activation_words + 1) (omega arith) ∙ act_end passed_on (suc k) first end argument l (omega arith) in
          let on =
          behind (at 0) (omega arith) ∙ act_other passed_on (suc k) first end argument (at 0) (omega arith) ∙ new_word row (at 0) (suc next) (omega arith) in
          onward_goes (call_row first end argument row) row' (suc (suc k))
          (opened (between l first end) argument ∷ with_rest (activation_of l row k) (between l (suc next) (act row k end_at)) ∷ below) call_is (record {
            long = omega arith;
            phase = keep 0 (omega arith);
            head = λ i g h. keep i (omega arith);
            tail = λ i g h. keep i (omega arith);
            depth = else_word deeper steps_at (suc steps) 1 (omega arith) ∙ new_word calling depth_at (suc (suc k)) (omega arith);
            some = omega arith;
            few = room;
            steps = new_word deeper steps_at (suc steps) (omega arith);
            early = early;
            activations = ap₂ (λ (y : Activation) (xs : List Activation). y ∷ xs)
                (activation_same l with_callee row' (suc k) (λ i g h. behind i (omega arith)) ∙ act_opened passed_on (suc k) first end argument l (omega arith))
                (ap₂ (λ (x : Activation) (xs : List Activation). x ∷ xs)
                (activation_is l row' k (suc next) (act row k end_at) (act row k arg_at) (act row k got_at) (act row k reply_at)
                on (keep (at 1) (omega arith)) (keep (at 2) (omega arith)) (keep (at 3) (omega arith)) (keep (at 4) (omega arith)))
                (stack_same l row row' k (λ i g h. keep i (omega arith))));
            inside = at_or (λ (j : ℕ). j < suc (suc k) → Inside tables row' j) (suc k) (λ z. omega (arith, start, last))
                (at_or (λ (j : ℕ). j ≢ suc k → j < suc (suc k) → Inside tables row' j) k
                (λ ne z. omega (arith, on, keep (at 1) (omega arith), runs.ends k (omega arith)))
                (λ j other ne z. inside_kept row' j (omega arith)
                (keep (activations_at + j * activation_words + 0) (omega arith, omega arith, omega arith, λ g. other (omega arith), λ g e. ne (omega arith)))
                (keep (activations_at + j * activation_words + 1) (omega arith, omega arith, omega arith, omega arith, λ g e. ne (omega arith)))));
            calls = λ shallow z. absurd (omega (arith, flag));
          })

  -- ---- the end of a callee's body: its reply goes to the caller

  module _ (j v : ℕ) (deep : get_or row depth_at 0 ≡ suc (suc j)) (early : suc (get_or row steps_at 0) < 1024) where
    abbrev caller : ℕ
    caller = activations_at + j * activation_words + 3

    back_is : back_row v row ≡ set (set (set row depth_at (suc j)) caller v) steps_at (suc (get_or row steps_at 0))
    unfolding back_row with_act
    back_is =
        let d₁ : suc (suc j) - 1 ≡ suc j = omega arith in
        let d₂ : suc (suc j) - 2 ≡ j = omega arith in
        ap (λ (d : ℕ). stepped (set (set row depth_at (d - 1)) (activations_at + (d - 2) * activation_words + 3) v)) deep
        ∙ ap₂ (λ (d e : ℕ). stepped (set (set row depth_at d) (activations_at + e * activation_words + 3) v)) d₁ d₂
        ∙ step_is (suc j) deep early (set (set row depth_at (suc j)) caller v)
        (else_word (set row depth_at (suc j)) caller v 2 (omega arith) ∙ else_word row depth_at (suc j) 2 (omega arith))

    -- The callee's activation is closed, and its caller has got its reply.
    pub back_goes : Goes text tables p row values (going_to (back_row v row) values)
        (onward_run (run_of text p row) (with_got (activation_of l row j) v ∷ stack_of l row j)) idle
    unfolding stack_of activation_of act
    back_goes =
        let s = get_or row steps_at 0 in
        let one = set row depth_at (suc j) in
        let two = set one caller v in
        let row' = set two steps_at (suc s) in
        let few = runs.depth in
        let long₁ = length-set row depth_at (suc j) in
        let long₂ = length-set one caller v in
        let long₃ = length-set two steps_at (suc s) in
        let keep : (i : ℕ) → (i ≢ steps_at) × (i ≢ caller) × (i ≢ depth_at) → get_or row' i 0 ≡ get_or row i 0 =
        λ i n. else_word two steps_at (suc s) i n.0 ∙ else_word one caller v i n.1 ∙ else_word row depth_at (suc j) i n.2 in
        onward_goes (back_row v row) row' (suc j) (with_got (activation_of l row j) v ∷ stack_of l row j) back_is (record {
          long = omega arith;
          phase = keep 0 (omega arith);
          head = λ i g h. keep i (omega arith);
          tail = λ i g h. keep i (omega arith);
          depth = else_word two steps_at (suc s) 1 (omega arith) ∙ else_word one caller v 1 (omega arith) ∙ new_word row depth_at (suc j) (omega arith);
          some = omega arith;
          few = omega arith;
          steps = new_word two steps_at (suc s) (omega arith);
          early = early;
          activations = ap₂ (λ (x : Activation) (xs : List Activation). x ∷ xs)
              (activation_is l row' j (act row j next_at) (act row j end_at) (act row j arg_at) v (act row j reply_at)
              (keep (activations_at + j * activation_words + 0) (omega arith)) (keep (activations_at + j * activation_words + 1) (omega arith)) (keep (activations_at + j * activation_words + 2) (omega arith))
              (else_word two steps_at (suc s) caller (omega arith) ∙ new_word one caller v (omega arith)) (keep (activations_at + j * activation_words + 4) (omega arith)))
              (stack_same l row row' j (λ i g h. keep i (omega arith)));
          inside = λ i h. inside_kept row' i (omega arith) (keep (activations_at + i * activation_words + 0) (omega arith)) (keep (activations_at + i * activation_words + 1) (omega arith));
          calls = λ shallow z. absurd (let s = shallow (sym (keep 11 (omega arith)) ∙ z) in omega (arith, s.0, deep));
        })
