-- One step: on a row whose message runs, what the words decide and carry out matches the model's turn.
use Prim.Native.Nat.{ℕ, suc, ◌+◌, ◌-◌, ◌≤◌, ◌<◌}
use native.Mathlib.Omega.{arith}
use Rattle.std.specs.Prelude.{◌≡◌, ◌≢◌, Bool, ◌||◌, length, get_or, leb}
use Rattle.std.proofs.Math.Path.{refl, ap, ap₂}
use Rattle.std.proofs.Common.{sym, subst, ◌∙◌}
use Rattle.std.proofs.Math.Bool.{true, false, cond}
use mathlib.Core.List.{List, [], ◌∷◌}
use Rattle.std.proofs.Math.Dec.{eqb, ltb}
use borrow.Author.Tests.{le-ltb, ltb-true, ltb-false, leb-true, leb-false, eqb-true, eqb-false, ne_eqb}
use Rattle.layout.specs.Layout.{values_most, value_count_at, depth_at, steps_at, sum_at, object_at, kind_at, number_at, name_at, next_at, end_at, arg_at, got_at, reply_at, row_words}
use Rattle.model.specs.Word.{Name}
use Rattle.model.specs.Library.{Library}
use Rattle.model.specs.Vector.{Program}
use Rattle.model.specs.Message.{idle, look, Activation, Run, Outcome, ends, onward, plus_reply, body_ends, limited, turn}
use Rattle.model.specs.Message as Model
use Rattle.text_theory.specs.NamedRuns.{NamedRun}
use Rattle.catalog.specs.View.{object_count, statement_count}
use Rattle.machine_words.specs.Row.{Turn, misfit, stop, back, answer, act, top, carried}
use Rattle.machine_words.specs.Turn.{object_from, next_turn, line_turn, end_turn, activation_turn, decided_wide, steps_most, decided}
use Rattle.machine_refinement.specs.Rep.{Fits, Running, message_of, activation_of, stack_of, objects_from, run_of}
use Rattle.machine_refinement.specs.Objects.{objects_past, next_some, next_none}
use Rattle.machine_refinement.specs.Runs.{between_none}
use Rattle.machine_refinement.specs.Outcomes.{Comes, by, answers, halts, early_on, late_on, turn_is, turn_on}
use Rattle.machine_refinement.specs.Going.{Matches, back_goes}
use Rattle.machine_refinement.specs.Visits.{next_turn_law, next_goes}
use Rattle.machine_refinement.specs.Statements.{goes_comes}

-- 16 bits hold the count of every message that runs.
pub same_turn : (text tables row values : List ℕ) → get_or row steps_at 0 < 1024 → decided text tables row values ≡ decided_wide text tables row values
unfolding decided
same_turn text tables row values early = rw (le-ltb steps_most (get_or row steps_at 0) (omega arith))

module _ (text tables : List ℕ) (p : Program) (fits : Fits text tables p) (row values : List ℕ) (size : length row ≡ row_words) (runs : Running tables p row)
    (named : NamedRun p (run_of text p row)) (long : length values ≡ get_or tables value_count_at 0) (few : length values ≤ values_most) where
  abbrev r : Run
  r = run_of text p row

  abbrev o : ℕ
  o = get_or row object_at 0

  abbrev later : List ℕ
  later = objects_from p (message_of text row).target (suc o)

  abbrev Now : Turn → Outcome → Type 0
  Now = Comes text tables p row values

  module _ (here : o < object_count tables) (k : ℕ) (deep : get_or row depth_at 0 ≡ suc k) where
    abbrev l : Library
    l = p.library

    abbrev a : Activation
    a = activation_of l row k

    abbrev below : List Activation
    below = stack_of l row k

    abbrev from : ℕ
    from = act row k next_at

    abbrev end : ℕ
    end = act row k end_at

    abbrev fields : Name → ℕ
    fields = look p values o

    -- ---- the end of a body

    module _ (over : end ≤ from) where
      turn_over : turn p r values ≡ limited (body_ends p r later a below)
      unfolding activation_of
      turn_over = turn_on text tables p fits row runs here k deep values [] (between_none l from end over)

      -- The object has ended: the next object, or the answer.
      abbrev sum : ℕ
      sum = plus_reply (get_or row sum_at 0) (act row k reply_at)

      abbrev coming : ℕ
      coming = object_from tables (get_or row kind_at 0) (get_or row number_at 0) (suc o)

      abbrev end_by : Bool → Turn
      end_by b = cond b (next_turn text tables (get_or row name_at 0) coming sum) (answer sum)

      end_is : (b : Bool) → ltb coming (object_count tables) ≡ b → end_turn text tables row (act row k reply_at) ≡ end_by b
      unfolding end_turn
      end_is b f =
          let e : o + 1 ≡ suc o = omega arith in
          ap₂ (λ (t : Bool) (i : ℕ). let q = object_from tables (get_or row kind_at 0) (get_or row number_at 0) i in
          cond t (cond (ltb q (object_count tables)) (next_turn text tables (get_or row name_at 0) q sum) (answer sum)) misfit) runs.target e
          ∙ ap end_by f

      object_ends : below ≡ [] → Now (end_turn text tables row (act row k reply_at)) (turn p r values)
      unfolding carried run_of activation_of
      object_ends alone = go (ltb coming (object_count tables)) refl
        where
          ended : (os : List ℕ) → later ≡ os → turn p r values ≡ limited (Model.object_ends p r os (act row k reply_at))
          ended os e = turn_over ∙ ap₂ (λ (xs : List ℕ) (ys : List Activation). limited (body_ends p r xs a ys)) e alone

          next_is : coming < object_count tables
              → (Model.in_target p (message_of text row).target coming ≡ true) × (later ≡ coming ∷ objects_from p (message_of text row).target (suc coming))
          next_is = next_some text tables p fits (get_or row kind_at 0) (get_or row number_at 0) (suc o) runs.target

          go : (b : Bool) → ltb coming (object_count tables) ≡ b → Now (end_turn text tables row (act row k reply_at)) (turn p r values)
          go true e =
              let h = ltb-true coming (object_count tables) e in
              let os = coming ∷ objects_from p (message_of text row).target (suc coming) in
              let aimed = (next_is h).0 in
              let known = named.message coming aimed in
              by (end_is true e ∙ next_turn_law text tables p fits row size runs.target coming sum h aimed known) (ended os (next_is h).1) (record {
                matches = next_goes text tables p fits row size runs.target coming sum h aimed known values;
              })
          go false e =
              by (end_is false e)
              (ended [] (next_none text tables p fits (get_or row kind_at 0) (get_or row number_at 0) (suc o) runs.target (ltb-false coming (object_count tables) e)))
              (answers sum)

      -- A callee's body has ended: its reply goes to the caller.
      body_ends_law : (j : ℕ) → k ≡ suc j → (b : Bool) → leb 1024 (get_or row steps_at 0 + 1) ≡ b → Now (cond b stop (back (act row k reply_at))) (turn p r values)
      unfolding carried activation_of stack_of
      body_ends_law j e b f = go b f
        where
          to : List Activation
          to = Model.with_got (activation_of l row j) (act row k reply_at) ∷ stack_of l row j

          ended : turn p r values ≡ limited (onward r to idle)
          ended = turn_over ∙ ap (λ (n : ℕ). limited (body_ends p r later a (stack_of l row n))) e

          go : (b : Bool) → leb 1024 (get_or row steps_at 0 + 1) ≡ b → Now (cond b stop (back (act row k reply_at))) (turn p r values)
          go true f = by refl (ended ∙ late_on text p row to idle (omega (arith, leb-true 1024 (get_or row steps_at 0 + 1) f))) halts
          go false f =
              let h = leb-false 1024 (get_or row steps_at 0 + 1) f in
              by refl (ended ∙ early_on text p row to idle (omega arith))
              (record { matches = back_goes text tables p row values size runs j (act row k reply_at) (deep ∙ ap suc e) (omega arith) })

      ends_comes : (b : Bool) → eqb k 0 ≡ b
          → Now (cond b (end_turn text tables row (act row k reply_at)) (cond (leb 1024 (get_or row steps_at 0 + 1)) stop (back (act row k reply_at)))) (turn p r values)
      unfolding stack_of
      ends_comes true e = object_ends (ap (stack_of l row) (eqb-true k 0 e))
      ends_comes false e =
          let ne : k ≢ 0 = eqb-false k 0 e in
          body_ends_law (k - 1) (omega arith) (leb 1024 (get_or row steps_at 0 + 1)) refl

    -- ---- the activation

    active_comes : Now (activation_turn text tables row values) (turn p r values)
    unfolding activation_turn
    active_comes = by (ap by_top top_is ∙ ap (λ (b : Bool). cond b misfit (by_end (eqb from end))) fitting) refl (go (eqb from end) refl)
      where
        top_is : top row ≡ k
        top_is = omega arith

        late : Bool
        late = leb 1024 (get_or row steps_at 0 + 1)

        by_top : ℕ → Turn
        by_top j =
            cond (ltb (act row j end_at) (act row j next_at) || ltb (statement_count tables) (act row j end_at)) misfit
            (cond (eqb (act row j next_at) (act row j end_at)) (cond (eqb j 0) (end_turn text tables row (act row j reply_at)) (cond late stop (back (act row j reply_at))))
            (cond late stop (line_turn text tables values o (get_or row depth_at 0) (act row j next_at) (act row j arg_at) (act row j got_at))))

        by_end : Bool → Turn
        by_end b =
            cond b (cond (eqb k 0) (end_turn text tables row (act row k reply_at)) (cond late stop (back (act row k reply_at))))
            (cond late stop (line_turn text tables values o (get_or row depth_at 0) from (act row k arg_at) (act row k got_at)))

        -- The activation is within the text's statements.
        fitting : (ltb end from || ltb (statement_count tables) end) ≡ false
        fitting =
            let t₁ : ltb end from ≡ false = le-ltb end from (runs.starts k (omega arith)) in
            let t₂ : ltb (statement_count tables) end ≡ false = le-ltb (statement_count tables) end (runs.ends k (omega arith)) in
            rw (t₁, t₂) refl

        go : (b : Bool) → eqb from end ≡ b → Now (by_end b) (turn p r values)
        go true e = let same = eqb-true from end e in ends_comes (omega arith) (eqb k 0) refl
        go false e =
            let ne : from ≢ end = eqb-false from end e in
            goes_comes text tables p fits row values size runs named long few here k deep (omega (arith, runs.starts k (omega arith))) late refl

  -- "With no objects the first step answers 0."
  no_object : object_count tables ≤ o → turn p r values ≡ ends (get_or row sum_at 0) idle
  unfolding run_of
  no_object h = turn_is text p row values [] r.activations (objects_past text tables p fits (message_of text row).target o h) refl

  wide_comes : Now (decided_wide text tables row values) (turn p r values)
  unfolding decided_wide
  wide_comes = go (eqb o (object_count tables)) refl
    where
      on : Turn
      on = cond (ltb (object_count tables) o || eqb (get_or row depth_at 0) 0 || ltb 8 (get_or row depth_at 0)) misfit (activation_turn text tables row values)

      go : (b : Bool) → eqb o (object_count tables) ≡ b → Now (cond b (answer (get_or row sum_at 0)) on) (turn p r values)
      go true e = let past = eqb-true o (object_count tables) e in by refl (no_object (omega arith)) (answers (get_or row sum_at 0))
      go false e =
          let ne : o ≢ object_count tables = eqb-false o (object_count tables) e in
          let here : o < object_count tables = omega (arith, runs.within) in
          let some = runs.active here in
          let t₀ : ltb (object_count tables) o ≡ false = le-ltb (object_count tables) o runs.within in
          let t₁ : eqb (get_or row depth_at 0) 0 ≡ false = ne_eqb (get_or row depth_at 0) 0 (omega arith) in
          let t₂ : ltb 8 (get_or row depth_at 0) ≡ false = le-ltb 8 (get_or row depth_at 0) runs.depth in
          let active : on ≡ activation_turn text tables row values = rw (t₀, t₁, t₂) refl in
          by active refl (active_comes here (get_or row depth_at 0 - 1) (omega arith))

  decided_comes : Now (decided text tables row values) (turn p r values)
  decided_comes = subst (λ (t : Turn). Now t (turn p r values)) (sym (same_turn text tables row values runs.early)) wide_comes

  -- The step.
  pub step_matches : Matches text tables p row values (carried row values (decided text tables row values)) (turn p (run_of text p row) values)
  step_matches = decided_comes.matches
