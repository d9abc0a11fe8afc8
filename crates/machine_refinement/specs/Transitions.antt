-- What each call does to an open slot, over the words and in the model: step, commit and abort.
use Rattle.std.specs.Prelude.{ℕ, ◌<◌, ◌≡◌, refl, List, length, get_or, set}
use Rattle.std.proofs.Common.{arith, sym, ap, subst, ◌∙◌, length-set}
use Rattle.std.proofs.Math.Path.{fun_ext}
use Rattle.std.proofs.Math.Option.{Option, none, some}
use Rattle.layout.specs.Layout.{phase_at, row_words}
use Rattle.model.specs.Vector.{Program}
use Rattle.model.specs.Message.{changed, Effect, idle, store, Run, Outcome, goes, ends, stops, turn}
use Rattle.model.specs.Message as Model
use Rattle.model.specs.Undo.{Undo, noted, put_back}
use Rattle.model.specs.Service.{Answer, done, stopped, opened, Transaction, World, with_fields, with_slot, advanced, ended, undone, after, stepped}
use Rattle.model.specs.Machine.{service}
use Rattle.laws.specs.PutBack.{back_length}
use Rattle.text_theory.specs.NamedRuns.{NamedRun, turn_named}
use Rattle.machine_words.specs.Row.{Left, note_at, freed, carried}
use Rattle.machine_words.specs.Turn.{decided}
use Rattle.machine_words.specs.Line.{withdrawn}
use Rattle.machine_words.specs.Calls.{Lent, lending, with_words, After, tables_of, row_of, phase_of, with_row, woken_by, laid, ended_at, undone_at}
use Rattle.machine_refinement.specs.Rep.{run_of, NowRep, OpenRep, Rep}
use Rattle.machine_refinement.specs.Tables.{resolving}
use Rattle.machine_refinement.specs.Runs.{note_same}
use Rattle.machine_refinement.specs.Stores.{else_word, new_word}
use Rattle.machine_refinement.specs.Freeing.{clean_alike, freed_blank}
use Rattle.machine_refinement.specs.Going.{Matches}
use Rattle.machine_refinement.specs.Step.{step_matches}
use Rattle.machine_refinement.specs.Locks.{holds_alike}
use Rattle.machine_words.specs.Rows.{Fit, fit_is}
use Rattle.machine_refinement.specs.WaitRows.{withdrawn_long}
use Rattle.machine_refinement.specs.State.{row_size, ready_phase, moved_rep}
use Rattle.machine_refinement.specs.Waking.{ended_rep}

-- What a call leaves follows the model: its answer is the model's, and what it left represents the world after.
abbrev pub Follows : (p : Program) → After → Answer × World (service p) → Type 0
Follows p x y = (x.answered ≡ y.0) × Rep x.lent p y.1

act_length : (e : Effect) (values : List ℕ) → length (Model.act e values) ≡ length values
act_length idle values = refl
act_length (store how k v) values = length-set values k (changed how (get_or values k 0) v)

module _ (lent : Lent) (p : Program) (w₀ : World (service p)) (rep : Rep lent p (with_fields (service p) w₀ lent.values))
    (s : ℕ) (h : s < 8) where
  abbrev text : List ℕ
  text = lent.text

  abbrev ws : List ℕ
  ws = lent.words

  abbrev values : List ℕ
  values = lent.values

  abbrev w : World (service p)
  w = with_fields (service p) w₀ values

  abbrev row : List ℕ
  row = row_of ws s

  fit : Fit lent
  fit = fit_is lent rep.fit

  long : length row ≡ row_words
  long = row_size lent p w rep s h

  -- A row that differs in its phase alone.
  phased : (v i : ℕ) → (i ≡ 0 → ⊥) → get_or (set row phase_at v) i 0 ≡ get_or row i 0
  phased v i ne = else_word row phase_at v i ne

  -- ---- the end of a transaction: its row, without its waiting send, is freed

  module _ (t : Transaction (service p)) (r : List ℕ) (size : length r ≡ row_words) (is_open : OpenRep text (tables_of ws) p r t) where
    frees : (values' : List ℕ) → length values' ≡ length values → Rep (lending text (ended_at text ws s r) values') p (ended (service p) w s values')
    frees values' count = ended_rep lent p w₀ rep s h (freed r) values' (freed_blank r size is_open.clean) count

    -- "Commit frees the slot and leaves the fields."
    ends_here : Follows p (record { answered = done; lent = with_words lent (ended_at text ws s r) }) (done, ended (service p) w s values)
    ends_here = (refl, frees values refl)

    -- "Abort puts back .. and frees the slot."
    undoes : (a : Answer) → Follows p (record { answered = a; lent = lending text (ended_at text ws s r) (put_back (note_at r) values) }) (a, undone (service p) w s t)
    undoes a = (
      refl,
      subst (λ (u : Undo). Rep (lending text (ended_at text ws s r) (put_back (note_at r) values)) p (ended (service p) w s (put_back u values))) (fun_ext is_open.undo)
          (frees (put_back (note_at r) values) (back_length (note_at r) values)),
    )

  -- "Abort of a waiting slot withdraws it."
  pub withdraws : (t : Transaction (service p)) → OpenRep text (tables_of ws) p (withdrawn row) t
      → Follows p (undone_at lent s (withdrawn row)) (done, undone (service p) w s t)
  withdraws t o = undoes t (withdrawn row) (withdrawn_long row long) o done

  module _ (t : Transaction (service p)) (open' : OpenRep text (tables_of ws) p row t) where
    pub commits : Follows p (record { answered = done; lent = with_words lent (ended_at text ws s row) }) (done, ended (service p) w s values)
    commits = ends_here t row long open'

    pub aborts : Follows p (undone_at lent s row) (done, undone (service p) w s t)
    aborts = undoes t row long open' done

    notes_are : note_at row ≡ t.undo
    notes_are = fun_ext open'.undo

    -- ---- a step

    -- The slot after a step's effect.
    steps_to : (row' values' : List ℕ) (e : Effect) (r : Option Run) (a : Answer) → ((ws : List ℕ) → woken_by a text ws ≡ ws) → length row' ≡ row_words
        → values' ≡ Model.act e values → OpenRep text (tables_of ws) p row' (advanced (service p) t e values r)
        → Rep (lending text (woken_by a text (with_row ws s row')) values') p (after (service p) w s t e r)
    steps_to row' values' e r a same size f o =
        subst (λ (l : List ℕ). Rep (lending text l values') p (after (service p) w s t e r)) (sym (same (with_row ws s row')))
        (subst (λ (fs : List ℕ). Rep (lending text (with_row ws s row') values') p
        (with_slot (service p) (with_fields (service p) w₀ fs) s (opened (advanced (service p) t e values r)))) f
        (moved_rep lent p w₀ rep s h row' values' size (ap length f ∙ act_length e values)
        (opened (advanced (service p) t e values r)) (ready_phase text (tables_of ws) p row t open')
        (ready_phase text (tables_of ws) p row' (advanced (service p) t e values r) o) o))

    outcome : phase_of row ≡ 2 → (x : Left) (y : Outcome) → ((r : Run) (e : Effect) → y ≡ goes r e → NamedRun p r) → Matches text (tables_of ws) p row values x y
        → Follows p (laid lent s x) (stepped (service p) w s t y)
    outcome two x (goes r e) named m = (
      m.answered,
      steps_to x.row x.values e (some r) x.answered (λ l. ap (λ (a : Answer). woken_by a text l) m.answered) m.size m.fields
          (record {
            clean = m.clean open'.clean;
            undo = λ k. m.notes k ∙ ap (λ (u : Undo). noted u e values k) notes_are;
            locks = holds_alike text (tables_of ws) p rep.fits row x.row t.locks m.locks open'.locks;
            now = (m.phase ∙ two, m.run, m.runs, named r e refl);
          }),
    )
    outcome two x (ends v e) named m =
        let e' = m.effect in
        let keep : (i : ℕ) → (i ≡ 0 → ⊥) → get_or x.row i 0 ≡ get_or row i 0 = λ i ne. ap (λ (r : List ℕ). get_or r i 0) m.left ∙ phased 1 i ne in (
          m.answered,
          steps_to x.row x.values e none x.answered (λ l. ap (λ (a : Answer). woken_by a text l) m.answered)
              (ap length m.left ∙ length-set row phase_at 1 ∙ long) (m.fields ∙ ap (λ (d : Effect). Model.act d values) (sym e'))
              (record {
                undo = λ k. note_same row x.row (λ i g l. keep i (omega arith)) k ∙ open'.undo k ∙ ap (λ (d : Effect). noted t.undo d values k) (sym e');
                clean = clean_alike row x.row (λ i g l. keep i (omega arith)) (λ i g l. keep i (omega arith)) (λ d. omega (arith, keep 1 (omega arith)))
                    open'.clean;
                locks = holds_alike text (tables_of ws) p rep.fits row x.row t.locks (λ i g l. keep i (omega arith)) open'.locks;
                now = ap (λ (r : List ℕ). get_or r phase_at 0) m.left ∙ new_word row phase_at 1 (omega (arith, long));
              }),
        )
    outcome two x stops named m =
        subst (λ (z : Left). Follows p (laid lent s z) (stopped, undone (service p) w s t))
        (sym (λ i. record { answered = m.answered i; row = m.left i; values = m.fields i }))
        (undoes t row long open' stopped)

    -- "A step answers "going" or the message's answer."
    pub steps : (r : Run) → NowRep text (tables_of ws) p row (some r)
        → Follows p (laid lent s (carried row values (decided text (tables_of ws) row values))) (stepped (service p) w s t (turn p r values))
    steps r (two, e, runs, named) =
        let known : NamedRun p (run_of text p row) = subst (NamedRun p) e named in
        subst (λ (z : Run). Follows p (laid lent s (carried row values (decided text (tables_of ws) row values)))
        (stepped (service p) w s t (turn p z values))) (sym e)
        (outcome two (carried row values (decided text (tables_of ws) row values)) (turn p (run_of text p row) values)
        (turn_named p rep.fits.names (resolving text (tables_of ws) p rep.fits) (run_of text p row) values known)
        (step_matches text (tables_of ws) p rep.fits row values long runs known fit.count fit.few))
