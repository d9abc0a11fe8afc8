-- A call stage by stage: the refusals that every call tests first, then what it does by its slot's phase.
use Prim.Native.Nat.{ℕ, zero, suc, ◌+◌, ◌*◌, ◌≤◌, ◌<◌}
use Rattle.std.proofs.Common.{arith, ap, subst, ◌∙◌, get_or-take, get_or-drop}
use Rattle.std.specs.Prelude.{◌≡◌, Bool, not, ◌&&◌, List, length, get_or, drop, Result}
use Rattle.refusals.specs.declared.Refusal.{Refusal}
use Rattle.std.proofs.Math.Path.{refl, sym}
use Rattle.std.proofs.Math.Bool.{true, false, cond}
use Rattle.std.proofs.Math.Dec.{eqb, leb, ltb, eqb-suc-zero}
use borrow.Author.Tests.{eq-eqb, ne_eqb, leb-false, ltb-true, ltb-false, lt-ltb, le-ltb, lt-leb, le-leb, eqb-true, eqb-false}
use Rattle.layout.specs.Layout.{classes_most, statements_most, objects_most, values_most, slots_most, class_count_at, statement_count_at, object_count_at, value_count_at, text_length_at, start_mark_at, table_words, row_words, line_at, state_words}
use Rattle.model.specs.Service.{Call}
use Rattle.model.specs.Machine.{Request}
use Rattle.machine_words.specs.Calls.{Lent, After, mark, row_start, row_of, phase_of, misfit_of, refused, on_closed, on_idle, on_running, on_waiting, slot_in, by_phase, called, is_counted}
use Rattle.machine_words.specs.Rows.{fit_is}
use Rattle.machine_words.specs.declared.Outcome.{Outcome}
use Rattle.machine_checks.specs.Told.{Leaves}
use Rattle.machine_checks.specs.Phase.{phase_from, phase_fits}
use Rattle.refusals.specs.Numbers.{refusal_in}
use Rattle.machine_checks.specs.Lent.{Within}

-- 21, 24, then 31, then 24 for an unknown phase; 0 where none of them applies.
unfoldable pub first_refusal : Lent → ℕ → ℕ
unfolding misfit_of row_of
first_refusal x s =
    let misfit = misfit_of x in
    cond (not (eqb misfit 0)) misfit (cond (leb 8 s) 31 (cond (ltb 3 (phase_of (row_of x.words s))) 24 0))

-- ---- 21, 24

-- The counts within their limits, by what was read.
pub counted_by : (ws : List ℕ) (c s o n : ℕ) → c ≡ get_or ws class_count_at 0 → s ≡ get_or ws statement_count_at 0 → o ≡ get_or ws object_count_at 0 → n ≡ get_or ws line_at 0
    → (leb c classes_most && leb s statements_most && leb o objects_most && leb n slots_most) ≡ is_counted ws
unfolding is_counted
counted_by ws c s o n p q r t = rw (p, q, r, t)

module _ (x : Lent) where
  pub misfit_short : length x.words < state_words → 21 ≡ misfit_of x
  unfolding misfit_of
  misfit_short h = rw (lt-ltb (length x.words) state_words h)

  module _ (l : state_words ≤ length x.words) (m t n : ℕ) (c : Bool) (p : m ≡ get_or x.words start_mark_at 0) (q : t ≡ get_or x.words text_length_at 0)
      (r : n ≡ get_or x.words value_count_at 0) (d : c ≡ is_counted x.words) where
    -- The tests as the code makes them.
    abbrev tests : Bool
    tests = eqb m mark && eqb t (length x.text) && eqb n (length x.values) && leb (length x.values) values_most && c

    pub misfit_by : (b : Bool) → tests ≡ b → cond b 0 24 ≡ misfit_of x
    unfolding misfit_of
    misfit_by b e = rw (le-ltb (length x.words) state_words l, ← p, ← q, ← r, ← d) (ap (λ (y : Bool). cond y 0 24) (sym e))

-- ---- 31, and 24 by the phase

module _ (x : Lent) (s m : ℕ) (e : m ≡ misfit_of x) where
  pub first_misfit : (m ≡ 0 → ⊥) → m ≡ first_refusal x s
  unfolding first_refusal
  first_misfit z = rw (← e, ne_eqb m 0 z)

  module _ (z : m ≡ 0) where
    pub first_slot : 8 ≤ s → 31 ≡ first_refusal x s
    unfolding first_refusal
    first_slot h = rw (← e, z, le-leb 8 s h)

    pub first_phase : s < 8 → (f : ℕ) → f ≡ phase_of (row_of x.words s) → refusal_in (phase_from f) ≡ first_refusal x s
    unfolding first_refusal
    first_phase h f q = rw (← e, z, lt-leb 8 s h, ← q) (phase_fits f)

-- ---- by the phase

module _ (x : Lent) (s n : ℕ) (e : n ≡ first_refusal x s) (z : n ≡ 0) where
  none_first : (misfit_of x ≡ 0) × (s < 8) × (phase_of (row_of x.words s) ≤ 3)
  unfolding first_refusal
  none_first = go (misfit_of x) refl (leb 8 s) refl (ltb 3 (phase_of (row_of x.words s))) refl
    where
      go : (m : ℕ) → misfit_of x ≡ m → (a : Bool) → leb 8 s ≡ a → (b : Bool) → ltb 3 (phase_of (row_of x.words s)) ≡ b
          → (misfit_of x ≡ 0) × (s < 8) × (phase_of (row_of x.words s) ≤ 3)
      go zero p false q false r = (p, leb-false 8 s q, ltb-false 3 (phase_of (row_of x.words s)) r)
      go zero p false q true r =
          let n24 : first_refusal x s ≡ 24 = rw (p, q, r) in
          absurd (omega arith)
      go zero p true q b r =
          let n31 : first_refusal x s ≡ 31 = rw (p, q) in
          absurd (omega arith)
      go (suc m) p a q b r =
          let other : first_refusal x s ≡ suc m = rw (p, eqb-suc-zero m) in
          absurd (omega arith)

  -- Where none of the first refusals applies, the slot exists, with its row.
  pub within : Within x.words s
  within = record { slot = none_first.1; long = (fit_is x none_first.0).long }

-- A phase above 3 is unknown.
phase_none : (x : Lent) (c : Call Request) (f : ℕ) → 3 < f → by_phase x c f ≡ refused x 24
phase_none x c f h = rw (ne_eqb f 0 (λ e. omega arith), ne_eqb f 1 (λ e. omega arith), ne_eqb f 2 (λ e. omega arith), ne_eqb f 3 (λ e. omega arith))

module _ (x : Lent) (c : Call Request) (n : ℕ) (e : n ≡ first_refusal x (slot_in c)) where
  abbrev row_phase : ℕ
  row_phase = phase_of (row_of x.words (slot_in c))

  pub refused_first : (n ≡ 0 → ⊥) → refused x n ≡ called x c
  unfolding called first_refusal
  refused_first z = go (eqb (misfit_of x) 0) refl (leb 8 (slot_in c)) refl (ltb 3 row_phase) refl
    where
      go : (a : Bool) → eqb (misfit_of x) 0 ≡ a → (b : Bool) → leb 8 (slot_in c) ≡ b → (d : Bool) → ltb 3 row_phase ≡ d
          → refused x n ≡ called x c
      go false p b q d r = rw p (ap (refused x) (e ∙ rw p))
      go true p true q d r = rw (p, q) (ap (refused x) (e ∙ rw (p, q)))
      go true p false q true r = rw (p, q) (ap (refused x) (e ∙ rw (p, q, r)) ∙ sym (phase_none x c row_phase (ltb-true 3 row_phase r)))
      go true p false q false r = absurd (z (e ∙ rw (p, q, r)))

  module _ (z : n ≡ 0) (f : ℕ) (q : f ≡ phase_of (row_of x.words (slot_in c))) where
    by_phase_law : by_phase x c f ≡ called x c
    unfolding called
    by_phase_law = let h = none_first x (slot_in c) n e z in rw (h.0, lt-leb 8 (slot_in c) h.1, q)

    pub when_closed : f ≡ 0 → on_closed x c ≡ called x c
    when_closed o = rw (eq-eqb f 0 o) at by_phase_law

    pub when_idle : f ≡ 1 → on_idle x c ≡ called x c
    when_idle o = rw o at by_phase_law

    pub when_running : f ≡ 2 → on_running x c ≡ called x c
    when_running o = rw o at by_phase_law

    pub when_waiting : f ≡ 3 → on_waiting x c ≡ called x c
    when_waiting o = rw o at by_phase_law

    -- An open slot that does not wait, whether a message runs or not.
    pub when_ready : (y : After) → y ≡ on_idle x c → y ≡ on_running x c → (f ≡ 0 → ⊥) → (f ≡ 3 → ⊥) → y ≡ called x c
    when_ready y i r a d = go (eqb f 1) refl
      where
        go : (b : Bool) → eqb f 1 ≡ b → y ≡ called x c
        go true t = i ∙ when_idle (eqb-true f 1 t)
        go false t =
            let h = (none_first x (slot_in c) n e z).2 in
            r ∙ when_running (omega (arith, h, eqb-false f 1 t, q))

-- ---- send and commit, which need a slot where no message runs

-- The refusals that every call tests first, then 37, then 34; 0 where none of them applies.
unfoldable pub idle_refusal : Lent → ℕ → ℕ
unfolding first_refusal row_of
idle_refusal x s =
    let first = first_refusal x s in
    cond (not (eqb first 0)) first (cond (eqb (phase_of (row_of x.words s)) 3) 37 (cond (eqb (phase_of (row_of x.words s)) 2) 34 0))

module _ (x : Lent) (s m : ℕ) (e : m ≡ first_refusal x s) where
  pub idle_first : (m ≡ 0 → ⊥) → m ≡ idle_refusal x s
  unfolding idle_refusal
  idle_first z = rw (← e, ne_eqb m 0 z)

  module _ (z : m ≡ 0) (f : ℕ) (q : f ≡ phase_of (row_of x.words s)) where
    pub idle_waiting : f ≡ 3 → 37 ≡ idle_refusal x s
    unfolding idle_refusal
    idle_waiting o = rw (← e, z, ← q, o)

    pub idle_running : f ≡ 2 → 34 ≡ idle_refusal x s
    unfolding idle_refusal
    idle_running o = rw (← e, z, ← q, o)

    pub idle_none : (f ≡ 3 → ⊥) → (f ≡ 2 → ⊥) → 0 ≡ idle_refusal x s
    unfolding idle_refusal
    idle_none b a = rw (← e, z, ← q, ne_eqb f 3 b, ne_eqb f 2 a)

module _ (x : Lent) (c : Call Request) (n : ℕ) (e : n ≡ idle_refusal x (slot_in c))
    (running : on_running x c ≡ refused x 34) (waiting : on_waiting x c ≡ refused x 37) where
  abbrev phase : ℕ
  phase = phase_of (row_of x.words (slot_in c))

  by_tests : (m : ℕ) → first_refusal x (slot_in c) ≡ m → (a b : Bool) → eqb phase 3 ≡ a → eqb phase 2 ≡ b
      → n ≡ cond (not (eqb m 0)) m (cond a 37 (cond b 34 0))
  unfolding idle_refusal
  by_tests m p a b q r = e ∙ (λ i. cond (not (eqb (p i) 0)) (p i) (cond (q i) 37 (cond (r i) 34 0)))

  pub idle_refused : (n ≡ 0 → ⊥) → refused x n ≡ called x c
  idle_refused z = go (first_refusal x (slot_in c)) refl (eqb phase 3) refl (eqb phase 2) refl
    where
      go : (m : ℕ) → first_refusal x (slot_in c) ≡ m → (a : Bool) → eqb phase 3 ≡ a → (b : Bool) → eqb phase 2 ≡ b
          → refused x n ≡ called x c
      go (suc m) p a q b r =
          let other : n ≡ suc m = by_tests (suc m) p a b q r ∙ rw (eqb-suc-zero m) in
          refused_first x c n (other ∙ sym p) z
      go zero p true q b r =
          ap (refused x) (by_tests 0 p true b q r) ∙ sym waiting ∙ when_waiting x c 0 (sym p) refl phase refl (eqb-true phase 3 q)
      go zero p false q true r =
          ap (refused x) (by_tests 0 p false true q r) ∙ sym running ∙ when_running x c 0 (sym p) refl phase refl (eqb-true phase 2 r)
      go zero p false q false r = absurd (z (by_tests 0 p false false q r))

  module _ (z : n ≡ 0) where
    both : (first_refusal x (slot_in c) ≡ 0) × (phase ≡ 3 → ⊥) × (phase ≡ 2 → ⊥)
    both = go (first_refusal x (slot_in c)) refl (eqb phase 3) refl (eqb phase 2) refl
      where
        go : (m : ℕ) → first_refusal x (slot_in c) ≡ m → (a : Bool) → eqb phase 3 ≡ a → (b : Bool) → eqb phase 2 ≡ b
            → (first_refusal x (slot_in c) ≡ 0) × (phase ≡ 3 → ⊥) × (phase ≡ 2 → ⊥)
        go (suc m) p a q b r =
            let other : n ≡ suc m = by_tests (suc m) p a b q r ∙ rw (eqb-suc-zero m) in
            absurd (omega arith)
        go zero p true q b r = let other = by_tests 0 p true b q r in absurd (omega arith)
        go zero p false q true r = let other = by_tests 0 p false true q r in absurd (omega arith)
        go zero p false q false r = (p, eqb-false phase 3 q, eqb-false phase 2 r)

    pub idle_within : Within x.words (slot_in c)
    idle_within = within x (slot_in c) 0 (sym both.0) refl

    -- Commit: by whether the slot is closed.
    pub idle_closed : (f : ℕ) → f ≡ phase → f ≡ 0 → on_closed x c ≡ called x c
    idle_closed f q o = when_closed x c 0 (sym both.0) refl f q o

    pub idle_open : (f : ℕ) → f ≡ phase → (f ≡ 0 → ⊥) → on_idle x c ≡ called x c
    idle_open f q a =
        let low = (none_first x (slot_in c) 0 (sym both.0) refl).2 in
        when_idle x c 0 (sym both.0) refl f q (omega (arith, both.1, both.2))

    -- Send: alike on a closed and on an open slot.
    pub idle_either : on_closed x c ≡ on_idle x c → on_idle x c ≡ called x c
    idle_either same = go (eqb phase 0) refl
      where
        go : (b : Bool) → eqb phase 0 ≡ b → on_idle x c ≡ called x c
        go true t = sym same ∙ idle_closed phase refl (eqb-true phase 0 t)
        go false t = idle_open phase refl (eqb-false phase 0 t)

-- The slot's phase is the first word of its row.
pub phase_is : (ws : List ℕ) (s : ℕ) → get_or ws (table_words + s * row_words) 0 ≡ phase_of (row_of ws s)
unfolding row_of
phase_is ws s =
    let e : row_start s + 0 ≡ row_start s = omega arith in
    sym (get_or-take row_words (drop (row_start s) ws) 0 0 (omega arith) ∙ get_or-drop (row_start s) ws 0 0 ∙ ap (λ (i : ℕ). get_or ws i 0) e)

-- What leaves a result leaves an equal one too.
pub leaves_as : {after after' : After} {r : Result Outcome Refusal} {y : Lent} → after ≡ after' → Leaves after r y → Leaves after' r y
leaves_as {r = r} {y = y} e h = subst (λ (a : After). Leaves a r y) e h
