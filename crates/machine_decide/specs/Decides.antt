-- The turn that is decided, test by test, with names for what the code has read by then.
use Rattle.std.specs.Prelude.{◌≡◌, ℕ, ◌+◌, ◌%◌, ◌<◌, ◌≤◌, Bool, true, false, ◌||◌, leb, List, ◌==◌, ◌≢◌, nat_le, nat_lt, slice_index, refl}
use Rattle.std.proofs.Common.{ap, ◌∙◌, add-one, arith}
use Rattle.std.proofs.Math.Option.{Option, none, some}
use Rattle.std.proofs.Math.Dec.{leb-suc-suc}
use borrow.Author.Tests.{eq-eqb, ne_eqb, lt-ltb, le-ltb, ltb-false}
use Rattle.layout.specs.Layout.{depth_at, steps_at, sum_at, object_at, kind_at, number_at, name_at, next_at, end_at, arg_at, got_at, reply_at}
use Rattle.model.specs.Library.{Member}
use Rattle.catalog.specs.View.{object_count, statement_count}
use Rattle.machine_words.specs.Row.{Turn, misfit, stop, back, next, answer, act, top}
use Rattle.machine_words.specs.Turn.{target_there, object_from, next_on, next_turn, line_turn, end_turn, activation_turn, decided_wide, steps_most, decided}
use Rattle.catalog.specs.declared.body.Statements.{Statements}
use Rattle.std.specs.Prelude as rust
use Rattle.std.specs.Prelude.{Some, None}
use Rattle.catalog.specs.Bodies.{bounds_of}

-- The turn to an object, by the answer for its body.
abbrev pub next_by : ℕ → ℕ → rust.Option Statements → Turn
next_by o sum (Some s) = next o s.first s.end sum
next_by o sum None = misfit

pub next_by_law : (o sum : ℕ) (m : Option Member) → next_by o sum (bounds_of m) ≡ next_on o sum m
next_by_law o sum none = refl
next_by_law o sum (some m) = refl

-- An object of the target of kind a and number b has ended.
module _ (text tables row : List ℕ) (v a b : ℕ) (f : a ≡ slice_index row kind_at) (g : b ≡ slice_index row number_at) where
  pub end_misfit : target_there tables a b ≡ false → misfit ≡ end_turn text tables row v
  unfolding end_turn
  end_misfit t = rw (← f, ← g, t)

  -- The target exists, and o is the next object.
  module _ (t : target_there tables a b ≡ true) (sum o n : ℕ) (s : sum ≡ (slice_index row sum_at + v) % 4294967296)
      (e : o ≡ object_from tables a b (slice_index row object_at + 1)) (q : n ≡ object_count tables) where
    pub end_next : o < n → next_turn text tables (slice_index row name_at) o sum ≡ end_turn text tables row v
    unfolding end_turn
    end_next h = rw (← f, ← g, t, ← s, ← e, ← q, lt-ltb o n h)

    pub end_answer : n ≤ o → answer sum ≡ end_turn text tables row v
    unfolding end_turn
    end_answer h = rw (← f, ← g, t, ← s, ← e, ← q, le-ltb o n h)

-- The latest activation is k, at statement i of those before j; there are n statements, and `steps` are done on this object.
module _ (text tables row values : List ℕ) (k i j n : ℕ) (p : k ≡ top row) (q : i ≡ act row k next_at) (r : j ≡ act row k end_at) (u : n ≡ statement_count tables) where
  pub outside : (nat_lt j i || nat_lt n j) ≡ true → misfit ≡ activation_turn text tables row values
  unfolding activation_turn
  outside w = rw (← p, ← q, ← r, ← u, w)

  module _ (w : (nat_lt j i || nat_lt n j) ≡ false) (steps : ℕ) (x : steps ≡ slice_index row steps_at) where
    module _ (h : i ≡ j) where
      pub last_object : k ≡ 0 → (v : ℕ) → v ≡ act row k reply_at → end_turn text tables row v ≡ activation_turn text tables row values
      unfolding activation_turn
      last_object z v e = rw (← p, ← q, ← r, ← u, w, eq-eqb i j h, eq-eqb k 0 z, e)

      module _ (z : k ≡ 0 → ⊥) where
        pub last_late : leb 1024 (steps + 1) ≡ true → stop ≡ activation_turn text tables row values
        unfolding activation_turn
        last_late t = rw (← p, ← q, ← r, ← u, w, eq-eqb i j h, ne_eqb k 0 z, ← x, t)

        pub last_back : leb 1024 (steps + 1) ≡ false → (v : ℕ) → v ≡ act row k reply_at → back v ≡ activation_turn text tables row values
        unfolding activation_turn
        last_back t v e = rw (← p, ← q, ← r, ← u, w, eq-eqb i j h, ne_eqb k 0 z, ← x, t, e)

    module _ (h : i ≡ j → ⊥) where
      pub more_late : leb 1024 (steps + 1) ≡ true → stop ≡ activation_turn text tables row values
      unfolding activation_turn
      more_late t = rw (← p, ← q, ← r, ← u, w, ne_eqb i j h, ← x, t)

      pub more_line : leb 1024 (steps + 1) ≡ false → (o d a g : ℕ) → o ≡ slice_index row object_at → d ≡ slice_index row depth_at → a ≡ act row k arg_at → g ≡ act row k got_at
          → line_turn text tables values o d i a g ≡ activation_turn text tables row values
      unfolding activation_turn
      more_line t o d a g eo ed ea eg = rw (eo, ed, ea, eg, ← p, ← q, ← r, ← u, w, ne_eqb i j h, ← x, t)

-- The message is on object o of n.
module _ (text tables row values : List ℕ) (n o : ℕ) (p : n ≡ object_count tables) (q : o ≡ slice_index row object_at) where
  pub decided_answer : o ≡ n → answer (slice_index row sum_at) ≡ decided_wide text tables row values
  unfolding decided_wide
  decided_answer h = rw (← p, ← q, eq-eqb o n h)

  -- It has d activations.
  module _ (h : o ≡ n → ⊥) (d : ℕ) (r : d ≡ slice_index row depth_at) where
    pub decided_misfit : (nat_lt n o || d == 0 || nat_lt 8 d) ≡ true → misfit ≡ decided_wide text tables row values
    unfolding decided_wide
    decided_misfit t = rw (← p, ← q, ← r, ne_eqb o n h, t)

    pub decided_on : (nat_lt n o || d == 0 || nat_lt 8 d) ≡ false → activation_turn text tables row values ≡ decided_wide text tables row values
    unfolding decided_wide
    decided_on t = rw (← p, ← q, ← r, ne_eqb o n h, t)

-- After those tests the object is one of n.
pub decided_within : (n o d : ℕ) → (o ≢ n) → (nat_lt n o || d == 0 || nat_lt 8 d) ≡ false → o < n
decided_within n o d h t = let l = ltb-false n o (first (nat_lt n o) (d == 0) (nat_lt 8 d) t) in omega arith
  where
    first : (a b c : Bool) → (a || b || c) ≡ false → a ≡ false
    first true b c e = e
    first false b c e = refl

-- The 1,024th step, where the step before it was counted last.
pub late_is : (steps : ℕ) {b : Bool} → nat_le 1023 steps ≡ b → nat_le 1024 (steps + 1) ≡ b
late_is steps e = ap (leb 1024) (add-one steps) ∙ leb-suc-suc 1023 steps ∙ e

module _ (text tables row values : List ℕ) (steps : ℕ) (x : steps ≡ slice_index row steps_at) where
  -- A count that 16 bits do not hold.
  pub decided_past : steps_most < steps → misfit ≡ decided text tables row values
  unfolding decided
  decided_past h = rw (← x, lt-ltb steps_most steps h)

  pub decided_counted : steps ≤ steps_most → decided_wide text tables row values ≡ decided text tables row values
  unfolding decided
  decided_counted h = rw (← x, le-ltb steps_most steps h)
