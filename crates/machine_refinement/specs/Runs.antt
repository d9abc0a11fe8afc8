-- What a row represents, by its words: statements, activations, the message, the notes, the run. Rows with equal words represent
-- the same.
use Prim.Native.Nat.{ℕ, zero, suc, ◌+◌, ◌-◌, ◌*◌, ◌/◌, ◌%◌, ◌≤◌, ◌<◌}
use Rattle.std.proofs.Common.{arith, sym, ◌∙◌, drop-cons, ltb-true}
use Rattle.std.specs.Prelude.{◌≡◌, Bool, true, false, cond, length, get_or, take, drop, ltb}
use Rattle.std.proofs.Math.Path.{refl, ap, ap₂}
use Rattle.std.proofs.Math.Option.{none}
use mathlib.Core.List.{List, [], ◌∷◌, map}
use Rattle.layout.specs.Layout.{values_most, depth_at, steps_at, sum_at, object_at, changed_at, activations_at, next_at, end_at, arg_at, got_at, reply_at, activation_words, object_locks_at, marks_at, set_marks_at, notes_at, row_words}
use Rattle.model.specs.Expression.{number}
use Rattle.model.specs.Form.{Statement, reply}
use Rattle.model.specs.Library.{Library, Placed}
use Rattle.model.specs.Vector.{Program}
use Rattle.model.specs.Message.{Target, Message, Activation}
use Rattle.model.specs.Message as Model
use Rattle.model.specs.Undo.{sum_added}
use Rattle.laws.specs.Bits.{bit}
use Rattle.catalog.specs.View.{name_of}
use Rattle.machine_words.specs.Row.{act, note_by, note_at}
use Rattle.machine_words.specs.Turn.{target_there}
use Rattle.laws.specs.Lists.{map_at}
use Rattle.machine_refinement.specs.Rep.{target_by, message_of, statement_at, between, activation_of, stack_of, objects_from, run_of, Running}

-- The words of two rows are equal from one place up to another.
abbrev pub Alike : ℕ → ℕ → List ℕ → List ℕ → Type 0
Alike from end row row' = (i : ℕ) → from ≤ i → i < end → get_or row' i 0 ≡ get_or row i 0

-- ---- statements

-- Nothing is left at the end of a body.
pub between_none : (l : Library) (from end : ℕ) → end ≤ from → between l from end ≡ []
unfolding between
between_none l from end h = let e : end - from ≡ 0 = omega arith in rw e refl

-- Before the end of a body, a statement and those after it are left.
pub between_more : (l : Library) (from end : ℕ) → from < end → end ≤ length l.statements → between l from end ≡ statement_at l from ∷ between l (suc from) end
unfolding between
between_more l from end h k =
    let d : Placed = record { statement = record { guard = none; action = reply (number 0) }; at = 0; size = 0 } in
    let e : end - from ≡ suc (end - suc from) = omega arith in
    ap₂ (λ (n : ℕ) (ss : List Placed). map (λ s. s.statement) (take n ss)) e (drop-cons l.statements from d (omega arith))
    ∙ ap {B = List Statement} (λ s. s ∷ map (λ s. s.statement) (take (end - suc from) (drop (suc from) l.statements)))
    (sym (map_at (λ s. s.statement) l.statements from d (record { guard = none; action = reply (number 0) }) (omega arith)))

-- ---- activations

module _ (l : Library) where
  -- An activation by its words.
  pub activation_is : (row : List ℕ) (k next end arg got reply' : ℕ) → act row k next_at ≡ next → act row k end_at ≡ end → act row k arg_at ≡ arg → act row k got_at ≡ got
      → act row k reply_at ≡ reply'
      → activation_of l row k ≡ record { rest = between l next end; arg = arg; got = got; reply = reply' }
  unfolding activation_of
  activation_is row k next end arg got reply' a b c d e = λ i. record { rest = between l (a i) (b i); arg = c i; got = d i; reply = e i }

  pub activation_same : (row row' : List ℕ) (k : ℕ) → Alike (activations_at + k * activation_words) (activations_at + k * activation_words + activation_words) row row' → activation_of l row' k ≡ activation_of l row k
  unfolding activation_of act
  activation_same row row' k alike =
      let at : (i : ℕ) → i < 5 → act row' k i ≡ act row k i = λ i h. alike (activations_at + k * activation_words + i) (omega arith) (omega arith) in
      activation_is row' k (act row k next_at) (act row k end_at) (act row k arg_at) (act row k got_at) (act row k reply_at)
      (at 0 (omega arith)) (at 1 (omega arith)) (at 2 (omega arith)) (at 3 (omega arith)) (at 4 (omega arith))

  pub stack_same : (row row' : List ℕ) (d : ℕ) → Alike activations_at (activations_at + d * activation_words) row row' → stack_of l row' d ≡ stack_of l row d
  unfolding stack_of
  stack_same row row' zero alike = refl
  stack_same row row' (suc d) alike =
      ap₂ (λ (a : Activation) (below : List Activation). a ∷ below)
      (activation_same row row' d (λ i g h. alike i (omega arith) (omega arith)))
      (stack_same row row' d (λ i g h. alike i g (omega arith)))

  -- There are as many activations as the row counts.
  pub stack_length : (row : List ℕ) (d : ℕ) → length (stack_of l row d) ≡ d
  unfolding stack_of
  stack_length row zero = refl
  stack_length row (suc d) = ap suc (stack_length row d)

-- ---- the message and the notes

pub message_same : (text row row' : List ℕ) → Alike 5 9 row row' → message_of text row' ≡ message_of text row
message_same text row row' alike = λ i. record {
  target = target_by (alike 5 (omega arith) (omega arith) i) (alike 6 (omega arith) (omega arith) i);
  method = name_of text (alike 7 (omega arith) (omega arith) i);
  argument = alike 8 (omega arith) (omega arith) i;
}

-- A value's note by its mark and its word.
pub note_alike : (row row' : List ℕ) (k : ℕ)
    → (k < values_most → (bit (get_or row' (set_marks_at + k / 32) 0) (k % 32) ≡ bit (get_or row (set_marks_at + k / 32) 0) (k % 32)) × (get_or row' (notes_at + k) 0 ≡ get_or row (notes_at + k) 0))
    → note_at row' k ≡ note_at row k
unfolding note_at
note_alike row row' k same = go (ltb k values_most) refl
  where
    go : (b : Bool) → ltb k values_most ≡ b
        → cond b (note_by (bit (get_or row' (set_marks_at + k / 32) 0) (k % 32)) (get_or row' (notes_at + k) 0)) (sum_added 0)
        ≡ cond b (note_by (bit (get_or row (set_marks_at + k / 32) 0) (k % 32)) (get_or row (notes_at + k) 0)) (sum_added 0)
    go true e = let s = same (ltb-true k values_most e) in ap₂ note_by s.0 s.1
    go false e = refl

pub note_same : (row row' : List ℕ) → Alike marks_at row_words row row' → (k : ℕ) → note_at row' k ≡ note_at row k
note_same row row' alike k = note_alike row row' k (λ h. (
  ap (λ (m : ℕ). bit m (k % 32)) (alike (set_marks_at + k / 32) (omega arith) (omega arith)),
  alike (notes_at + k) (omega arith) (omega arith),
))

-- ---- the run

module _ (text : List ℕ) (p : Program) where
  -- The run by its parts.
  pub run_is : (row : List ℕ) (m : Message) (os : List ℕ) (below : List Activation) (s v : ℕ) → message_of text row ≡ m
      → objects_from p (message_of text row).target (get_or row object_at 0) ≡ os → stack_of p.library row (get_or row depth_at 0) ≡ below → get_or row steps_at 0 ≡ s → get_or row sum_at 0 ≡ v
      → run_of text p row ≡ record { message = m; objects = os; activations = below; steps = s; sum = v }
  unfolding run_of
  run_is row m os below s v a b c d e = λ i. record { message = a i; objects = b i; activations = c i; steps = d i; sum = e i }

  -- Rows that differ only in their notes and locks represent the same run.
  module _ (tables row row' : List ℕ) (runs : Running tables p row) (alike : Alike depth_at changed_at row row') (stack : Alike activations_at object_locks_at row row') where
    pub run_same : run_of text p row' ≡ run_of text p row
    unfolding run_of
    run_same =
        let m = message_same text row row' (λ i g h. alike i (omega arith) (omega arith)) in
        let d = alike 1 (omega arith) (omega arith) in
        let e = runs.depth in
        run_is row' (message_of text row) (objects_from p (message_of text row).target (get_or row object_at 0)) (stack_of p.library row (get_or row depth_at 0))
        (get_or row steps_at 0) (get_or row sum_at 0) m
        (ap₂ (objects_from p) (ap (λ (z : Message). z.target) m) (alike 4 (omega arith) (omega arith)))
        (ap (stack_of p.library row') d ∙ stack_same p.library row row' (get_or row depth_at 0) (λ i g h. stack i g (omega arith)))
        (alike 2 (omega arith) (omega arith)) (alike 3 (omega arith) (omega arith))

    pub running_same : Running tables p row'
    unfolding act
    running_same =
        let w1 = alike 1 (omega arith) (omega arith) in
        let w4 = alike 4 (omega arith) (omega arith) in
        let w5 = alike 5 (omega arith) (omega arith) in
        let w6 = alike 6 (omega arith) (omega arith) in
        let deep = runs.depth in
        record {
          depth = omega arith;
          within = let a = runs.within in omega arith;
          active = λ h. let a = runs.active (omega arith) in omega arith;
          visiting = λ h. ap₂ (λ (t : Target) (o : ℕ). Model.in_target p t o) (ap₂ target_by w5 w6) w4 ∙ runs.visiting (omega arith);
          starts = λ k h.
              let e = runs.starts k (omega arith) in
              let q = stack (activations_at + k * activation_words + 0) (omega arith) (omega arith) in
              let z = stack (activations_at + k * activation_words + 1) (omega arith) (omega arith) in
              omega arith;
          ends = λ k h. let e = runs.ends k (omega arith) in let q = stack (activations_at + k * activation_words + 1) (omega arith) (omega arith) in omega arith;
          target = ap₂ (target_there tables) w5 w6 ∙ runs.target;
          early = omega (arith, alike 2 (omega arith) (omega arith), runs.early);
        }
