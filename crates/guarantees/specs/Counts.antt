-- Ticket 5: the step that counts in 16 bits and the step that counts in 64 bits agree on every state that start and the calls left,
-- since no message that runs has taken 1,024 steps on its object.
use Rattle.std.specs.Prelude.{ℕ, ◌+◌, ◌-◌, ◌*◌, ◌/◌, ◌%◌, ◌<◌, ◌≡◌, Bool, true, false, cond, List, ltb}
use native.Mathlib.Omega.{arith}
use Rattle.std.proofs.Math.Path.{refl, ap}
use Rattle.std.proofs.Common.{sym, subst, ◌∙◌}
use Rattle.std.proofs.Math.Option.{Option, none, some}
use Rattle.std.proofs.Math.ListN.{get_or, set}
use Rattle.std.proofs.Math.Seq.{set-set}
use Rattle.layout.specs.Layout.{values_most, depth_at, steps_at, changed_at, called_at, activations_at, next_at, end_at, got_at, reply_at, activation_words, marks_at, set_marks_at, notes_at}
use Rattle.laws.specs.Bits.{bit}
use Rattle.model.specs.Form.{Change}
use Rattle.model.specs.Vector.{Program}
use Rattle.model.specs.Message.{changed, Run}
use Rattle.model.specs.Service.{Slot, closed, opened, World}
use Rattle.model.specs.Machine.{service}
use Rattle.machine_words.specs.Row as Row
use Rattle.machine_words.specs.Row.{Turn, Left, act, top, with_act, new_act, stepped, passed, is_set, note_word, with_mark, noted_row, skip_row, call_row, reply_row, back_row, going_to, carried}
use Rattle.machine_words.specs.Turn.{decided_wide, decided}
use Rattle.machine_words.specs.Calls.{Lent, After, tables_of, row_of, phase_of, laid}
use Rattle.machine_refinement.specs.Rep.{Running, NowRep, SlotRep, Rep}
use Rattle.machine_refinement.specs.Stores.{else_word}
use Rattle.machine_refinement.specs.Locks.{blank_word}
use Rattle.machine_refinement.specs.Step.{same_turn}
use Rattle.machine_refinement.specs.WaitRows.{settled_ready}

-- ---- the step that counts in 64 bits

-- One more step, counted in 64 bits.
abbrev recounted : List ℕ → Left → Left
recounted row x = record { answered = x.answered; row = set x.row steps_at ((get_or row steps_at 0 + 1) % 18446744073709551616); values = x.values }

-- What carrying out a turn leaves where steps are counted in 64 bits: one more where the message stays on its object.
unfoldable pub carried_wide : List ℕ → List ℕ → Turn → Left
unfolding carried
carried_wide row values Row.misfit = carried row values Row.misfit
carried_wide row values Row.stop = carried row values Row.stop
carried_wide row values Row.skip = recounted row (carried row values Row.skip)
carried_wide row values (Row.assign how k v) = recounted row (carried row values (Row.assign how k v))
carried_wide row values (Row.call first end a) = recounted row (carried row values (Row.call first end a))
carried_wide row values (Row.reply v) = recounted row (carried row values (Row.reply v))
carried_wide row values (Row.back v) = recounted row (carried row values (Row.back v))
carried_wide row values (Row.next o first end sum) = carried row values (Row.next o first end sum)
carried_wide row values (Row.answer v) = carried row values (Row.answer v)

-- A step of slot s, with its steps counted in 64 bits, and in 16 bits.
abbrev pub step_wide : Lent → ℕ → After
step_wide x s =
    let row = row_of x.words s in
    laid x s (carried_wide row x.values (decided_wide x.text (tables_of x.words) row x.values))

abbrev pub step_narrow : Lent → ℕ → After
step_narrow x s =
    let row = row_of x.words s in
    laid x s (carried row x.values (decided x.text (tables_of x.words) row x.values))

-- ---- both counts of a row

passed_count : (row : List ℕ) → get_or (passed row) steps_at 0 ≡ get_or row steps_at 0
unfolding passed with_act
passed_count row = else_word row (activations_at + top row * activation_words + next_at) _ steps_at (omega arith)

act_count : (row : List ℕ) (k i v : ℕ) → get_or (with_act row k i v) steps_at 0 ≡ get_or row steps_at 0
unfolding with_act
act_count row k i v = else_word row (activations_at + k * activation_words + i) v steps_at (omega arith)

new_count : (row : List ℕ) (k first end a : ℕ) → get_or (new_act row k first end a) steps_at 0 ≡ get_or row steps_at 0
unfolding new_act
new_count row k first end a =
    let r₁ = with_act row k 0 first in
    let r₂ = with_act r₁ k 1 end in
    let r₃ = with_act r₂ k 2 a in
    act_count (with_act r₃ k got_at 0) k 4 0 ∙ act_count r₃ k got_at 0 ∙ act_count r₂ k 2 a ∙ act_count r₁ k 1 end ∙ act_count row k 0 first

noted_count : (row : List ℕ) (how : Change) (k x v : ℕ) → get_or (noted_row row how k x v) steps_at 0 ≡ get_or row steps_at 0
unfolding noted_row
noted_count row how k x v = go (ltb k values_most) (bit (get_or row (set_marks_at + k / 32) 0) (k % 32))
  where
    flagged : List ℕ
    flagged = set row changed_at 1

    marked : List ℕ
    marked = with_mark flagged marks_at k true

    word : ℕ
    word = note_word how (get_or row (notes_at + k) 0) x v

    go : (b c : Bool) → get_or (cond b (cond c row (set (with_mark marked set_marks_at k (is_set how)) (notes_at + k) word)) row) steps_at 0 ≡ get_or row steps_at 0
    go false c = refl
    go true true = refl
    go true false =
        else_word (with_mark marked set_marks_at k (is_set how)) (notes_at + k) word steps_at (omega arith)
        ∙ else_word marked (set_marks_at + k / 32) _ steps_at (omega arith) ∙ else_word flagged (marks_at + k / 32) _ steps_at (omega arith)
        ∙ else_word row changed_at 1 steps_at (omega arith)

module _ (row values : List ℕ) (early : get_or row steps_at 0 < 1024) where
  -- One more step on a row with the same count.
  same_count : (z : List ℕ) → get_or z steps_at 0 ≡ get_or row steps_at 0 → set (stepped z) steps_at ((get_or row steps_at 0 + 1) % 18446744073709551616) ≡ stepped z
  unfolding stepped
  same_count z e =
      let v : (get_or row steps_at 0 + 1) % 18446744073709551616 ≡ (get_or z steps_at 0 + 1) % 65536 = omega arith in
      set-set z steps_at _ _ ∙ ap (set z steps_at) v

  same_going : (z : List ℕ) (values' : List ℕ) → get_or z steps_at 0 ≡ get_or row steps_at 0 → recounted row (going_to (stepped z) values') ≡ going_to (stepped z) values'
  same_going z values' e = ap (λ (x : List ℕ). going_to x values') (same_count z e)

  same_carried : (t : Turn) → carried_wide row values t ≡ carried row values t
  unfolding carried_wide carried skip_row call_row reply_row back_row
  same_carried Row.misfit = refl
  same_carried Row.stop = refl
  same_carried Row.skip = same_going (passed row) values (passed_count row)
  same_carried (Row.assign how k v) =
      let x = get_or values k 0 in
      let n = noted_row row how k x v in
      same_going (passed n) (set values k (changed how x v)) (passed_count n ∙ noted_count row how k x v)
  same_carried (Row.call first end a) =
      let d = get_or row depth_at 0 in
      let n = new_act (passed row) d first end a in
      same_going (set (set n called_at 1) depth_at ((d + 1) % 4294967296)) values
      (else_word (set n called_at 1) depth_at ((d + 1) % 4294967296) steps_at (omega arith)
      ∙ else_word n called_at 1 steps_at (omega arith) ∙ new_count (passed row) d first end a ∙ passed_count row)
  same_carried (Row.reply v) =
      let end = act row (top row) end_at in
      let n = with_act row (top row) 0 end in
      same_going (with_act n (top row) reply_at v) values (act_count n (top row) reply_at v ∙ act_count row (top row) 0 end)
  same_carried (Row.back v) =
      let d = get_or row depth_at 0 in
      let n = set row depth_at (d - 1) in
      same_going (with_act n (d - 2) got_at v) values (act_count n (d - 2) got_at v ∙ else_word row depth_at (d - 1) steps_at (omega arith))
  same_carried (Row.next o first end sum) = refl
  same_carried (Row.answer v) = refl

-- ---- on every state that start and the calls left

module _ (x : Lent) (p : Program) (w : World (service p)) (rep : Rep x p w) (s : ℕ) (h : s < 8) (two : phase_of (row_of x.words s) ≡ 2) where
  abbrev tables : List ℕ
  tables = tables_of x.words

  abbrev own : List ℕ
  own = row_of x.words s

  runs : Running tables p own
  runs = by_slot (w.slots s) (subst (λ (row : List ℕ). SlotRep x.text tables p row (w.slots s)) (settled_ready own (omega arith)) (rep.slots s h))
    where
      by_run : (r : Option Run) → NowRep x.text tables p own r → Running tables p own
      by_run none now = absurd (omega arith)
      by_run (some r) now = now.2

      by_slot : (z : Slot (service p)) → SlotRep x.text tables p own z → Running tables p own
      by_slot closed e = absurd (omega (arith, ap phase_of e, blank_word 0))
      by_slot (opened t) o = by_run t.running o.now

  -- "the count never passes 1,024": a message that runs has taken fewer steps on its object.
  pub count_early : get_or own steps_at 0 < 1024
  count_early = runs.early

  -- "with the same answers, numbers and fields on every such state"
  pub same_step : step_narrow x s ≡ step_wide x s
  same_step =
      let turn = decided_wide x.text tables own x.values in
      ap (laid x s) (ap (carried own x.values) (same_turn x.text tables own x.values count_early) ∙ sym (same_carried own x.values count_early turn))
