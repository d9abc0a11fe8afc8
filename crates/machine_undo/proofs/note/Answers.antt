-- The three exits are the definition's three cases.
use Rattle.std.proofs.Common.{ℕ, ◌+◌, ◌/◌, ◌%◌, ◌^◌, Bool, true, List, set, sym, ap, ◌∙◌, ap₂, arith}
use Rattle.layout.specs.Layout.{marks_at, set_marks_at, notes_at}
use Rattle.machine_words.specs.Said.{said_change}
use Rattle.machine_words.specs.Row.{note_word, with_mark}
use Rattle.machine_undo.specs.Over.{noted_past, noted_kept, noted_new}
use Rattle.machine_undo.proofs.note.Goals as goal

pub returns-then-place-ge-VALUES : goal.returns-then-place-ge-VALUES
returns-then-place-ge-VALUES c =
    let a = c.args in
    noted_past a.row.now a.place (said_change a.change) a.old a.value (omega arith)

pub returns-then-marks-bit-eq1 : goal.returns-then-marks-bit-eq1
returns-then-marks-bit-eq1 c =
    let a = c.args in
    noted_kept a.row.now a.place (said_change a.change) a.old a.value (omega arith)
    (ap (λ (m : ℕ). m / 2 ^ (a.place % 32) % 2) (sym c.get-marks.ensures) ∙ c.if-marks-bit-eq1.true)

pub returns : goal.returns
returns c =
    let a = c.args in
    let k = a.place in
    let how = said_change a.change in
    c.put-2.ensures
    ∙ ap₂ (λ (l : List ℕ) (w : ℕ). set l (notes_at + k) w)
    (c.mark-2.ensures ∙ ap₂ (λ (l : List ℕ) (b : Bool). with_mark l set_marks_at k b) (c.mark.ensures ∙ ap (λ (l : List ℕ). with_mark l marks_at k true) c.put.ensures) c.is_set-set.ensures)
    (c.note_word.ensures ∙ ap (λ (sum : ℕ). note_word how sum a.old a.value) c.get-sum.ensures)
    ∙ noted_new a.row.now k how a.old a.value (omega arith) (λ q. c.if-marks-bit-eq1.false (ap (λ (m : ℕ). m / 2 ^ (k % 32) % 2) c.get-marks.ensures ∙ q))
