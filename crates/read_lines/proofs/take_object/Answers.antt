-- `take_object` meets its contract: in a line of that form its name, its class and its values follow one another.
use Rattle.std.proofs.lemmas.Result.{err_from_is_err_and}
use Rattle.read_classes.specs.Took.{fault_some}
use mathlib.Core.Path.{refl}
use Prim.Native.Nat.{ℕ, ◌≤◌}
use mathlib.Core.List.{List}
use native.Mathlib.Omega.{arith}
use lib.ListN.{length}
use Rattle.read_classes.specs.Lines.{line_of}
use Rattle.read_lines.specs.Objects.{Ends, ends_within, object_refused, object_taken}
use Rattle.read_lines.proofs.take_object.Goals as goal
use Rattle.read_lines.proofs.take_object.Goals.{After-word_end_after-class_end}

abbrev line : After-word_end_after-class_end → List ℕ
line c = let a = c.args in line_of a.text.now a.place.now.start a.place.now.end

ends : (c : After-word_end_after-class_end) → Ends (line c) c.word_end-first.result c.word_end_after-name_end.result c.word_end_after-class_end.result
ends c = record { word = c.word_end-first.ensures; name = c.word_end_after-name_end.ensures; class = c.word_end_after-class_end.ensures }

within : (c : After-word_end_after-class_end) → (c.word_end-first.result ≤ length (line c)) × (c.word_end_after-class_end.result ≤ length (line c))
within c = ends_within (line c) c.word_end-first.result c.word_end_after-name_end.result c.word_end_after-class_end.result (ends c)

pub slice_bounds-count-count : goal.slice_bounds-count-count
slice_bounds-count-count c = (within (goal.at.slice_bounds-count-count c).After-word_end_after-class_end).1

pub slice_bounds-count-start : goal.slice_bounds-count-start
slice_bounds-count-start c = (within (goal.at.slice_bounds-count-start c).After-word_end_after-class_end).1

pub returns-in_err-object_fault : goal.returns-in_err-object_fault
returns-in_err-object_fault c =
    let a = c.args in
    let p = err_from_is_err_and c.from_residual.result c.from_residual.ensures.1 in
    rw (p.1, p.2)
    (object_refused a.text.now a.tables.now a.place.now.start a.place.now.end c.requires _ _ _ (ends (goal.at.returns-in_err-object_fault c).After-word_end_after-class_end)
    c.word_after-name.result.now c.word_after-class.result.now c.word_after-name.ensures c.word_after-class.ensures
    c.count.result _ c.count.ensures c.in_err-object_fault.ensures (fault_some _) _)

pub overflow_add-at : goal.overflow_add-at
overflow_add-at c = omega (arith, (within (goal.at.overflow_add-at c).After-word_end_after-class_end).0)

pub overflow_add-at-2 : goal.overflow_add-at-2
overflow_add-at-2 c = omega (arith, (within (goal.at.overflow_add-at-2 c).After-word_end_after-class_end).0)

pub overflow_add-at-3 : goal.overflow_add-at-3
overflow_add-at-3 c = omega (arith, (within (goal.at.overflow_add-at-3 c).After-word_end_after-class_end).1)

pub overflow_sub-line : goal.overflow_sub-line
overflow_sub-line c = (within (goal.at.overflow_sub-line c).After-word_end_after-class_end).1

pub returns : goal.returns
returns c =
    let a = c.args in
    object_taken a.text.now a.tables.now a.place.now.start a.place.now.end c.requires _ _ _ (ends (goal.at.returns c).After-word_end_after-class_end)
    c.word_after-name.result.now c.word_after-class.result.now c.word_after-name.ensures c.word_after-class.ensures
    c.count.result 0 c.count.ensures c.in_ok-object_fault.ensures refl
    c.class_number-number.result c.name_word-word.result c.part_word-part.result c.class_number-number.ensures c.name_word-word.ensures c.part_word-part.ensures
    c.put_object.new.tables c.put_object.ensures
