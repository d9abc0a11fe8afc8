-- `end_turn` meets its contract: what it reads of the row is what the definition reads.
use Rattle.std.proofs.Common.{ℕ, ◌+◌, ◌%◌, sym, ap, ◌∙◌}
use borrow.Author.Tests.{not-true, not-false}
use Rattle.machine_words.specs.Turn.{object_from, next_turn}
use Rattle.machine_decide.specs.Decides.{end_misfit, end_next, end_answer}
use Rattle.machine_decide.proofs.end_turn.Goals as goal
use mathlib.Core.Bool.{not}

pub returns-then-not-target_there : goal.returns-then-not-target_there
returns-then-not-target_there c =
    let a = c.args in
    end_misfit a.text.now a.tables.now a.row.now a.value _ _ c.get-kind.ensures c.get-number.ensures
    (sym c.target_there.ensures ∙ not-true c.target_there.result (ap not c.if-not-target_there.true))

pub returns-then-object-object_count : goal.returns-then-object-object_count
returns-then-object-object_count c =
    let a = c.args in
    let text = a.text.now in
    let tables = a.tables.now in
    c.next_turn.ensures
    ∙ ap (λ (n : ℕ). next_turn text tables n c.object_from-object.result ((c.get.result + a.value) % 4294967296)) c.get-then-object-object_count.ensures
    ∙ end_next text tables a.row.now a.value _ _ c.get-kind.ensures c.get-number.ensures
    (sym c.target_there.ensures ∙ not-false c.target_there.result (ap not c.if-not-target_there.false)) _ _ _
    (ap (λ (n : ℕ). (n + a.value) % 4294967296) c.get.ensures)
    (c.object_from-object.ensures ∙ ap (λ (n : ℕ). object_from tables c.get-kind.result c.get-number.result (n + 1)) c.get-from.ensures)
    c.object_count.ensures c.if-object-object_count.true

pub returns-else-object-object_count : goal.returns-else-object-object_count
returns-else-object-object_count c =
    let a = c.args in
    let tables = a.tables.now in
    end_answer a.text.now tables a.row.now a.value _ _ c.get-kind.ensures c.get-number.ensures
    (sym c.target_there.ensures ∙ not-false c.target_there.result (ap not c.if-not-target_there.false)) _ _ _
    (ap (λ (n : ℕ). (n + a.value) % 4294967296) c.get.ensures)
    (c.object_from-object.ensures ∙ ap (λ (n : ℕ). object_from tables c.get-kind.result c.get-number.result (n + 1)) c.get-from.ensures)
    c.object_count.ensures c.if-object-object_count.false
