-- `value_of` and `value_after` meet their contracts: a token is the model's, a second operand is read where the first ends,
-- an operator has a value where its operands have one, and an operand has the same value in a part of the line as in the whole.
use Rattle.std.proofs.Common.{ℕ, ◌+◌, sym, ap, ◌∙◌}
use Rattle.std.specs.Prelude.{Some}
use Rattle.text_syntax.specs.Reading.{operand_none, no_levels}
use Rattle.text_syntax.specs.Tokens.{said_operator}
use Rattle.machine_evaluate.specs.Valued.{value_here, valued, joined, moved, apply_value, operand_value, value_of_two, value_of_one, value_of_leaf, value_of_none, first_length}
use Rattle.machine_evaluate.proofs.+value_after_value_of.Goals as goal

-- Read in the part.
pub value_after-returns-in_ok-value : goal.value_after-returns-in_ok-value
value_after-returns-in_ok-value t c =
    let a = c.args in
    ap (moved (a.at + 1)) c.in_ok-value.ensures ∙ operand_value (value_here a.scope.now) a.line.now a.levels a.at c.if-at-line.true

-- Not read in the part.
pub value_after-returns-in_err-value : goal.value_after-returns-in_err-value
value_after-returns-in_err-value t c =
    let a = c.args in
    c.from_residual.ensures ∙ ap (moved (a.at + 1)) c.in_err-value.ensures ∙ operand_value (value_here a.scope.now) a.line.now a.levels a.at c.if-at-line.true

-- Nothing follows `at`.
pub value_after-returns-else-at-line : goal.value_after-returns-else-at-line
value_after-returns-else-at-line t c =
    let a = c.args in
    sym (ap (valued (value_here a.scope.now) a.line.now) (operand_none a.line.now a.levels a.at c.if-at-line.false))

-- No levels are left.
pub value_of-returns-then-levels-eq0 : goal.value_of-returns-then-levels-eq0
value_of-returns-then-levels-eq0 t c =
    let a = c.args in
    sym (ap (valued (value_here a.scope.now) a.rest.now) (no_levels a.rest.now a.levels _ c.if-levels-eq0.true))

-- The first word is within the line.
pub value_of-slice_bounds-token_of-end : goal.value_of-slice_bounds-token_of-end
value_of-slice_bounds-token_of-end t c = first_length 32 _ _ c.word_end-end.ensures

-- And so it is where its value is asked for.
pub value_of-slice_bounds-leaf_value-end : goal.value_of-slice_bounds-leaf_value-end
value_of-slice_bounds-leaf_value-end t c = first_length 32 _ _ c.word_end-end.ensures

-- An operator and two operands.
pub value_of-returns-in_ok-second-in-Sign : goal.value_of-returns-in_ok-second-in-Sign
value_of-returns-in_ok-second-in-Sign t c =
    let s = c.args.scope.now in
    let first = c.in_ok-first-in-Sign.first in
    ap (λ (n : ℕ). Some (record { number = n; end = c.in_ok-second-in-Sign.second.end })) c.operate.ensures
    ∙ ap (joined (said_operator c.in-Sign.operator) first.number) c.in_ok-second-in-Sign.ensures
    ∙ value_of_two (value_here s) _ _ _ c.if-levels-eq0.false c.word_end-end.ensures _ c.token_of.ensures
    (apply_value s.text.now s.tables.now s.class s.own.now s.arg s.got) _ (c.in_ok-operator.was ∙ ap Some c.in-Sign.is) first c.in_ok-first-in-Sign.ensures

-- An operator without a second operand.
pub value_of-returns-in_err-second-in-Sign : goal.value_of-returns-in_err-second-in-Sign
value_of-returns-in_err-second-in-Sign t c =
    let s = c.args.scope.now in
    let first = c.in_ok-first-in-Sign.first in
    c.from_residual-in_err-second-in-Sign.ensures
    ∙ ap (joined (said_operator c.in-Sign.operator) first.number) c.in_err-second-in-Sign.ensures
    ∙ value_of_two (value_here s) _ _ _ c.if-levels-eq0.false c.word_end-end.ensures _ c.token_of.ensures
    (apply_value s.text.now s.tables.now s.class s.own.now s.arg s.got) _ (c.in_ok-operator.was ∙ ap Some c.in-Sign.is) first c.in_ok-first-in-Sign.ensures

-- An operator without a first operand.
pub value_of-returns-in_err-first-in-Sign : goal.value_of-returns-in_err-first-in-Sign
value_of-returns-in_err-first-in-Sign t c =
    let s = c.args.scope.now in
    c.from_residual-in_err-first-in-Sign.ensures
    ∙ value_of_one (value_here s) _ _ _ c.if-levels-eq0.false c.word_end-end.ensures _ c.token_of.ensures
    (apply_value s.text.now s.tables.now s.class s.own.now s.arg s.got) _ (c.in_ok-operator.was ∙ ap Some c.in-Sign.is) c.in_err-first-in-Sign.ensures

-- A leaf.
pub value_of-returns-in-Single : goal.value_of-returns-in-Single
value_of-returns-in-Single t c =
    c.leaf_value.ensures
    ∙ value_of_leaf (value_here c.args.scope.now) _ _ _ c.if-levels-eq0.false c.word_end-end.ensures _ c.token_of.ensures
    _ (c.in_ok-operator.was ∙ ap Some c.in-Single.is)

-- No token of an expression.
pub value_of-returns-in_err-operator : goal.value_of-returns-in_err-operator
value_of-returns-in_err-operator t c =
    c.from_residual.ensures
    ∙ value_of_none (value_here c.args.scope.now) _ _ _ c.if-levels-eq0.false c.word_end-end.ensures _ c.token_of.ensures
    c.in_err-operator.was
