-- `expression_end` and `expression_end_after` meet their contracts: a token is the model's, a second operand is read where the
-- first ends, and an operand read in a part of the line is the one that the whole line has there.
use Prim.Native.Nat.{◌+◌}
use mathlib.Core.Path.{sym, ap, ◌∙◌}
use native.Mathlib.Omega.{arith}
use lib.Seq.{length-take-le}
use Rattle.std.specs.Prelude.{Some}
use Rattle.text_lex.specs.Scan.{is_byte, before_le}
use Rattle.text_syntax.specs.Reading.{placed, shifted, operand_part, operand_none, no_levels, end_of_second, end_of_none, end_of_leaf, end_of_neither}
use Rattle.text_syntax.proofs.expression.+expression_end_expression_end_after.Goals as goal

-- No levels are left.
pub expression_end-returns-then-levels-eq0 : goal.expression_end-returns-then-levels-eq0
expression_end-returns-then-levels-eq0 t c =
    let a = c.args in
    sym (ap (placed a.rest.now) (no_levels a.rest.now a.levels _ c.if-levels-eq0.true))

-- The first word is within the line.
pub expression_end-slice_bounds-token_of-end : goal.expression_end-slice_bounds-token_of-end
expression_end-slice_bounds-token_of-end t c =
    let e = c.word_end-end in
    let s = c.args.rest.now in
    sym (length-take-le e.result s (omega (arith, e.ensures, before_le (is_byte 32) s)))

-- An operator and two operands.
pub expression_end-returns-in_ok-next-in-Sign : goal.expression_end-returns-in_ok-next-in-Sign
expression_end-returns-in_ok-next-in-Sign t c =
    let a = c.args in
    c.expression_end_after-in-Sign.ensures
    ∙ end_of_second a.rest.now a.levels c.word_end-end.result c.if-levels-eq0.false c.word_end-end.ensures c.token_of.result c.token_of.ensures
    _ (c.in_ok-token_of.was ∙ ap Some c.in-Sign.is) _ c.in_ok-next-in-Sign.ensures

-- An operator without a first operand.
pub expression_end-returns-in_err-next-in-Sign : goal.expression_end-returns-in_err-next-in-Sign
expression_end-returns-in_err-next-in-Sign t c =
    let a = c.args in
    c.from_residual-in_err-next-in-Sign.ensures
    ∙ end_of_none a.rest.now a.levels c.word_end-end.result c.if-levels-eq0.false c.word_end-end.ensures c.token_of.result c.token_of.ensures
    _ (c.in_ok-token_of.was ∙ ap Some c.in-Sign.is) c.in_err-next-in-Sign.ensures

-- A leaf.
pub expression_end-returns-in-Single : goal.expression_end-returns-in-Single
expression_end-returns-in-Single t c =
    let a = c.args in
    end_of_leaf a.rest.now a.levels c.word_end-end.result c.if-levels-eq0.false c.word_end-end.ensures c.token_of.result c.token_of.ensures
    _ (c.in_ok-token_of.was ∙ ap Some c.in-Single.is)

-- No token of an expression.
pub expression_end-returns-in_err-token_of : goal.expression_end-returns-in_err-token_of
expression_end-returns-in_err-token_of t c =
    let a = c.args in
    c.from_residual.ensures
    ∙ end_of_neither a.rest.now a.levels c.word_end-end.result c.if-levels-eq0.false c.word_end-end.ensures c.token_of.result c.token_of.ensures
    c.in_err-token_of.was

-- Read in the part.
pub expression_end_after-returns-in_ok-end : goal.expression_end_after-returns-in_ok-end
expression_end_after-returns-in_ok-end t c =
    let a = c.args in
    ap (shifted (a.at + 1)) c.in_ok-end.ensures ∙ operand_part a.line.now a.levels a.at c.if-at-line.true

pub expression_end_after-returns-in_err-end : goal.expression_end_after-returns-in_err-end
expression_end_after-returns-in_err-end t c =
    let a = c.args in
    c.from_residual.ensures ∙ ap (shifted (a.at + 1)) c.in_err-end.ensures ∙ operand_part a.line.now a.levels a.at c.if-at-line.true

pub expression_end_after-returns-else-at-line : goal.expression_end_after-returns-else-at-line
expression_end_after-returns-else-at-line t c =
    let a = c.args in
    sym (ap (placed a.line.now) (operand_none a.line.now a.levels a.at c.if-at-line.false))
