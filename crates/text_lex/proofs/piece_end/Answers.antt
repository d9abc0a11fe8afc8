-- `text_lex::piece_end` meets its contract: at each turn the piece's end, searched from i, is the end searched from `at`.
use native.Mathlib.Omega.{arith}
use borrow.Author.Tests.{eq-eqb, ne_eqb}
use Rattle.text_lex.specs.Scan.{is_byte, before_end, before_stop, before_more}
use Rattle.text_lex.proofs.piece_end.Goals as goal

pub returns-then-text-i : goal.returns-then-text-i
returns-then-text-i c =
    let a = c.args in
    omega (arith, before_stop (is_byte a.divider) a.text.now c.loop-i.i (omega arith) (eq-eqb _ _ c.if-text-i.true))

pub loop-i-preserved : goal.loop-i-preserved
loop-i-preserved c =
    let a = c.args in
    omega (arith, before_more (is_byte a.divider) a.text.now c.loop-i.i (omega arith) (ne_eqb _ _ c.if-text-i.false))

pub returns : goal.returns
returns c =
    let a = c.args in
    let p = is_byte a.divider in
    grind (arith, before_end p a.text.now c.loop-i.i (omega arith), before_end p a.text.now a.at)
