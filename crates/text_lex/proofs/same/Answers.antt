-- `text_lex::same` meets its contract: lists of different lengths differ, and at each turn the rests are the same iff the whole
-- lists are.
use mathlib.Core.Path.{sym, ◌∙◌}
use native.Mathlib.Omega.{arith}
use Rattle.text_lex.specs.Among.{same_lengths}
use Rattle.text_lex.proofs.ListLaws.{same_end, same_differ, same_more}
use Rattle.text_lex.proofs.same.Goals as goal

pub returns-then-a-b : goal.returns-then-a-b
returns-then-a-b c = sym (same_lengths _ _ c.if-a-b.true)

pub returns-then-a-i : goal.returns-then-a-i
returns-then-a-i c =
    let a = c.args in
    sym (same_differ a.a.now a.b.now c.loop-i.i (omega arith) (omega arith) c.if-a-i.true) ∙ c.loop-i.invariant

pub loop-i-preserved : goal.loop-i-preserved
loop-i-preserved c =
    let a = c.args in
    sym (same_more a.a.now a.b.now c.loop-i.i (omega arith) (omega arith) c.if-a-i.false) ∙ c.loop-i.invariant

pub returns : goal.returns
returns c =
    let a = c.args in
    sym (same_end a.a.now a.b.now c.loop-i.i (omega arith) (omega arith)) ∙ c.loop-i.invariant
