-- `callee_of` meets its contract: what is kept is right, and what is found is kept.
use mathlib.Core.Path.{sym, ◌∙◌}
use native.Mathlib.Omega.{arith}
use Rattle.vector_compiler.specs.Meeting.{call_found}
use Rattle.vector_compiler.specs.Memo.{memory_callee, call_le}
use Rattle.vector_compiler.proofs.memo.Memo.callee_of.Goals as goal

pub returns-in-Some-clause-value : goal.returns-in-Some-clause-value
returns-in-Some-clause-value c =
    let a = c.args in
    c.requires.callees.right a.first a.i c.in-Some.number (sym c.callee.ensures ∙ c.in-Some.is)

pub keep_callee-requires : goal.keep_callee-requires
keep_callee-requires c =
    let a = c.args in
    let y = c.line_callee-number in
    let is = call_found a.class.now.text.now a.class.now.tables.now a.class.now.number a.first a.i y.result _ c.line_of-line.ensures y.ensures in
    omega (arith, is, call_le a.class.now.text.now a.class.now.tables.now a.class.now.number a.first a.i)

pub returns-clause-value : goal.returns-clause-value
returns-clause-value c =
    let a = c.args in
    call_found a.class.now.text.now a.class.now.tables.now a.class.now.number a.first a.i c.line_callee-number.result _ c.line_of-line.ensures c.line_callee-number.ensures

pub returns-clause-memory : goal.returns-clause-memory
returns-clause-memory c =
    let a = c.args in
    let y = c.line_callee-number in
    let is = call_found a.class.now.text.now a.class.now.tables.now a.class.now.number a.first a.i y.result _ c.line_of-line.ensures y.ensures in
    memory_callee a.class.now.text.now a.class.now.tables.now a.class.now.number a.self.now _ a.first a.i y.result c.requires is
    c.keep_callee.ensures.bodies c.keep_callee.ensures.callees
