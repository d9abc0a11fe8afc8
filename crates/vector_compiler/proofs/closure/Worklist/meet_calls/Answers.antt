-- `meet_calls` meets its contract: each turn meets what one statement calls.
use mathlib.Core.Path.{refl}
use native.Mathlib.Omega.{arith}
use Rattle.vector_compiler.specs.Marks.{touched}
use Rattle.vector_compiler.specs.Meeting.{one_more_met, calls_met}
use Rattle.vector_compiler.proofs.closure.Worklist.meet_calls.Goals as goal

pub loop-i-init : goal.loop-i-init
unfolding touched
loop-i-init c = (refl, c.direct_of.ensures.memory)

pub loop-i-preserved : goal.loop-i-preserved
loop-i-preserved c =
    let a = c.args in
    let i = c.loop-i.invariant in (
      one_more_met a.class.now.text.now a.class.now.tables.now a.class.now.number c.direct_of.result.body.first c.loop-i.i c.callee_of-number.result a.self.now c.loop-i.self _
          i.0 c.callee_of-number.ensures.value c.meet.ensures,
      c.callee_of-number.ensures.memory,
    )

pub returns : goal.returns
returns c =
    let a = c.args in
    let i = c.loop-i.invariant in record {
      calls_met = calls_met a.class.now.text.now a.class.now.tables.now a.class.now.number c.direct_of.result.body.first a.node c.loop-i.i c.direct_of.result.body.size a.self.now c.loop-i.self
          (omega arith) c.direct_of.ensures.right.body i.0;
      memory = i.1;
    }
