use mathlib.Core.Path.{◌≡◌}
use Rattle.vector_compiler.specs.Marks.{touched}
use Rattle.vector_compiler.specs.Meeting.{call_at}
use Rattle.vector_compiler.specs.Memo.{Memory}
use Rattle.vector_compiler.proofs.closure.Worklist.meet_calls.Given as goal

abbrev pub invariant-loop-i : goal.invariant-loop-i
invariant-loop-i l =
    (l.self ≡ touched (call_at l.class.text.now l.class.tables.now l.class.number l.body.first) l.i l.initial.self) × Memory l.class.text.now l.class.tables.now l.class.number l.memo
