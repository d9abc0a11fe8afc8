-- What a turn reads is one part more, and the input has ended where it reads nothing or no turn is left.
use Rattle.std.proofs.Common.{arith}
use Rattle.rehearse_run.specs.Laws.{plays_first, plays_next, plays_end, plays_out}
use Rattle.rehearse_run.proofs.play_all.Goals as goal

pub loop-turn-init : goal.loop-turn-init
loop-turn-init g c = plays_first _ _

pub returns-then-next-eq0 : goal.returns-then-next-eq0
returns-then-next-eq0 g c = plays_end c.loop-turn.invariant c.read_once-next.ensures c.if-next-eq0.true

pub loop-turn-preserved : goal.loop-turn-preserved
loop-turn-preserved g c = plays_next c.loop-turn.invariant c.read_once-next.ensures _ (omega arith)

pub returns : goal.returns
returns g c = plays_out (omega arith) c.loop-turn.invariant
