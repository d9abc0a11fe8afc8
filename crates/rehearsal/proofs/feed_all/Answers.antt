-- At each turn what is left of the part leads where all of it leads from the start.
use mathlib.Core.Path.{sym, ◌∙◌}
use native.Mathlib.Omega.{arith}
use lib.ListN.{length}
use Rattle.rehearsal.specs.Feeds.{holding}
use Rattle.rehearsal.specs.Laws.{fed_end, fed_turn, held_end, held_turn, held_least, past_turn}
use Rattle.rehearsal.proofs.feed_all.Goals as goal

pub loop-byte-preserved : goal.loop-byte-preserved
loop-byte-preserved c =
    let a = c.args in
    let l = c.loop-byte in
    let f = c.take_byte-next.ensures in (
      omega (arith, f.short),
      omega (arith, f.few),
      fed_turn a.part.now l.byte-index (length a.line.now) (omega arith) l.auto.line f ∙ l.invariant.2,
      held_turn (holding l.line l.begun) a.part.now l.byte-index (omega arith) f.holds ∙ l.invariant.3,
      past_turn a.out.now f l.invariant.4,
    )

pub returns : goal.returns
returns c =
    let a = c.args in
    let l = c.loop-byte in
    record {
      reaches = sym l.invariant.2 ∙ fed_end (length a.line.now) _ a.part.now l.byte-index (omega arith);
      holds = held_least a.line.now a.kept a.part.now (omega arith) ∙ sym l.invariant.3 ∙ held_end _ a.part.now l.byte-index (omega arith);
      same = l.auto.line;
      room = omega arith;
      past = l.invariant.4;
    }
