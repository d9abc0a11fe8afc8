-- `read_parents::is_repeated` meets its contract: at each turn two of the names left are the same iff two of all are.
use Rattle.std.proofs.Common.{sym, ◌∙◌}
use Rattle.model.specs.Base.{same}
use Rattle.read_parents.proofs.Loops.{pair_none, pair_first}
use Rattle.read_parents.proofs.is_repeated.Goals as goal

pub returns-then-is_among : goal.returns-then-is_among
returns-then-is_among c =
    sym (pair_first same c.in-Some.ensures.steps (sym c.is_among.ensures ∙ c.if-is_among.true)) ∙ c.loop-word.invariant.same

pub loop-word-preserved : goal.loop-word-preserved
loop-word-preserved c = record {
  can = tt;
  ends = tt;
  same = sym (pair_first same c.in-Some.ensures.steps (sym c.is_among.ensures ∙ c.if-is_among.false)) ∙ c.loop-word.invariant.same;
}

pub returns : goal.returns
returns c = sym (pair_none same c.in_default.ensures.steps.0) ∙ c.loop-word.invariant.same
