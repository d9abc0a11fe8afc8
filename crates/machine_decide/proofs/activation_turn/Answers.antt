-- `activation_turn` meets its contract: the tests are the definition's, in its order.
use Rattle.std.proofs.Common.{◌∙◌}
use Rattle.std.proofs.lemmas.Bool.{le-leb, lt-leb}
use Rattle.machine_decide.specs.Decides.{outside, last_object, last_late, last_back, more_late, more_line, late_is}
use Rattle.machine_decide.proofs.activation_turn.Goals as goal

pub returns-then-end-next : goal.returns-then-end-next
returns-then-end-next c = outside _ _ _ _ _ _ _ _ c.top-activation.ensures c.act-next.ensures c.act-end.ensures c.statement_count.ensures c.if-end-next.true

pub returns-then-activation-eq0 : goal.returns-then-activation-eq0
returns-then-activation-eq0 c =
    c.end_turn.ensures
    ∙ last_object _ _ _ _ _ _ _ _ c.top-activation.ensures c.act-next.ensures c.act-end.ensures c.statement_count.ensures c.if-end-next.false _ c.requires.1 c.if-next-end.true c.if-activation-eq0.true _ c.act-value.ensures

pub returns-then-late : goal.returns-then-late
returns-then-late c = last_late _ _ _ _ _ _ _ _ c.top-activation.ensures c.act-next.ensures c.act-end.ensures c.statement_count.ensures c.if-end-next.false _ c.requires.1 c.if-next-end.true c.if-activation-eq0.false (late_is c.args.steps (le-leb 1023 c.args.steps c.if-late.true))

pub returns-then-next-end : goal.returns-then-next-end
returns-then-next-end c = last_back _ _ _ _ _ _ _ _ c.top-activation.ensures c.act-next.ensures c.act-end.ensures c.statement_count.ensures c.if-end-next.false _ c.requires.1 c.if-next-end.true c.if-activation-eq0.false (late_is c.args.steps (lt-leb 1023 c.args.steps c.if-late.false)) _ c.act-value.ensures

pub returns-then-late-2 : goal.returns-then-late-2
returns-then-late-2 c = more_late _ _ _ _ _ _ _ _ c.top-activation.ensures c.act-next.ensures c.act-end.ensures c.statement_count.ensures c.if-end-next.false _ c.requires.1 c.if-next-end.false (late_is c.args.steps (le-leb 1023 c.args.steps c.if-late-2.true))

pub returns : goal.returns
returns c =
    c.line_turn.ensures
    ∙ more_line _ _ _ _ _ _ _ _ c.top-activation.ensures c.act-next.ensures c.act-end.ensures c.statement_count.ensures c.if-end-next.false _ c.requires.1 c.if-next-end.false (late_is c.args.steps (lt-leb 1023 c.args.steps c.if-late-2.false)) _ _ _ _ c.get-object.ensures c.get-depth.ensures c.act-arg.ensures c.act-got.ensures
