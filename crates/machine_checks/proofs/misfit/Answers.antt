-- `misfit` meets its contract: its tests are the definition's, in their order.
use Rattle.machine_checks.specs.Phases.{misfit_short, misfit_by}
use Rattle.machine_checks.proofs.misfit.Goals as goal

pub returns-then-state-lt-STATE_WORDS : goal.returns-then-state-lt-STATE_WORDS
returns-then-state-lt-STATE_WORDS c = misfit_short _ c.if-state-lt-STATE_WORDS.true

pub returns-then-get-text : goal.returns-then-get-text
returns-then-get-text c =
    misfit_by _ c.if-state-lt-STATE_WORDS.false _ _ _ _ c.get.ensures c.get-2.ensures c.get-3.ensures c.is_counted.ensures _ c.if-get-text.true

pub returns : goal.returns
returns c =
    misfit_by _ c.if-state-lt-STATE_WORDS.false _ _ _ _ c.get.ensures c.get-2.ensures c.get-3.ensures c.is_counted.ensures _ c.if-get-text.false
