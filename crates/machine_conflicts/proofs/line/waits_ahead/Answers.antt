-- `waits_ahead` meets its contract: its two tests are the definition's.
use mathlib.Core.Path.{◌∙◌}
use Rattle.machine_conflicts.specs.Ahead.{not_ahead, is_ahead}
use Rattle.machine_conflicts.proofs.line.waits_ahead.Goals as goal

pub returns-then-not-is_ahead : goal.returns-then-not-is_ahead
returns-then-not-is_ahead c = not_ahead _ _ _ _ c.is_ahead.ensures c.if-not-is_ahead.true

pub returns : goal.returns
returns c =
    c.is_waiting.ensures ∙ is_ahead _ _ _ _ c.is_ahead.ensures c.if-not-is_ahead.false
