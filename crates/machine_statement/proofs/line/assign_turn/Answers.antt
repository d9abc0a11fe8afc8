-- `assign_turn` meets its contract: the field is at its place, and there is no turn where the class has no such field.
use mathlib.Core.Path.{refl, ap, ◌∙◌}
use Rattle.machine_words.specs.Said.{said_turn}
use Rattle.machine_statement.specs.Actions.{assign_there, assign_none}
use Rattle.machine_statement.proofs.line.assign_turn.Goals as goal

pub returns-in_err-field : goal.returns-in_err-field
returns-in_err-field c = ap said_turn c.from_residual.ensures ∙ assign_none _ _ _ _ _ _ _ _ _ refl refl c.in_err-field.ensures

pub returns : goal.returns
returns c = assign_there _ _ _ _ _ _ _ _ _ c.in_ok-field.ensures.0 refl c.in_ok-field.ensures.1
