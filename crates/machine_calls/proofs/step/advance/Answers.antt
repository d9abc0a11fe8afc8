-- `advance` meets its contract: the turn decided on the row is carried out on it.
use Rattle.std.proofs.Common.{◌≡◌, Err, refl, rules}
use Rattle.machine_calls.specs.Stepped.{stepped, goes_on}
use Rattle.machine_calls.proofs.step.advance.Goals as goal

pub returns-in_err-outcome : goal.returns-in_err-outcome
returns-in_err-outcome c =
    let r : c.from_residual.result ≡ Err c.in_err-outcome.field-0.0 = search rules in
    rw r (stepped _ _ c.requires _ _ c.row_range.ensures.0 c.row_range.ensures.1 c.decide-turn.result (rw (c.tables_of.ensures, c.row_of.ensures) at c.decide-turn.ensures)
    _ c.carry.new.row _ (search rules) c.in_err-outcome.ensures _ refl)

pub returns-in-Stopped : goal.returns-in-Stopped
returns-in-Stopped c =
    stepped _ _ c.requires _ _ c.row_range.ensures.0 c.row_range.ensures.1 c.decide-turn.result (rw (c.tables_of.ensures, c.row_of.ensures) at c.decide-turn.ensures)
    _ c.carry.new.row _ (search rules) c.in_ok-outcome.ensures _ (rw c.in-Stopped.is c.wake.ensures)

pub returns-in_default : goal.returns-in_default
returns-in_default c =
    stepped _ _ c.requires _ _ c.row_range.ensures.0 c.row_range.ensures.1 c.decide-turn.result (rw (c.tables_of.ensures, c.row_of.ensures) at c.decide-turn.ensures)
    _ c.carry.new.row _ (search rules) c.in_ok-outcome.ensures _ (goes_on _ c.in_default.not-Stopped _ _)
