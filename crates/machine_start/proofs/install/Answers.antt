-- `install` meets its contract: the tables stay in front of the closed slots.
use Rattle.machine_start.specs.Installed.{laid_closed}
use Rattle.machine_start.proofs.install.Goals as goal

pub returns : goal.returns
returns c =
    laid_closed c.args.tables.now c.args.state.now _ _ c.requires.0 c.lay_tables.ensures c.close_slots.ensures
