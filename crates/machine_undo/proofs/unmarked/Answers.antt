-- A union is 0 where its parts are.
use Rattle.std.proofs.Common.{eqb-true}
use Rattle.machine_undo.specs.Freed.{four_unmarked}
use Rattle.machine_undo.proofs.unmarked.Goals as goal

pub returns : goal.returns
returns c =
    λ e. four_unmarked c.args.row.now c.args.word c.requires.1 c.if-word-ne0.false (eqb-true _ 0 e)
