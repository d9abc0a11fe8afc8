-- `lay_tables` meets its contract: the state has room for the tables.
use native.Mathlib.Omega.{arith}
use Rattle.std.proofs.Common.{length-take-le}
use Rattle.layout.specs.Layout.{table_words}
use Rattle.machine_start.proofs.lay_tables.Goals as goal

pub copy_from_slice-requires : goal.copy_from_slice-requires
copy_from_slice-requires c = omega (arith, c.requires.0, length-take-le table_words c.args.state.now c.requires.1)
