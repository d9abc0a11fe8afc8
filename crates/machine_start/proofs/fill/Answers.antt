-- `fill` meets its contract: what is stored after the masks is worked out from what the masks leave unchanged.
use Prim.Native.Nat.{◌%◌}
use native.Mathlib.Omega.{arith}
use lib.ListN.{length}
use Rattle.machine_start.specs.Stored.{stored}
use Rattle.machine_start.specs.Filling.{filled}
use Rattle.machine_start.proofs.fill.Goals as goal

pub returns : goal.returns
returns c =
    let text = c.args.text.now in
    filled text c.args.tables.now _ _ c.requires c.fill_vectors.ensures
    (stored _ (omega (arith, c.requires, c.fill_vectors.ensures.only.size)) (length text % 65536) c.fill_places-values.result _ _ _ _
    c.fill_domains.ensures c.fill_places-values.ensures.0 c.fill_places-values.ensures.1 c.put_counts.ensures c.put_header.ensures)
