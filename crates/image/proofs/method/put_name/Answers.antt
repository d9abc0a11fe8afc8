-- `put_name` meets its contract: the name's bytes, then the space.
use mathlib.Core.Path.{ap}
use native.Mathlib.Omega.{arith}
use lib.ListN.{length}
use Rattle.output.specs.Append.{appended_then, appended_as}
use Rattle.image.specs.Cells.{name_le}
use Rattle.image.proofs.method.put_name.Goals as goal

pub put_bytes-at-requires : goal.put_bytes-at-requires
put_bytes-at-requires c =
    let a = c.args in
    omega (arith, ap length c.name_of.ensures, name_le a.text.now a.word)

pub put_byte-requires : goal.put_byte-requires
put_byte-requires c =
    let a = c.args in
    omega (arith, c.put_bytes-at.ensures.behind, ap length c.name_of.ensures, name_le a.text.now a.word)

pub returns : goal.returns
returns c =
    appended_then (appended_as c.name_of.ensures c.put_bytes-at.ensures) c.put_byte.ensures
