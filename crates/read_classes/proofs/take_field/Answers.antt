-- `read_classes::take_field` meets its contract: in a line of that form the name follows the first word; the class is the last one.
use Prim.Native.Nat.{◌-◌}
use native.Mathlib.Omega.{arith}
use Rattle.read_classes.proofs.LineLaws.{field_none, field_took}
use Rattle.read_classes.proofs.take_field.Goals as goal

pub returns-then-count-eq0 : goal.returns-then-count-eq0
returns-then-count-eq0 c line n e = field_none _ _ line n (omega (arith, c.if-count-eq0.true, c.class_count-count.ensures))

pub returns : goal.returns
returns c line n =
    let k = c.class_count-count.result - 1 in
    field_took _ _ line n k (omega (arith, c.if-count-eq0.false, c.class_count-count.ensures)) _ _
    c.requires _ c.name_behind.ensures _ _ c.add_field.ensures
