-- `read_classes::take_method` meets its contract: in a line of that form the name follows the first word; the class is the last one.
use Prim.Native.Nat.{◌-◌}
use native.Mathlib.Omega.{arith}
use Rattle.read_classes.proofs.LineLaws.{method_none, method_took}
use Rattle.read_classes.proofs.take_method.Goals as goal

pub returns-then-count-eq0 : goal.returns-then-count-eq0
returns-then-count-eq0 c line n e = method_none _ _ line n (omega (arith, c.if-count-eq0.true, c.class_count-count.ensures))

pub returns : goal.returns
returns c line n =
    let k = c.class_count-count.result - 1 in
    method_took _ _ line n k (omega (arith, c.if-count-eq0.false, c.class_count-count.ensures)) _ _
    c.requires _ c.name_behind.ensures _ _ c.add_method.ensures
