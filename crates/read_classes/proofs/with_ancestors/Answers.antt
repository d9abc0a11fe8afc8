-- `read_classes::with_ancestors` meets its contract: a bit of a union is in either mask, and an unknown class has no ancestors.
use native.Mathlib.Omega.{arith}
use Rattle.read_classes.proofs.AncestorLaws.{mask_known, mask_unknown}
use Rattle.read_classes.proofs.with_ancestors.Goals as goal

pub returns-then-class-class_count : goal.returns-then-class-class_count
returns-then-class-class_count c =
    λ text d. mask_known text c.args.tables.now c.args.class c.requires d (omega (arith, c.if-class-class_count.true, c.class_count.ensures))
    c.ancestors.result c.ancestors.ensures

pub returns-else-class-class_count : goal.returns-else-class-class_count
returns-else-class-class_count c =
    λ text d. mask_unknown text c.args.tables.now c.args.class c.requires d (omega (arith, c.if-class-class_count.false, c.class_count.ensures))
