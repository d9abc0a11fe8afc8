-- `target_number` meets its contract: what precedes a point is the class; without a point the class is the object's.
use Rattle.catalog.specs.View.{library_of}
use Rattle.vector_direct.specs.Targets.{target_prefixed, target_plain}
use Rattle.vector_direct.proofs.Class.target_number.Goals as goal

pub returns-then-point-target : goal.returns-then-point-target
returns-then-point-target c =
    let a = c.args in
    target_prefixed (library_of a.self.now.text.now a.self.now.tables.now) a.self.now.number a.target.now c.piece_end-point.result c.piece_end-point.ensures
    c.method_number.result c.class_number-other.result _ c.if-point-target.true c.class_number-other.ensures c.piece_after.ensures c.method_number.ensures

pub returns-else-point-target : goal.returns-else-point-target
returns-else-point-target c =
    let a = c.args in
    target_plain (library_of a.self.now.text.now a.self.now.tables.now) a.self.now.number a.target.now c.piece_end-point.result c.piece_end-point.ensures
    c.method_number-else-point-target.result c.if-point-target.false c.method_number-else-point-target.ensures
