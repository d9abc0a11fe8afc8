-- `fill_vectors` meets its contract: each turn fills one class and leaves the library, and the classes before, unchanged.
use native.Mathlib.Omega.{arith}
use Rattle.vector_compiler.specs.Filling.{filled_more, filled}
use Rattle.vector_compiler.proofs.fill.fill_vectors.Goals as goal

pub loop-class-preserved : goal.loop-class-preserved
loop-class-preserved c =
    let a = c.args in
    filled_more a.text.now a.tables.now c.loop-class.class c.loop-class.tables _ (omega (arith, c.class_count-count.ensures)) c.loop-class.invariant c.fill_class.ensures

pub returns : goal.returns
returns c =
    let a = c.args in
    filled a.text.now a.tables.now c.loop-class.tables c.loop-class.class (omega (arith, c.class_count-count.ensures)) c.loop-class.invariant
