-- `fill_class` meets its contract: the commuting masks are made of the vectors that were stored before.
use Rattle.vector_compiler.specs.Filling.{class_filled}
use Rattle.vector_compiler.proofs.fill.fill_class.Goals as goal

pub returns : goal.returns
returns c =
    let a = c.args in
    class_filled a.text.now a.tables.now a.class _ _ c.fill_masks.ensures c.fill_commuting.ensures
