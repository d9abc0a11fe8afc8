-- `put_methods` meets its contract: at each turn the methods before are written.
use native.Mathlib.Omega.{arith}
use Rattle.output.specs.Append.{each_first, each_next}
use Rattle.image.specs.Cells.{members_le, methods_le}
use Rattle.image.proofs.method.put_methods.Goals as goal

pub loop-method-init : goal.loop-method-init
loop-method-init c =
    each_first _ _ _

pub put_cell-end-requires : goal.put_cell-end-requires
put_cell-end-requires c =
    let a = c.args in
    (omega (arith, c.member_count-count.ensures, members_le a.tables.now a.class 1), omega (arith, c.loop-method.invariant.behind, c.member_count-count.ensures, members_le a.tables.now a.class 1, methods_le a.text.now a.tables.now a.part a.class c.loop-method.method))

pub loop-method-preserved : goal.loop-method-preserved
loop-method-preserved c =
    each_next _ c.loop-method.method c.loop-method.invariant c.put_cell-end.ensures
