-- `lead_all` meets its contract: each turn adds what is led to by way of one slot more.
use native.Mathlib.Omega.{arith}
use Rattle.machine_conflicts.specs.Circle.{relation, leads_none, leads_more}
use Rattle.machine_conflicts.proofs.circle.lead_all.Goals as goal

pub loop-way-init : goal.loop-way-init
loop-way-init c = (omega arith, leads_none _ c.told-masks)

pub loop-way-preserved : goal.loop-way-preserved
loop-way-preserved c =
    let r = relation c.args.masks.now in
    (omega arith, leads_more r c.loop-way.way c.loop-way.masks _ (omega arith) c.loop-way.invariant.1 c.lead_through.ensures)
