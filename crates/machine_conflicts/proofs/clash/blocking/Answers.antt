-- `blocking` meets its contract: each turn adds the bit of another slot that is in the way.
use Rattle.std.proofs.Common.{ℕ, Bool, refl, sym, ◌∙◌, arith}
use Rattle.machine_words.specs.Line.{blocks}
use Rattle.machine_conflicts.specs.Way.{gathered, besides, gather, pass, beside_there, beside_own, beside_none}
use Rattle.machine_conflicts.proofs.clash.blocking.Goals as goal
use Rattle.machine_conflicts.proofs.clash.blocking.Goals.{then-other-slot+then-blocks, else-other-slot, else-other-slot-via-then-other-slot+else-blocks, else-other-slot-via-else-other-slot}

pub loop-other-init : goal.loop-other-init
unfolding gathered
loop-other-init g c = (omega arith, λ p t. refl)

pub loop-other-preserved : goal.loop-other-preserved
loop-other-preserved g c =
    let a = c.args in
    let L = c.loop-other in (
      omega arith,
      λ p t. let b : ℕ → Bool = blocks a.state.now a.ahead p in
          elim c.if-other-slot.branch [
            | then-other-slot+then-blocks w ↦ w.mask-is
                ∙ gather (besides a.slot b) L.mask L.other (omega arith) (L.invariant.1 p t)
                (beside_there a.slot b L.other w.if-other-slot.true (sym (w.blocks-then-other-slot.ensures p t) ∙ w.if-blocks.true))
            | else-other-slot w ↦ w.mask-is
                ∙ pass (besides a.slot b) L.mask L.other (omega arith) (L.invariant.1 p t)
                (elim w.else-other-slot.branch [
                  | else-other-slot-via-then-other-slot+else-blocks v ↦ beside_none a.slot b L.other (sym (v.blocks-then-other-slot.ensures p t) ∙ v.if-blocks.false)
                  | else-other-slot-via-else-other-slot v ↦ beside_own a.slot b L.other v.if-other-slot.false
                ])
          ],
    )
