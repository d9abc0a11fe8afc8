-- `holds` meets its contract: what is held has one of the methods.
use Prim.Native.Nat.{ℕ}
use mathlib.Core.Path.{ap}
use mathlib.Core.Bool.{not}
use lib.Bits.{bit_and}
use lib.Dec.{eqb}
use Rattle.machine_conflicts.specs.Clashing.{holds_one}
use Rattle.machine_conflicts.proofs.clash.holds.Goals as goal

pub returns : goal.returns
unfolding holds_one
returns c = ap (λ (w : ℕ). not (eqb (bit_and w c.args.methods) 0)) c.held_at.ensures
