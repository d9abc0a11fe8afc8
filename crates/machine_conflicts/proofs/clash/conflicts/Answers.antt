-- `conflicts` meets its contract: what the commuting mask does not have.
use Prim.Native.Nat.{ℕ, ◌-◌}
use mathlib.Core.Path.{ap}
use Rattle.catalog.specs.View.{class_word}
use Rattle.machine_conflicts.specs.Clashing.{conflicts_of}
use Rattle.machine_conflicts.proofs.clash.conflicts.Goals as goal

pub returns : goal.returns
unfolding conflicts_of class_word
returns c = ap (λ (w : ℕ). 4294967295 - w) c.commuting_mask.ensures
