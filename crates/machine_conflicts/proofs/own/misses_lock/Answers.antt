-- `misses_lock` meets its contract: the class's bit, where the send locks the class.
use mathlib.Core.Path.{sym, ap, ◌∙◌}
use native.Mathlib.Omega.{arith}
use Prim.Native.Nat.{ℕ}
use Rattle.laws.specs.Bits.{bit}
use Rattle.machine_conflicts.specs.Own.{not_locked, is_locked}
use Rattle.machine_conflicts.proofs.own.misses_lock.Goals as goal

pub returns-in-None : goal.returns-in-None
returns-in-None c = not_locked _ _ _ _ _ 32 (sym c.in-None.ensures) (omega arith)

pub returns-in-Some : goal.returns-in-Some
returns-in-Some c =
    is_locked _ _ _ _ _ _ c.in-Some.ensures.0 c.in-Some.ensures.1 _ (c.has_bit.ensures ∙ ap (λ (w : ℕ). bit w c.in-Some.place) c.get-held.ensures)
