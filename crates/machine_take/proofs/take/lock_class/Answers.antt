-- `lock_class` meets its contract: the mask of the method's place, where the send locks the class, is added to the lent part.
use native.Mathlib.Omega.{arith}
use borrow.Author.Rules.{rules}
use mathlib.Core.Path.{refl, sym, ap, ◌∙◌}
use Rattle.std.proofs.Math.Pow.{pow_pos}
use Rattle.machine_take.specs.Locking.{place_bit, place_bit_law, bit_of_place}
use Rattle.machine_take.specs.Taken.{lock_one, lock_free}
use Rattle.machine_take.proofs.take.lock_class.Goals as goal

pub returns-in-Some : goal.returns-in-Some
returns-in-Some c =
    let placed = rw c.tables_of.ensures at c.in-Some.ensures in
    lock_one _ _ _ _ c.requires _ _ _ (c.place_bit-bits.ensures ∙ ap place_bit placed.0 ∙ bit_of_place _ _ _ _)
    (λ z. omega (arith, z, c.place_bit-bits.ensures, place_bit_law _ placed.1, pow_pos c.in-Some.place)) c.add_lock.new.row (search rules) c.add_lock.ensures

pub returns-in_default : goal.returns-in_default
unfolding place_bit
returns-in_default c =
    lock_free _ _ _ _ c.requires _ _ 0 (ap place_bit (sym (rw c.tables_of.ensures at c.in_default.ensures)) ∙ bit_of_place _ _ _ _) refl
