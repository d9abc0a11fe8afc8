-- The lower of two faults, 0 being none, and the faults of a statement's words: 14 before 16.
use Rattle.std.specs.Prelude.{ℕ, zero, suc, min, ◌≡◌, refl, Bool, true, false, cond, ◌||◌, eqb}
use Rattle.std.proofs.Common.{arith}

abbrev pub lower : ℕ → ℕ → ℕ
lower zero b = b
lower (suc a) zero = suc a
lower (suc a) (suc b) = suc (min a b)

pub lower_assoc : (a b c : ℕ) → lower (lower a b) c ≡ lower a (lower b c)
lower_assoc zero b c = refl
lower_assoc (suc a) zero c = refl
lower_assoc (suc a) (suc b) zero = refl
lower_assoc (suc a) (suc b) (suc c) = omega arith

pub lower_zero : (a : ℕ) → lower a 0 ≡ a
lower_zero zero = refl
lower_zero (suc a) = refl

-- 14 where the first test holds, 16 where only the second does.
abbrev pub lowest : Bool → Bool → ℕ
lowest a b = cond a 14 (cond b 16 0)

pub lowest_both : (a b c d : Bool) → lower (lowest a b) (lowest c d) ≡ lowest (a || c) (b || d)
lowest_both true b true d = refl
lowest_both true b false true = refl
lowest_both true b false false = refl
lowest_both false true true d = refl
lowest_both false true false true = refl
lowest_both false true false false = refl
lowest_both false false c d = refl

-- 17 is tested where neither holds.
pub lowest_then : (a b : Bool) (c : ℕ) → cond a 14 (cond b 16 c) ≡ cond (eqb (lowest a b) 0) c (lowest a b)
lowest_then true b c = refl
lowest_then false true c = refl
lowest_then false false c = refl
