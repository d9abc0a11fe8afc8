-- Where the values of the objects' fields are stored: each (object, field) has a place of its own.
use Prim.Native.Nat.{ℕ, zero, suc, ◌+◌, ◌≤◌, ◌<◌}
use native.Mathlib.Omega.{arith}
use Rattle.std.proofs.Math.Decide.{dec_lt}
use Rattle.std.specs.Prelude.{◌≡◌, Bool, cond}
use Rattle.std.proofs.Math.Path.{refl, subst}
use Rattle.std.proofs.Common.{ap}
use Rattle.std.proofs.Math.Bool.{true, false}
use Rattle.std.proofs.Math.Option.{Option, none, some}
use Rattle.std.proofs.Math.Dec.{ltb}
use Rattle.model.specs.Word.{Name}
use Rattle.model.specs.Library.{class_at, member_place}
use Rattle.model.specs.Vector.{Program}
use Rattle.model.specs.Message.{class_of, size_of, base_of, place_of}
use Rattle.laws.specs.Lists.{ltb_true}

module _ (p : Program) where
  -- The place of a name in the field order of an object's class.
  abbrev pub field_place : ℕ → Name → ℕ
  field_place o f = member_place (class_at p.library (class_of p o)).fields f

  -- What holds of no place, and of the place of each field, holds of the place of a name.
  pub by_place : (P : Option ℕ → Type 0) (o : ℕ) (f : Name) → P none → (field_place o f < size_of p o → P (some (base_of p o + field_place o f)))
      → P (place_of p o f)
  unfolding place_of
  by_place P o f nowhere somewhere = go (ltb (field_place o f) (size_of p o)) refl
    where
      go : (b : Bool) → ltb (field_place o f) (size_of p o) ≡ b → P (cond b (some (base_of p o + field_place o f)) none)
      go true e = somewhere (ltb_true (field_place o f) (size_of p o) e)
      go false e = nowhere

  -- An object's values end before those of a later one begin.
  base_apart : (o q : ℕ) → o < q → base_of p o + size_of p o ≤ base_of p q
  unfolding base_of
  base_apart o zero h = absurd (omega arith)
  base_apart o (suc q) h = go (base_apart o q) (dec_lt o q)
    where
      go : (o < q → base_of p o + size_of p o ≤ base_of p q) → Dec (o < q) → base_of p o + size_of p o ≤ base_of p q + size_of p q
      go ih (yes w) = let a = ih w in omega arith
      go ih (no w) = let e : o ≡ q = omega arith in subst (λ x. base_of p o + size_of p o ≤ base_of p x + size_of p x) e (omega arith)

  -- Places are one-to-one.
  pub one_object : (o q j k : ℕ) → j < size_of p o → k < size_of p q → base_of p o + j ≡ base_of p q + k → o ≡ q
  one_object o q j k hj hk e = go (dec_lt o q) (dec_lt q o)
    where
      go : Dec (o < q) → Dec (q < o) → o ≡ q
      go (yes w) d = absurd (let a = base_apart o q w in omega arith)
      go (no w) (yes v) = absurd (let a = base_apart q o v in omega arith)
      go (no w) (no v) = omega arith

  pub one_field : (o q j k : ℕ) → o ≡ q → base_of p o + j ≡ base_of p q + k → j ≡ k
  one_field o q j k e h = let b = ap (base_of p) e in omega arith
