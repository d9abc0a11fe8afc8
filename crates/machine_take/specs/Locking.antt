-- The bits that a send sets in its row, and that they are the rules' locks.
use Rattle.std.specs.Prelude.{ℕ, ◌+◌, ◌^◌, ◌<◌, ◌≡◌, Bool, List, eqb, ltb}
use Rattle.std.proofs.Math.Path.{refl, ap}
use Rattle.std.proofs.Math.Bool.{true, false, cond}
use Rattle.std.proofs.Common.{arith, lt-ltb, eq-eqb}
use Rattle.std.proofs.Math.Pow.{pow_pos}
use Rattle.layout.specs.Layout.{object_locks_at, class_locks_at, whole_locks_at}
use Rattle.machine_words.specs.Row.{with_bits}
use Rattle.machine_words.specs.Request.{Wanted, place_in, concerns, with_lock, domain_lock, locked}
use Rattle.machine_conflicts.specs.Clashing.{domain_place, concerned}

-- The mask of the method at a place.
unfoldable pub place_bit : ℕ → ℕ
place_bit k = cond (ltb k 32) (2 ^ k) 0

-- The bit of a domain's lock on class d; 0 where the send does not lock it.
unfoldable pub domain_bit : List ℕ → List ℕ → Wanted → ℕ → ℕ
unfolding concerns place_in
domain_bit text tables q d = cond (concerns text tables q d) (2 ^ place_in text tables q d) 0

-- The row with the locks of a send to an object (kind 0) or to a class's own objects.
unfoldable pub locked_target : Wanted → List ℕ → List ℕ
unfolding place_bit
locked_target q row =
    let bits = place_bit q.place in
    cond (eqb q.kind 0) (with_bits (with_bits row (object_locks_at + q.number) bits) (class_locks_at + q.class) bits) (with_bits row (whole_locks_at + q.class) bits)

pub object_locked : (q : Wanted) (row : List ℕ) → q.kind ≡ 0
    → with_bits (with_bits row (object_locks_at + q.number) (place_bit q.place)) (class_locks_at + q.class) (place_bit q.place) ≡ locked_target q row
unfolding locked_target
object_locked q row h = rw (eq-eqb q.kind 0 h)

pub place_bit_law : (k : ℕ) → k < 32 → place_bit k ≡ 2 ^ k
unfolding place_bit
place_bit_law k h = rw (lt-ltb k 32 h)

module _ (text tables : List ℕ) (q : Wanted) (d : ℕ) where
  pub bit_of_place : place_bit (domain_place text tables q d) ≡ domain_bit text tables q d
  unfolding domain_place domain_bit place_bit
  bit_of_place = side (concerns text tables q d) refl
    where
      side : (t : Bool) → concerns text tables q d ≡ t → place_bit (cond t (place_in text tables q d) 32) ≡ cond t (2 ^ place_in text tables q d) 0
      side true t = place_bit_law (place_in text tables q d) (concerned text tables q d t)
      side false t = refl

  -- 01, locks of a domain: "(M, true) on each class in it, M being the method of that name in that class".
  module _ (row : List ℕ) (bits : ℕ) (e : bits ≡ domain_bit text tables q d) where
    pub domain_lock_law : (bits ≡ 0 → ⊥) → with_bits row (whole_locks_at + d) bits ≡ domain_lock text tables q row d
    unfolding domain_bit
    domain_lock_law some = side (concerns text tables q d) e
      where
        side : (t : Bool) → bits ≡ cond t (2 ^ place_in text tables q d) 0 → with_bits row (whole_locks_at + d) bits ≡ cond t (with_lock row (whole_locks_at + d) (place_in text tables q d)) row
        side true f = ap (with_bits row (whole_locks_at + d)) f
        side false f = absurd (some f)

    pub domain_free : bits ≡ 0 → row ≡ domain_lock text tables q row d
    unfolding domain_bit
    domain_free none = side (concerns text tables q d) e
      where
        side : (t : Bool) → bits ≡ cond t (2 ^ place_in text tables q d) 0 → row ≡ cond t (with_lock row (whole_locks_at + d) (place_in text tables q d)) row
        side true f = absurd (omega (arith, pow_pos (place_in text tables q d)))
        side false f = refl

module _ (text tables : List ℕ) (q : Wanted) (row : List ℕ) (h : q.place < 32) where
  pub locked_object : eqb q.kind 0 ≡ true → locked text tables q row ≡ locked_target q row
  unfolding locked locked_target
  locked_object e = rw (e, place_bit_law q.place h)

  pub locked_class : eqb q.kind 0 ≡ false → eqb q.kind 1 ≡ true → locked text tables q row ≡ locked_target q row
  unfolding locked locked_target
  locked_class e k = rw (e, k, place_bit_law q.place h)
