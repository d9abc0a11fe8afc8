-- The locks of a send that its slot holds already, as the code tests them.
use Rattle.std.specs.Prelude.{ℕ, ◌+◌, ◌≤◌, ◌<◌, ◌≡◌, Bool, true, false, List, get_or}
use Rattle.std.proofs.Common.{arith, ap}
use Rattle.std.proofs.Math.Bool.{not}
use borrow.Author.Tests.{eq-eqb, ne_eqb}
use Rattle.layout.specs.Layout.{object_locks_at, class_locks_at, whole_locks_at}
use Rattle.model.specs.Base.{any, upto}
use Rattle.catalog.specs.View.{class_count}
use Rattle.laws.specs.Bits.{bit}
use Rattle.machine_words.specs.Request.{Wanted, misses, owns_locks}
use Rattle.machine_conflicts.specs.Clashing.{domain_place, place_locks, place_passes}

module _ (text tables : List ℕ) (q : Wanted) (row : List ℕ) where
  -- Whether a lock of a send to a domain is missing.
  unfoldable pub misses_one : Bool
  unfolding misses any upto
  misses_one = any (misses text tables q row) (upto (λ d. d) (class_count tables))

  -- By the method's place k in class d, which is 32 where the send does not lock the class.
  module _ (d k : ℕ) (e : k ≡ domain_place text tables q d) where
    pub not_locked : 32 ≤ k → false ≡ misses text tables q row d
    unfolding misses
    not_locked h = rw (place_passes text tables q d k e h)

    pub is_locked : k < 32 → (b : Bool) → b ≡ bit (get_or row (whole_locks_at + d) 0) k → not b ≡ misses text tables q row d
    unfolding misses
    is_locked h b i = let p = place_locks text tables q d k e h in rw (p.0, i) (ap (λ (n : ℕ). not (bit (get_or row (whole_locks_at + d) 0) n)) p.1)

  -- By the target's kind.
  pub owns_domain : 2 ≤ q.kind → not misses_one ≡ owns_locks text tables q row
  unfolding owns_locks misses_one
  owns_domain h = rw (ne_eqb q.kind 0 (λ e. omega arith), ne_eqb q.kind 1 (λ e. omega arith))

  pub owns_class : q.kind ≡ 1 → bit (get_or row (whole_locks_at + q.class) 0) q.place ≡ owns_locks text tables q row
  unfolding owns_locks
  owns_class h = rw (eq-eqb q.kind 1 h, ne_eqb q.kind 0 (λ e. omega arith))

  module _ (h : q.kind ≡ 0) (b : Bool) (e : b ≡ bit (get_or row (object_locks_at + q.number) 0) q.place) where
    pub owns_not : b ≡ false → false ≡ owns_locks text tables q row
    unfolding owns_locks
    owns_not z = rw (eq-eqb q.kind 0 h, ← e, z)

    pub owns_object : b ≡ true → bit (get_or row (class_locks_at + q.class) 0) q.place ≡ owns_locks text tables q row
    unfolding owns_locks
    owns_object z = rw (eq-eqb q.kind 0 h, ← e, z)
