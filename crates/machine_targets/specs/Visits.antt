-- The objects that a message visits, as a loop over their numbers finds them, and the tests of a target.
use Rattle.std.specs.Prelude.{ℕ, zero, suc, ◌+◌, ◌-◌, ◌≤◌, ◌<◌, ◌≡◌, refl, Bool, true, false, cond, ◌&&◌, List, eqb, leb, ltb}
use Rattle.std.proofs.Common.{sym, ◌∙◌}
use Rattle.std.proofs.Math.Numerals.{add-one}
use native.Mathlib.Omega.{arith}
use borrow.Author.Tests.{eqb-true, eqb-false, eq-eqb, ne_eqb, le-leb, lt-leb}
use Rattle.layout.specs.Layout.{domain_at, object_class_at}
use Rattle.catalog.specs.View.{class_word, object_word, class_count, object_count}
use Rattle.laws.specs.Bits.{bit}
use Rattle.machine_words.specs.Turn.{target_there, in_target, first_from}

-- The loop at number i of n: at one that is visited, at one that is not, at the end.
module _ (p : ℕ → Bool) (n i : ℕ) where
  one_less : i < n → n - i ≡ suc (n - (i + 1))
  one_less h = omega arith

  pub first_here : i < n → p i ≡ true → first_from p i (n - i) ≡ i
  unfolding first_from
  first_here h e = rw (one_less h, e)

  pub first_more : i < n → p i ≡ false → first_from p i (n - i) ≡ first_from p (i + 1) (n - (i + 1))
  unfolding first_from
  first_more h e = rw (one_less h, e, add-one i)

  pub first_end : n ≤ i → first_from p i (n - i) ≡ i
  unfolding first_from
  first_end h = let z : n - i ≡ 0 = omega arith in rw z

-- The search for one number among the k from i on.
pub one_there : (m k i : ℕ) → i ≤ m → m < i + k → m ≡ first_from (λ o. eqb o m) i k
unfolding first_from
one_there m zero i g h = absurd (omega arith)
one_there m (suc k) i g h = go (eqb i m) refl (λ l. one_there m k (suc i) l (omega arith))
  where
    go : (b : Bool) → eqb i m ≡ b → (suc i ≤ m → m ≡ first_from (λ o. eqb o m) (suc i) k) → m ≡ cond b i (first_from (λ o. eqb o m) (suc i) k)
    go true e later = sym (eqb-true i m e)
    go false e later = let n = eqb-false i m e in later (omega arith)

pub one_none : (m k i : ℕ) → (i ≤ m → m < i + k → ⊥) → first_from (λ o. eqb o m) i k ≡ i + k
unfolding first_from
one_none m zero i out = omega arith
one_none m (suc k) i out =
    let e : eqb i m ≡ false = ne_eqb i m (λ q. out (omega arith) (omega arith)) in
    let s : suc i + k ≡ i + suc k = omega arith in
    rw e (one_none m k (suc i) (λ g h. out (omega arith) (omega arith)) ∙ s)

-- ---- targets

-- The target of kind k and number m exists.
module _ (tables : List ℕ) (k m : ℕ) where
  pub there_object : k ≡ 0 → (n : ℕ) → n ≡ object_count tables → ltb m n ≡ target_there tables k m
  unfolding target_there
  there_object h n e = rw (eq-eqb k 0 h, e)

  pub there_class : (k ≡ 0 → ⊥) → (n : ℕ) → n ≡ class_count tables → (leb k 2 && ltb m n) ≡ target_there tables k m
  unfolding target_there
  there_class h n e = rw (ne_eqb k 0 h, e)

-- Object o is in the target of kind k and number m.
module _ (tables : List ℕ) (k m o : ℕ) where
  pub target_object : k ≡ 0 → eqb o m ≡ in_target tables k m o
  unfolding in_target
  target_object h = rw (eq-eqb k 0 h)

  -- It is of class c; there are n classes.
  module _ (h : k ≡ 0 → ⊥) (c n : ℕ) (e : c ≡ object_word tables o object_class_at) (q : n ≡ class_count tables) where
    pub target_lost : n ≤ c → true ≡ in_target tables k m o
    unfolding in_target
    target_lost l = rw (ne_eqb k 0 h, ← e, ← q, le-leb n c l)

    pub target_class : c < n → k ≡ 1 → eqb c m ≡ in_target tables k m o
    unfolding in_target
    target_class l g = rw (ne_eqb k 0 h, ← e, ← q, lt-leb n c l, eq-eqb k 1 g)

    pub target_domain : c < n → (k ≡ 1 → ⊥) → (mask : ℕ) → mask ≡ class_word tables m domain_at → bit mask c ≡ in_target tables k m o
    unfolding in_target
    target_domain l g mask x = rw (ne_eqb k 0 h, ← e, ← q, lt-leb n c l, ne_eqb k 1 g, x)
