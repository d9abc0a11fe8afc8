-- A send, test by test, with names for what the code has read by then; and a send to an existing object.
use Rattle.std.specs.Prelude.{ℕ, ◌≤◌, ◌<◌, ◌≡◌, Bool, List, ltb}
use Rattle.std.proofs.Common.{arith, sym, subst, ◌∙◌}
use Rattle.std.proofs.Math.Path.{refl, ap, ap₂}
use Rattle.std.proofs.Math.Bool.{true, false, cond}
use Rattle.std.proofs.Math.Dec.{leb}
use borrow.Author.Tests.{leb-false, lt-leb, le-leb, lt-ltb, le-ltb}
use Rattle.layout.specs.Layout.{object_class_at}
use Rattle.model.specs.Machine.{object, class, domain, to}
use Rattle.catalog.specs.View.{object_word, class_count, object_count, member_count}
use Rattle.machine_words.specs.Request.{Wanted, lacking, wanted}
use Rattle.machine_words.specs.Calls.{Lent, After, tables_of, refused, granted, sent_to, sent_by}
use Rattle.machine_locks.specs.OneObject.{ObjectOf, ToObject}
use Rattle.machine_conflicts.specs.Clashing.{lacking_other}

-- ---- the tests

-- A send to a class's own objects or to its domain.
unfoldable pub class_sent : Lent → ℕ → ℕ → ℕ → ℕ → ℕ → After
unfolding sent_to
class_sent x s kind c k a = cond (ltb c (class_count (tables_of x.words))) (sent_to x s kind c c k a) (refused x 36)

-- 24 where there is no class c, 36 where it has no method at place k; else 0.
unfoldable pub method_refusal : List ℕ → ℕ → ℕ → ℕ
unfolding member_count
method_refusal tables c k = cond (leb (class_count tables) c) 24 (cond (leb (member_count tables c 1) k) 36 0)

module _ (tables : List ℕ) (c k n : ℕ) (e : n ≡ class_count tables) where
  pub no_class : n ≤ c → 24 ≡ method_refusal tables c k
  unfolding method_refusal
  no_class h = rw (← e, le-leb n c h)

  module _ (h : c < n) (m : ℕ) (q : m ≡ member_count tables c 1) where
    pub no_method : m ≤ k → 36 ≡ method_refusal tables c k
    unfolding method_refusal
    no_method l = rw (← e, lt-leb n c h, ← q, le-leb m k l)

    pub a_method : k < m → 0 ≡ method_refusal tables c k
    unfolding method_refusal
    a_method l = rw (← e, lt-leb n c h, ← q, lt-leb m k l)

pub refusal_lt : (tables : List ℕ) (c k n : ℕ) → n ≡ method_refusal tables c k → n < 64
unfolding method_refusal
refusal_lt tables c k n e = go (leb (class_count tables) c) (leb (member_count tables c 1) k) e
  where
    go : (a b : Bool) → n ≡ cond a 24 (cond b 36 0) → n < 64
    go true b f = omega arith
    go false true f = omega arith
    go false false f = omega arith

module _ (tables : List ℕ) (c k n : ℕ) (e : n ≡ method_refusal tables c k) (z : n ≡ 0) where
  passes : (leb (class_count tables) c ≡ false) × (leb (member_count tables c 1) k ≡ false)
  unfolding method_refusal
  passes = go (leb (class_count tables) c) refl (leb (member_count tables c 1) k) refl
    where
      go : (x : Bool) → leb (class_count tables) c ≡ x → (y : Bool) → leb (member_count tables c 1) k ≡ y → (x ≡ false) × (y ≡ false)
      go true p y q = absurd (omega (arith, e, ap {B = ℕ} (λ (x : Bool). cond x 24 (cond (leb (member_count tables c 1) k) 36 0)) p))
      go false p true q = absurd (omega (arith, e, ap₂ {C = ℕ} (λ (x y : Bool). cond x 24 (cond y 36 0)) p q))
      go false p false q = (refl, refl)

  pub few : k < 32
  unfolding member_count
  few = omega (arith, leb-false (member_count tables c 1) k passes.1)

module _ (x : Lent) (s k a : ℕ) where
  pub to_class : (c : ℕ) → class_sent x s 1 c k a ≡ sent_by x s (to (class c) k a)
  unfolding class_sent
  to_class c = refl

  pub to_domain : (c : ℕ) → class_sent x s 2 c k a ≡ sent_by x s (to (domain c) k a)
  unfolding class_sent
  to_domain c = refl

  module _ (n : ℕ) where
    pub class_none : (kind c : ℕ) → n ≡ class_count (tables_of x.words) → n ≤ c → refused x 36 ≡ class_sent x s kind c k a
    unfolding class_sent
    class_none kind c e h = rw (← e, le-ltb c n h)

    pub class_there : (kind c : ℕ) → n ≡ class_count (tables_of x.words) → c < n → sent_to x s kind c c k a ≡ class_sent x s kind c k a
    unfolding class_sent
    class_there kind c e h = rw (← e, lt-ltb c n h)

    pub object_none : (o : ℕ) → n ≡ object_count (tables_of x.words) → n ≤ o → refused x 36 ≡ sent_by x s (to (object o) k a)
    object_none o e h = rw (← e, le-ltb o n h)

    pub object_there : (o c : ℕ) → n ≡ object_count (tables_of x.words) → o < n → c ≡ object_word (tables_of x.words) o object_class_at
        → sent_to x s 0 o c k a ≡ sent_by x s (to (object o) k a)
    object_there o c e h q = rw (← e, lt-ltb o n h, q)

  -- The test of the method, then of the locks.
  module _ (kind o c n : ℕ) (e : n ≡ method_refusal (tables_of x.words) c k) where
    pub sent_refused : (n ≡ 0 → ⊥) → refused x n ≡ sent_to x s kind o c k a
    unfolding sent_to method_refusal
    sent_refused z = go (leb (class_count (tables_of x.words)) c) refl (leb (member_count (tables_of x.words) c 1) k) refl
      where
        go : (t : Bool) → leb (class_count (tables_of x.words)) c ≡ t → (y : Bool) → leb (member_count (tables_of x.words) c 1) k ≡ y → refused x n ≡ sent_to x s kind o c k a
        go true p y q = rw p (ap (refused x) (e ∙ rw p))
        go false p true q = rw (p, q) (ap (refused x) (e ∙ rw (p, q)))
        go false p false q = absurd (z (e ∙ rw (p, q)))

    module _ (z : n ≡ 0) (w : Wanted) (r : w ≡ wanted (tables_of x.words) kind o c k a) where
      past_method : (t : Bool) → lacking x.text (tables_of x.words) w ≡ t
          → cond t (refused x 24) (granted x s w) ≡ sent_to x s kind o c k a
      unfolding sent_to
      past_method t l =
          let p = passes (tables_of x.words) c k n e z in
          ap (λ (u : Bool). cond u (refused x 24) (granted x s w)) (sym l)
          ∙ ap (λ (q : Wanted). cond (lacking x.text (tables_of x.words) q) (refused x 24) (granted x s q)) r
          ∙ rw (p.0, p.1)

      pub sent_lacking : lacking x.text (tables_of x.words) w ≡ true → refused x 24 ≡ sent_to x s kind o c k a
      sent_lacking l = past_method true l

      pub sent_there : lacking x.text (tables_of x.words) w ≡ false → granted x s w ≡ sent_to x s kind o c k a
      sent_there l = past_method false l

-- ---- an existing object

pub to_object : (tables : List ℕ) (o c k a : ℕ) → ObjectOf tables o c → k < 32 → (w : Wanted) → w ≡ wanted tables 0 o c k a → ToObject tables w
to_object tables o c k a t h w e = subst (ToObject tables) (sym e) (record { kind_is = refl; object_is = t; few = h })

-- A send to an object is no send to a domain.
pub object_lacks : (text tables : List ℕ) (o c k a : ℕ) (w : Wanted) → w ≡ wanted tables 0 o c k a → lacking text tables w ≡ false
object_lacks text tables o c k a w e = sym (lacking_other text tables w (λ x. let z = ap (λ (q : Wanted). q.kind) e in omega arith))
