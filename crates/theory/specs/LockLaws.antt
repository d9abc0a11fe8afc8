-- Messages whose locks do not clash are free of each other: for each object that both visit, their methods commute in its class. And
-- the laws of clashing and holding: it is symmetric, by parts, and locks that are held clash with what those held clash with.
use Rattle.std.specs.Prelude.{ℕ, zero, suc, ◌<◌, ◌≡◌, Bool, ◌&&◌, ◌||◌, length, get_or}
use Rattle.std.proofs.Math.Path.{refl, ap, subst}
use Rattle.std.proofs.Common.{sym, ◌∙◌, ⊎_elim, true≢false}
use Rattle.std.proofs.Math.Bool.{true, false, not}
use mathlib.Core.List.Memᴰ
use mathlib.Core.List.{List, [], ◌∷◌, ◌++◌, Memᴰ}
use Rattle.std.proofs.Math.Dec.{eqb}
use Rattle.model.specs.Base.{any, same, upto}
use Rattle.model.specs.Word.{Name}
use Rattle.model.specs.Mode.{Null, clash}
use Rattle.model.specs.Vector.{Program, Vector, commute, vector_of, commute_in}
use Rattle.model.specs.Message.{Target, object, class, domain, Message, class_of, in_domain, in_target, visited, size_of}
use Rattle.model.specs.Lock.{Lock, on_object, on_class, domain_of, locks_for, lock_clash, locks_clash, same_flag, same_lock, locks_held}
use Rattle.laws.specs.Lists.{eqb_true, eqb_same, both_left, both_right, neither_left, neither_right, fail_together, same_sound, any_member, every_member, any_none, none_any, in_keep, keep_in, in_upto, map_in}
use Rattle.laws.specs.Modes.{null_apart, apart_null, clash_sym}
use Rattle.laws.specs.Lookup.{class_with_field}
use Rattle.theory.specs.Footprint.{Visits, Free}

-- Vectors that commute clash at no field.
pub commute_apart : (vs ws : Vector) → commute vs ws ≡ true → (k : ℕ) → clash (get_or vs k Null) (get_or ws k Null) ≡ false
unfolding commute
commute_apart [] ws e k = null_apart (get_or ws k Null)
commute_apart (v ∷ vs) [] e k = apart_null (get_or (v ∷ vs) k Null)
commute_apart (v ∷ vs) (w ∷ ws) e zero = unless (clash v w) (both_left (not (clash v w)) (commute vs ws) e)
  where
    unless : (b : Bool) → not b ≡ true → b ≡ false
    unless true q = sym q
    unless false q = refl
commute_apart (v ∷ vs) (w ∷ ws) e (suc k) = commute_apart vs ws (both_right (not (clash v w)) (commute vs ws) e) k

-- Commuting is symmetric.
commute_sym : (vs ws : Vector) → commute vs ws ≡ commute ws vs
unfolding commute
commute_sym [] [] = refl
commute_sym [] (w ∷ ws) = refl
commute_sym (v ∷ vs) [] = refl
commute_sym (v ∷ vs) (w ∷ ws) = λ i. not (clash_sym v w i) && commute_sym vs ws i

-- The test of locks means that they are equal.
same_flag_law : (w v : Bool) → same_flag w v ≡ true → w ≡ v
same_flag_law true v e = sym e
same_flag_law false true e = e
same_flag_law false false e = refl

pub same_lock_law : (a b : Lock) → same_lock a b ≡ true → a ≡ b
same_lock_law (on_object o m) (on_object q n) e =
    λ i. on_object (eqb_true o q (both_left (eqb o q) (same m n) e) i) (same_sound m n (both_right (eqb o q) (same m n) e) i)
same_lock_law (on_object o m) (on_class d n v) e = absurd (true≢false (sym e))
same_lock_law (on_class c m w) (on_object q n) e = absurd (true≢false (sym e))
same_lock_law (on_class c m w) (on_class d n v) e =
    let h = both_left (eqb c d && same_flag w v) (same m n) e in
    λ i.
    on_class (eqb_true c d (both_left (eqb c d) (same_flag w v) h) i) (same_sound m n (both_right (eqb c d && same_flag w v) (same m n) e) i)
    (same_flag_law w v (both_right (eqb c d) (same_flag w v) h) i)

-- A conjunction whose first part holds fails by its second.
commutes : (a b : Bool) → a ≡ true → a && not b ≡ false → b ≡ true
commutes a true e q = refl
commutes a false e q = absurd (true≢false (sym (rw e refl) ∙ q))

module _ (p : Program) where
  -- The locks cover a method on an object: by a lock on the object, or by one on its whole class.
  pub data Cover (ks : List Lock) (o : ℕ) (m : Name) : Type 0 where
    one : Memᴰ (on_object o m) ks → Memᴰ (on_class (class_of p o) m false) ks → Cover ks o m
    whole : Memᴰ (on_class (class_of p o) m true) ks → Cover ks o m

  -- A visited object is in the target.
  in_target_law : (t : Target) (o : ℕ) → Memᴰ o (visited p t) → in_target p t o ≡ true
  unfolding visited
  in_target_law t o v = (in_keep (in_target p t) (upto (λ q. q) (length p.library.objects)) v).1

  -- A message's locks cover its method on each object, with a field, that it visits.
  pub cover : (t : Target) (m : Name) (o k : ℕ) → Memᴰ o (visited p t) → k < size_of p o → Cover (locks_for p t m) o m
  unfolding domain_of
  cover (object n) m o k v h =
      let e = eqb_true o n (in_target_law (object n) o v) in
      one (Memᴰ.head (ap {B = Lock} (λ x. on_object x m) e))
      (Memᴰ.tail (Memᴰ.head (ap {B = Lock} (λ x. on_class (class_of p x) m false) e)))
  cover (class c) m o k v h = whole (Memᴰ.head (ap {B = Lock} (λ x. on_class x m true) (eqb_true (class_of p o) c (in_target_law (class c) o v))))
  cover (domain c) m o k v h =
      whole (map_in (λ d. on_class d m true) (keep_in (in_domain p c) (upto (λ d. d) (length p.library.classes))
      (in_upto (λ d. d) (length p.library.classes) (class_of p o) (class_with_field p.library (class_of p o) k h)) (in_target_law (domain c) o v)))

  class_meet : (c : ℕ) (m n : Name) (w v : Bool) → w || v ≡ true → lock_clash p (on_class c m w) (on_class c n v) ≡ false → commute_in p c m n ≡ true
  class_meet c m n w v e q = commutes (eqb c c && (w || v)) (commute_in p c m n) (rw (eqb_same c) e) q

  -- Covers of one object that do not clash are of methods that commute in its class.
  pub meet : (ks hs : List Lock) (o : ℕ) (m n : Name) → Cover ks o m → Cover hs o n
      → ((a b : Lock) → Memᴰ a ks → Memᴰ b hs → lock_clash p a b ≡ false) → commute_in p (class_of p o) m n ≡ true
  meet ks hs o m n (one x y) (one z w) apart = commutes (eqb o o) (commute_in p (class_of p o) m n) (eqb_same o) (apart _ _ x z)
  meet ks hs o m n (one x y) (whole z) apart = class_meet (class_of p o) m n false true refl (apart _ _ y z)
  meet ks hs o m n (whole x) (one z w) apart = class_meet (class_of p o) m n true false refl (apart _ _ x w)
  meet ks hs o m n (whole x) (whole z) apart = class_meet (class_of p o) m n true true refl (apart _ _ x z)

  -- If two lists of locks do not clash, no two of their locks do.
  apart_all : (ks hs : List Lock) → locks_clash p ks hs ≡ false → (a b : Lock) → Memᴰ a ks → Memᴰ b hs → lock_clash p a b ≡ false
  unfolding locks_clash
  apart_all ks hs e a b x y = any_none (lock_clash p a) y (any_none (λ k. any (lock_clash p k) hs) x e)

  all_apart : (ks hs : List Lock) → ((a b : Lock) → Memᴰ a ks → Memᴰ b hs → lock_clash p a b ≡ false) → locks_clash p ks hs ≡ false
  unfolding locks_clash
  all_apart ks hs f = none_any (λ k. any (lock_clash p k) hs) ks (λ a x. none_any (lock_clash p a) hs (λ b y. f a b x y))

  -- The locks of a message.
  abbrev pub locks_of : Message → List Lock
  locks_of m = locks_for p m.target m.method

  -- Messages whose locks do not clash have methods that commute in the class of each object that both visit.
  apart_commute : (m n : Message) (o k : ℕ) → Visits p m o → Visits p n o → k < size_of p o
      → ((a b : Lock) → Memᴰ a (locks_of m) → Memᴰ b (locks_of n) → lock_clash p a b ≡ false)
      → commute_in p (class_of p o) m.method n.method ≡ true
  apart_commute m n o k v w h f =
      meet (locks_of m) (locks_of n) o m.method n.method (cover m.target m.method o k v h) (cover n.target n.method o k w h) f

  -- Messages whose locks do not clash are free of each other.
  pub meets_free : (m n : Message) → locks_clash p (locks_of m) (locks_of n) ≡ false → Free p m n
  unfolding commute_in
  meets_free m n e =
      record {
        apart = λ o k v w h.
            commute_apart (vector_of p (class_of p o) m.method) (vector_of p (class_of p o) n.method)
            (apart_commute m n o k v w h (apart_all (locks_of m) (locks_of n) e)) k;
      }

  -- ---- the laws of clashing

  -- It is symmetric.
  object_sym : (o q : ℕ) (m n : Name) → eqb o q && not (commute_in p (class_of p o) m n) ≡ false → eqb q o && not (commute_in p (class_of p q) n m) ≡ false
  unfolding commute_in
  object_sym o q m n e = go (eqb q o) refl
    where
      go : (b : Bool) → eqb q o ≡ b → b && not (commute_in p (class_of p q) n m) ≡ false
      go false h = refl
      go true h =
          let same : q ≡ o = eqb_true q o h in
          ap not (ap (λ (x : ℕ). commute_in p (class_of p x) n m) same ∙ commute_sym (vector_of p (class_of p o) n) (vector_of p (class_of p o) m)
          ∙ commutes (eqb o q) (commute_in p (class_of p o) m n) (ap (eqb o) same ∙ eqb_same o) e)

  lock_sym : (a b : Lock) → lock_clash p a b ≡ false → lock_clash p b a ≡ false
  unfolding commute_in
  lock_sym (on_object o m) (on_object q n) e = object_sym o q m n e
  lock_sym (on_object o m) (on_class d n v) e = refl
  lock_sym (on_class c m w) (on_object q n) e = refl
  lock_sym (on_class c m w) (on_class d n v) e = go (eqb d c && (v || w)) refl
    where
      swap : (a b : Bool) → a || b ≡ true → b || a ≡ true
      swap true true h = refl
      swap true false h = refl
      swap false true h = refl
      swap false false h = h

      go : (b : Bool) → eqb d c && (v || w) ≡ b → b && not (commute_in p d n m) ≡ false
      go false h = refl
      go true h =
          let same : d ≡ c = eqb_true d c (both_left (eqb d c) (v || w) h) in
          ap not (ap (λ (x : ℕ). commute_in p x n m) same ∙ commute_sym (vector_of p c n) (vector_of p c m)
          ∙ commutes (eqb c d && (w || v)) (commute_in p c m n) (rw (same, eqb_same c) (swap v w (both_right (eqb d c) (v || w) h))) e)

  pub locks_sym : (ks hs : List Lock) → locks_clash p ks hs ≡ locks_clash p hs ks
  locks_sym ks hs = fail_together (locks_clash p ks hs) (locks_clash p hs ks) (one_way ks hs) (one_way hs ks)
    where
      one_way : (ks hs : List Lock) → locks_clash p ks hs ≡ false → locks_clash p hs ks ≡ false
      one_way ks hs e = all_apart hs ks (λ a b x y. lock_sym b a (apart_all ks hs e b a y x))

  -- Nothing clashes with no locks; with two lists of locks clashes what clashes with one of them.
  pub clash_none : (ks : List Lock) → locks_clash p ks [] ≡ false
  clash_none ks = all_apart ks [] (λ a b x y. absurd (Memᴰ.not-nil y))

  pub clash_append : (ks ns hs : List Lock) → locks_clash p ks (ns ++ hs) ≡ (locks_clash p ks ns || locks_clash p ks hs)
  clash_append ks ns hs = fail_together (locks_clash p ks (ns ++ hs)) (locks_clash p ks ns || locks_clash p ks hs)
      (λ e.
      let f = apart_all ks (ns ++ hs) e in
      let l : locks_clash p ks ns ≡ false = all_apart ks ns (λ a b x y. f a b x (Memᴰ.append_left hs y)) in
      let r : locks_clash p ks hs ≡ false = all_apart ks hs (λ a b x y. f a b x (Memᴰ.append_right ns y)) in
      ap (λ (z : Bool). z || locks_clash p ks hs) l ∙ r)
      (λ e.
      let l = apart_all ks ns (neither_left (locks_clash p ks ns) (locks_clash p ks hs) e) in
      let r = apart_all ks hs (neither_right (locks_clash p ks ns) (locks_clash p ks hs) e) in
      all_apart ks (ns ++ hs) (λ a b x y. ⊎_elim (λ k. l a b x k) (λ k. r a b x k) (Memᴰ.append_cases ns y)))

  -- Locks that are all held clash with nothing that those held do not clash with.
  pub held_meets : (ks ns hs : List Lock) → locks_held ks hs ≡ true → locks_clash p ns hs ≡ false → locks_clash p ns ks ≡ false
  unfolding locks_held
  held_meets ks ns hs h e = all_apart ns ks (λ a b x y.
      let (k, i, q) = any_member (same_lock b) hs (every_member (λ k. any (same_lock k) hs) y h) in
      subst (λ (z : Lock). lock_clash p a z ≡ false) (sym (same_lock_law b k q)) (apart_all ns hs e a k x i))
