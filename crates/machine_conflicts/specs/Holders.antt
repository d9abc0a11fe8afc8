-- The slots in a send's way, as the code finds them: those that are open and hold a conflict; and a send to an object that starts
-- at once, since no slot holds one.
use Prim.Native.Nat.{ℕ, zero, suc, ◌+◌, ◌-◌, ◌*◌, ◌^◌, ◌≤◌, ◌<◌}
use native.Mathlib.Omega.{arith}
use Rattle.std.proofs.Common.{add-one, ap₂, subst, ◌∙◌, true≢false}
use Rattle.std.specs.Prelude.{◌≡◌, Bool, not, cond, ◌&&◌, ◌||◌, get_or}
use Rattle.std.proofs.Math.Path.{refl, sym, ap, fun_ext}
use Rattle.std.proofs.Math.Bool.{true, false}
use mathlib.Core.List.{List}
use Rattle.std.specs.Int.Bits.{bit_and, bit_or}
use Rattle.std.proofs.Math.Dec.{eqb}
use borrow.Author.Tests.{eqb-true, eq-eqb, ne_eqb, eqb-false}
use Rattle.layout.specs.Layout.{object_locks_at, class_locks_at, line_at}
use Rattle.model.specs.Base.{digit, any}
use Rattle.laws.specs.Lists.{both_left, both_right}
use Rattle.catalog.specs.Bodies.{named_at}
use Rattle.machine_words.specs.Request.{Wanted, meets, row_meets}
use Rattle.machine_words.specs.Line.{tables_of, row_of, waiting_in, phase_of, count_in, waits_ahead, holder_at, waiter_at, blocks, in_the_way}
use Rattle.machine_words.specs.Meeting.{meets_or}
use Rattle.machine_conflicts.specs.Clashing.{held_at, holds_one, conflicts_of, domain_clashes, meets_object, meets_class, meets_domain}
use Rattle.machine_conflicts.specs.Way.{gathered, besides}

-- ---- the slots in the way

-- Another slot than the sender's.
module _ (text ws : List ℕ) (n s : ℕ) (q : Wanted) (t : ℕ) where
  pub own_slot : t ≡ s → false ≡ in_the_way text ws n s q t
  unfolding in_the_way
  own_slot e = rw (eq-eqb t s e)

  pub other_slot : (t ≡ s → ⊥) → blocks ws n (row_meets text (tables_of ws) q) t ≡ in_the_way text ws n s q t
  unfolding in_the_way
  other_slot e = rw (ne_eqb t s e)

-- By the test of a row, the slot's phase being f.
module _ (ws : List ℕ) (test : List ℕ → Bool) (t : ℕ) where
  module _ (f : ℕ) (p : f ≡ phase_of (row_of ws t)) where
    pub closed_holds : f ≡ 0 → false ≡ holder_at ws test t
    unfolding holder_at
    closed_holds z = rw (← p, eq-eqb f 0 z)

    pub open_holds : (f ≡ 0 → ⊥) → test (row_of ws t) ≡ holder_at ws test t
    unfolding holder_at
    open_holds z = rw (← p, ne_eqb f 0 z)

  module _ (n : ℕ) (b : Bool) (p : b ≡ waits_ahead ws n t) where
    pub behind_waits : b ≡ false → false ≡ waiter_at ws n test t
    unfolding waiter_at
    behind_waits z = rw (← p, z)

    pub ahead_waits : b ≡ true → test (waiting_in (row_of ws t)) ≡ waiter_at ws n test t
    unfolding waiter_at
    ahead_waits z = rw (← p, z)

  -- A holder is in the way, whether it waits or not.
  pub holder_blocks : (n : ℕ) (b : Bool) → b ≡ holder_at ws test t → b ≡ true → true ≡ blocks ws n test t
  holder_blocks n b e z = rw (← e, z)

  pub else_blocks : (n : ℕ) (b : Bool) → b ≡ holder_at ws test t → b ≡ false → waiter_at ws n test t ≡ blocks ws n test t
  else_blocks n b e z = rw (← e, z)

-- The test of one word: whether a row holds one of the methods there, or on class d with its objects.
abbrev pub lock_test : ℕ → ℕ → ℕ → List ℕ → Bool
lock_test word d methods row = holds_one row word d methods

-- What the first n slots hold there together.
unfoldable pub held_upto : List ℕ → ℕ → ℕ → ℕ → ℕ
unfolding row_of
held_upto ws word d zero = 0
held_upto ws word d (suc n) = bit_or (held_upto ws word d n) (held_at (row_of ws n) word d)

pub held_more : (ws : List ℕ) (word d n held one : ℕ) → held ≡ held_upto ws word d n → one ≡ held_at (row_of ws n) word d → bit_or held one ≡ held_upto ws word d (n + 1)
unfolding held_upto
held_more ws word d n held one e q = rw (add-one n) (ap₂ bit_or e q)

conflicts_lt : (tables : List ℕ) (c k : ℕ) → conflicts_of tables c k < 4294967296
unfolding conflicts_of
conflicts_lt tables c k = omega arith

-- Where they hold none of the methods, no slot holds one.
module _ (ws : List ℕ) (word d methods : ℕ) (few : methods < 4294967296) where
  has_one : (a b : ℕ) → bit_and (bit_or a b) methods ≡ 0 → (bit_and a methods ≡ 0) × (bit_and b methods ≡ 0)
  unfolding meets
  has_one a b e = (none_left (eqb (bit_and a methods) 0) refl, none_right (eqb (bit_and a methods) 0) (eqb (bit_and b methods) 0) refl refl)
    where
      same : 4294967295 - (4294967295 - methods) ≡ methods
      same = omega arith

      either : (not (eqb (bit_and a methods) 0) || not (eqb (bit_and b methods) 0)) ≡ false
      either =
          sym (subst (λ (m : ℕ). not (eqb (bit_and (bit_or a b) m) 0) ≡ (not (eqb (bit_and a m) 0) || not (eqb (bit_and b m) 0))) same
          (meets_or a b (4294967295 - methods) (omega arith)))
          ∙ ap (λ (x : ℕ). not (eqb x 0)) e

      none_left : (x : Bool) → eqb (bit_and a methods) 0 ≡ x → bit_and a methods ≡ 0
      none_left true p = eqb-true (bit_and a methods) 0 p
      none_left false p = absurd (true≢false (sym (ap (λ (x : Bool). not x || not (eqb (bit_and b methods) 0)) p) ∙ either))

      none_right : (x y : Bool) → eqb (bit_and a methods) 0 ≡ x → eqb (bit_and b methods) 0 ≡ y → bit_and b methods ≡ 0
      none_right x true p q = eqb-true (bit_and b methods) 0 q
      none_right true false p q = absurd (true≢false (sym (ap₂ (λ (x y : Bool). not x || not y) p q) ∙ either))
      none_right false false p q = absurd (true≢false (sym (ap₂ (λ (x y : Bool). not x || not y) p q) ∙ either))

  pub none_holds : (s n : ℕ) → bit_and (held_upto ws word d n) methods ≡ 0 → gathered (besides s (blocks ws 0 (lock_test word d methods))) n ≡ 0
  unfolding gathered holder_at waiter_at held_upto holds_one any
  none_holds s zero e = refl
  none_holds s (suc n) e =
      let both = has_one (held_upto ws word d n) (held_at (row_of ws n) word d) e in
      rw (none_holds s n both.0, eq-eqb (bit_and (held_at (row_of ws n) word d) methods) 0 both.1) (go (eqb n s) (eqb (phase_of (row_of ws n)) 0))
    where
      go : (x y : Bool) → 0 + digit (not x && (not y && false || false)) * 2 ^ n ≡ 0
      go true y = omega arith
      go false true = omega arith
      go false false = omega arith

-- The word of a row with the locks on a send's object, or on its class without its objects.
unfoldable pub target_word : Wanted → ℕ
target_word q = cond (eqb q.kind 0) (object_locks_at + q.number) (class_locks_at + q.class)

pub word_of_object : (q : Wanted) → q.kind ≡ 0 → object_locks_at + q.number ≡ target_word q
unfolding target_word
word_of_object q h = rw (eq-eqb q.kind 0 h)

pub word_of_class : (q : Wanted) → (q.kind ≡ 0 → ⊥) → class_locks_at + q.class ≡ target_word q
unfolding target_word
word_of_class q h = rw (ne_eqb q.kind 0 h)

-- The slots with a conflict at the target's word are those in the way.
module _ (text ws : List ℕ) (n s : ℕ) (q : Wanted) (methods : ℕ) (m : methods ≡ conflicts_of (tables_of ws) q.class q.place) where
  at_word : (word : ℕ) → ((row : List ℕ) → holds_one row word q.class (conflicts_of (tables_of ws) q.class q.place) ≡ row_meets text (tables_of ws) q row)
      → gathered (besides s (blocks ws n (lock_test word q.class methods))) 8 ≡ gathered (in_the_way text ws n s q) 8
  unfolding in_the_way
  at_word word same =
      ap (λ (test : List ℕ → Bool). gathered (besides s (blocks ws n test)) 8)
      (fun_ext (λ row. ap (holds_one row word q.class) m ∙ same row))

  object_in_the_way : q.kind ≡ 0 → gathered (besides s (blocks ws n (lock_test (object_locks_at + q.number) q.class methods))) 8 ≡ gathered (in_the_way text ws n s q) 8
  object_in_the_way h = at_word (object_locks_at + q.number) (λ row. meets_object text (tables_of ws) q row h)

  class_in_the_way : q.kind ≡ 1 → gathered (besides s (blocks ws n (lock_test (class_locks_at + q.class) q.class methods))) 8 ≡ gathered (in_the_way text ws n s q) 8
  class_in_the_way h = at_word (class_locks_at + q.class) (λ row. meets_class text (tables_of ws) q row h)

  pub target_in_the_way : q.kind < 2 → gathered (besides s (blocks ws n (lock_test (target_word q) q.class methods))) 8 ≡ gathered (in_the_way text ws n s q) 8
  unfolding target_word
  target_in_the_way h = go (eqb q.kind 0) refl
    where
      go : (t : Bool) → eqb q.kind 0 ≡ t
          → gathered (besides s (blocks ws n (lock_test (cond t (object_locks_at + q.number) (class_locks_at + q.class)) q.class methods))) 8
          ≡ gathered (in_the_way text ws n s q) 8
      go true e = object_in_the_way (eqb-true q.kind 0 e)
      go false e = class_in_the_way (omega (arith, eqb-false q.kind 0 e))

-- The same for a send to a domain.
pub domain_in_the_way : (text ws : List ℕ) (n s : ℕ) (q : Wanted) (tables : List ℕ) → tables ≡ tables_of ws → 2 ≤ q.kind
    → gathered (besides s (blocks ws n (domain_clashes text tables q))) 8 ≡ gathered (in_the_way text ws n s q) 8
unfolding in_the_way
domain_in_the_way text ws n s q tables e h =
    ap (λ (test : List ℕ → Bool). gathered (besides s (blocks ws n test)) 8)
    (fun_ext (λ row. ap (λ (t : List ℕ). domain_clashes text t q row) e ∙ meets_domain text (tables_of ws) q row h))

-- ---- a send to an object that starts at once

-- Whether nobody waits, no slot holds a conflict on the object, and its class has the method's name at its place.
unfoldable pub starts_at_once : List ℕ → Wanted → Bool
unfolding held_upto conflicts_of named_at
starts_at_once ws q =
    eqb (get_or ws line_at 0) 0
    && (eqb (bit_and (held_upto ws (object_locks_at + q.number) q.class 8) (conflicts_of (tables_of ws) q.class q.place)) 0
    && named_at (tables_of ws) q.class q.place q.name)

module _ (ws : List ℕ) (q : Wanted) (count : ℕ) (w : count ≡ get_or ws line_at 0) where
  pub somebody_waits : (count ≡ 0 → ⊥) → false ≡ starts_at_once ws q
  unfolding starts_at_once
  somebody_waits z = rw (← w, ne_eqb count 0 z)

  module _ (none : count ≡ 0) (held methods : ℕ) (e : held ≡ held_upto ws (object_locks_at + q.number) q.class 8)
      (m : methods ≡ conflicts_of (tables_of ws) q.class q.place) where
    pub held_there : (bit_and held methods ≡ 0 → ⊥) → false ≡ starts_at_once ws q
    unfolding starts_at_once
    held_there z = rw (← w, none, ← e, ← m, ne_eqb (bit_and held methods) 0 z)

    pub free_there : bit_and held methods ≡ 0 → (t : Bool) → t ≡ named_at (tables_of ws) q.class q.place q.name → t ≡ starts_at_once ws q
    unfolding starts_at_once
    free_there z t w' = rw (← w, none, ← e, ← m, z) w'

module _ (ws : List ℕ) (q : Wanted) (once : starts_at_once ws q ≡ true) where
  abbrev nobody : Bool
  nobody = eqb (get_or ws line_at 0) 0

  abbrev free : Bool
  free = eqb (bit_and (held_upto ws (object_locks_at + q.number) q.class 8) (conflicts_of (tables_of ws) q.class q.place)) 0

  abbrev there : Bool
  there = named_at (tables_of ws) q.class q.place q.name

  pub at_once_named : named_at (tables_of ws) q.class q.place q.name ≡ true
  unfolding starts_at_once
  at_once_named = both_right free there (both_right nobody (free && there) once)

  nobody_waits : count_in ws ≡ 0
  unfolding starts_at_once count_in
  nobody_waits = rw (eqb-true (get_or ws line_at 0) 0 (both_left nobody (free && there) once))

  -- No slot is in its way.
  pub at_once_free : (text : List ℕ) (s : ℕ) → q.kind ≡ 0 → 0 ≡ gathered (in_the_way text ws (count_in ws) s q) 8
  unfolding starts_at_once
  at_once_free text s k =
      let methods : ℕ = conflicts_of (tables_of ws) q.class q.place in
      let none : bit_and (held_upto ws (object_locks_at + q.number) q.class 8) methods ≡ 0 =
      eqb-true (bit_and (held_upto ws (object_locks_at + q.number) q.class 8) methods) 0 (both_left free there (both_right nobody (free && there) once)) in
      sym (none_holds ws (object_locks_at + q.number) q.class methods (conflicts_lt (tables_of ws) q.class q.place) s 8 none)
      ∙ object_in_the_way text ws 0 s q methods refl k ∙ ap (λ (n : ℕ). gathered (in_the_way text ws n s q) 8) (sym nobody_waits)
