-- A slot's list of locks against the lock words of its row: for a blank row, for rows with equal lock words, and as locks are taken.
use Rattle.std.specs.Prelude.{ℕ, ◌+◌, ◌/◌, ◌%◌, ◌^◌, ◌≤◌, ◌<◌, ◌≡◌, Bool, ◌&&◌, ltb}
use Rattle.std.proofs.Common.{arith, ◌∙◌, true≢false, length-set}
use Rattle.std.proofs.Math.Decide.{ℕ_discrete, dec_lt}
use Rattle.std.proofs.Math.Path.{refl, sym, ap, ap₂, subst}
use Rattle.std.proofs.Math.Bool.{true, false, ◌||◌}
use Rattle.std.proofs.lemmas.Bool.{false≢true}
use mathlib.Core.List.{List, [], ◌∷◌, map}
use Rattle.std.proofs.Math.ListN.{length, get_or, get_or-eq_default}
use Rattle.std.proofs.lemmas.List.{get_or-replicate, length-replicate}
use Rattle.std.specs.Int.Bits.{bit_or}
use Rattle.std.proofs.Math.Dec.{eqb}
use borrow.Author.Tests.{ltb-true, eqb-true, eq-eqb, ne_eqb}
use Rattle.layout.specs.Layout.{lock_marks_at, object_locks_at, marks_at, row_words}
use Rattle.model.specs.Base.{same, any}
use Rattle.model.specs.Word.{Name}
use Rattle.model.specs.Library.{Member, class_at, member_place}
use Rattle.model.specs.Vector.{Program}
use Rattle.model.specs.Lock.{Lock, on_object, on_class, lock_method, same_flag, same_place, same_lock}
use Rattle.model.specs.Message as Model
use Rattle.laws.specs.Bits.{bit, bit_zero, bit_or_law, bit_one}
use Rattle.catalog.specs.View.{class_count, member_count}
use Rattle.laws.specs.Lists.{both_left, both_right, same_sound, same_refl, eqb_same, same_test}
use Rattle.laws.specs.Lookup.{name_at}
use Rattle.machine_words.specs.Row.{blank, lock_marked}
use Rattle.machine_words.specs.Request.{with_lock}
use Rattle.machine_refinement.specs.Rep.{Fits, lock_word, lock_class, lock_bit, on_known, Holdable, held_in, Holds}
use Rattle.machine_refinement.specs.Tables.{class_total, object_total, method_total}
use Rattle.machine_refinement.specs.Runs.{Alike}
use Rattle.machine_refinement.specs.Stores.{else_word, new_word}

-- ---- places of locks

flag_same : (w v : Bool) → same_flag w v ≡ true → w ≡ v
flag_same true v e = sym e
flag_same false true e = absurd (false≢true e)
flag_same false false e = refl

flag_refl : (w : Bool) → same_flag w w ≡ true
flag_refl true = refl
flag_refl false = refl

pub place_refl : (x : Lock) → same_place x x ≡ true
place_refl (on_object o m) = eqb_same o
place_refl (on_class c m w) = ap₂ ◌&&◌ (eqb_same c) (flag_refl w)

pub lock_refl : (x : Lock) → same_lock x x ≡ true
lock_refl x = ap₂ ◌&&◌ (place_refl x) (same_refl (lock_method x))

flag_word : ℕ → Bool → ℕ
flag_word c w = lock_word (on_class c [] w)

class_word : (c : ℕ) (m : Name) (w : Bool) → lock_word (on_class c m w) ≡ flag_word c w
unfolding flag_word
class_word c m true = refl
class_word c m false = refl

-- Locks in one place have one word, and are on one class.
pub place_word : (x y : Lock) → same_place x y ≡ true → lock_word x ≡ lock_word y
place_word (on_object o m) (on_object q n) e = ap (λ (i : ℕ). object_locks_at + i) (eqb-true o q e)
place_word (on_object o m) (on_class d n v) e = absurd (false≢true e)
place_word (on_class c m w) (on_object q n) e = absurd (false≢true e)
place_word (on_class c m w) (on_class d n v) e =
    class_word c m w
    ∙ ap₂ flag_word (eqb-true c d (both_left (eqb c d) (same_flag w v) e)) (flag_same w v (both_right (eqb c d) (same_flag w v) e))
    ∙ sym (class_word d n v)

module _ (p : Program) where
  pub place_class : (x y : Lock) → same_place x y ≡ true → lock_class p x ≡ lock_class p y
  place_class (on_object o m) (on_object q n) e = ap (Model.class_of p) (eqb-true o q e)
  place_class (on_object o m) (on_class d n v) e = absurd (false≢true e)
  place_class (on_class c m w) (on_object q n) e = absurd (false≢true e)
  place_class (on_class c m w) (on_class d n v) e = eqb-true c d (both_left (eqb c d) (same_flag w v) e)

  pub place_known : (x y : Lock) → same_place x y ≡ true → on_known p x ≡ true → on_known p y ≡ true
  place_known (on_object o m) (on_object q n) e h = subst (λ (i : ℕ). on_known p (on_object i n) ≡ true) (eqb-true o q e) h
  place_known (on_object o m) (on_class d n v) e h = absurd (false≢true e)
  place_known (on_class c m w) (on_object q n) e h = absurd (false≢true e)
  place_known (on_class c m w) (on_class d n v) e h = subst (λ (i : ℕ). on_known p (on_class i n v) ≡ true) (eqb-true c d (both_left (eqb c d) (same_flag w v) e)) h

  -- Two locks in one place, for one method, have the same bit.
  pub same_bit : (x y : Lock) → same_place x y ≡ true → lock_method x ≡ lock_method y → lock_bit p x ≡ lock_bit p y
  unfolding lock_bit
  same_bit x y e f = ap₂ (λ (c : ℕ) (m : Name). member_place (class_at p.library c).methods m) (place_class x y e) f

  pub bit_same : (x y : Lock) → same_place x y ≡ true → Holdable p x → lock_bit p x ≡ lock_bit p y → lock_method x ≡ lock_method y
  unfolding lock_bit
  bit_same x y e h f =
      let ms = (class_at p.library (lock_class p x)).methods in
      let ns = (class_at p.library (lock_class p y)).methods in
      let alike : ms ≡ ns = ap (λ (c : ℕ). (class_at p.library c).methods) (place_class x y e) in
      sym (name_at ms (lock_method x) h.1)
      ∙ ap₂ (λ (ks : List Member) (i : ℕ). get_or (map (λ m. m.name) ks) i []) alike f
      ∙ name_at ns (lock_method y) (subst (λ (i : ℕ). i < length ns) f (subst (λ (ks : List Member). member_place ms (lock_method x) < length ks) alike h.1))

-- ---- the words

-- The row with one more lock.
abbrev pub taken : Program → List ℕ → Lock → List ℕ
taken p row y = with_lock row (lock_word y) (lock_bit p y)

-- Every word of a blank row is 0.
pub blank_word : (i : ℕ) → get_or blank i 0 ≡ 0
blank_word i = go (dec_lt i row_words)
  where
    go : Dec (i < row_words) → get_or blank i 0 ≡ 0
    go (yes h) = get_or-replicate row_words i 0 0 h
    go (no h) = get_or-eq_default blank 0 {n = i} (let e = length-replicate {A = ℕ} row_words 0 in omega arith)

-- A blank row holds no lock.
pub blank_holds : (p : Program) → Holds p blank []
unfolding any held_in
blank_holds p =
    record {
      known = λ x h. ap (λ (w : ℕ). bit w (lock_bit p x)) (blank_word (lock_word x)) ∙ bit_zero (lock_bit p x);
      spare = λ x h k far. ap (λ (w : ℕ). bit w k) (blank_word (lock_word x)) ∙ bit_zero k;
    }

-- A class has at most 32 methods, one for each bit.
pub few_members : (tables : List ℕ) (c j : ℕ) → member_count tables c j ≤ 32
unfolding member_count
few_members tables c j = omega arith

module _ (text tables : List ℕ) (p : Program) (fits : Fits text tables p) where
  known_class : (x : Lock) → on_known p x ≡ true → lock_class p x < class_count tables
  known_class (on_object o m) e =
      let a = ltb o (length p.library.objects) in
      let b = ltb (Model.class_of p o) (length p.library.classes) in
      omega (arith, ltb-true (Model.class_of p o) (length p.library.classes) (both_right a b e), class_total text tables p fits)
  known_class (on_class c m w) e = omega (arith, ltb-true c (length p.library.classes) e, class_total text tables p fits)

  known_object : (o : ℕ) (m : Name) → on_known p (on_object o m) ≡ true → o < 64
  known_object o m e =
      let a = ltb o (length p.library.objects) in
      let b = ltb (Model.class_of p o) (length p.library.classes) in
      omega (arith, ltb-true o (length p.library.objects) (both_left a b e), object_total text tables p fits)

  -- The word of a known lock is among the lock words.
  pub known_word : (x : Lock) → on_known p x ≡ true → (object_locks_at ≤ lock_word x) × (lock_word x < marks_at)
  known_word (on_object o m) e = let h = known_object o m e in (omega arith, omega arith)
  known_word (on_class c m true) e = let h = known_class (on_class c m true) e in (omega arith, omega arith)
  known_word (on_class c m false) e = let h = known_class (on_class c m false) e in (omega arith, omega arith)

  -- Known locks with the same word are in one place.
  word_place : (x y : Lock) → on_known p x ≡ true → on_known p y ≡ true → lock_word x ≡ lock_word y → same_place x y ≡ true
  word_place (on_object o m) (on_object q n) h k e = eq-eqb o q (omega arith)
  word_place (on_object o m) (on_class d n true) h k e = absurd (let b = known_object o m h in omega arith)
  word_place (on_object o m) (on_class d n false) h k e = absurd (let b = known_object o m h in omega arith)
  word_place (on_class c m true) (on_object q n) h k e = absurd (let b = known_object q n k in omega arith)
  word_place (on_class c m false) (on_object q n) h k e = absurd (let b = known_object q n k in omega arith)
  word_place (on_class c m true) (on_class d n true) h k e = ap (λ (b : Bool). b && true) (eq-eqb c d (omega arith))
  word_place (on_class c m false) (on_class d n false) h k e = ap (λ (b : Bool). b && true) (eq-eqb c d (omega arith))
  word_place (on_class c m true) (on_class d n false) h k e = absurd
      (let a = known_class (on_class c m true) h in let b = known_class (on_class d n false) k in omega arith)
  word_place (on_class c m false) (on_class d n true) h k e = absurd
      (let a = known_class (on_class c m false) h in let b = known_class (on_class d n true) k in omega arith)

  -- Rows with equal lock words hold the same locks.
  pub holds_alike : (row row' : List ℕ) (held : List Lock) → Alike object_locks_at marks_at row row' → Holds p row held → Holds p row' held
  unfolding held_in
  holds_alike row row' held alike h =
      let at : (x : Lock) → on_known p x ≡ true → get_or row' (lock_word x) 0 ≡ get_or row (lock_word x) 0 = λ x k. alike (lock_word x) (known_word x k).0
      (known_word x k).1 in
      record {
        known = λ x k. ap (λ (w : ℕ). bit w (lock_bit p x)) (at x k.0) ∙ h.known x k;
        spare = λ x k i far. ap (λ (w : ℕ). bit w i) (at x k) ∙ h.spare x k i far;
      }

  -- ---- taking a lock

  low_bit : (y : Lock) → Holdable p y → lock_bit p y < 32
  low_bit y h = omega (arith, h.1, method_total text tables p fits (lock_class p y) (known_class y h.0), few_members tables (lock_class p y) 1)

  module _ (row : List ℕ) (size : marks_at ≤ length row) (y : Lock) (can : Holdable p y) where
    taken_bit : (x : Lock) → on_known p x ≡ true → (k : ℕ)
        → bit (get_or (taken p row y) (lock_word x) 0) k ≡ ((same_place x y && eqb (lock_bit p y) k) || bit (get_or row (lock_word x) 0) k)
    taken_bit x known k = go (ℕ_discrete (lock_word x) (lock_word y)) (same_place x y) refl
      where
        word : ℕ
        word = bit_or (get_or row (lock_word y) 0) (2 ^ lock_bit p y)

        mark : ℕ
        mark = bit_or (get_or row lock_marks_at 0) (2 ^ (lock_word y / 8 % 32))

        marked : List ℕ
        marked = lock_marked row (lock_word y)

        marked_long : length marked ≡ length row
        marked_long = length-set row lock_marks_at mark

        swap : (a b : Bool) → (a || b) ≡ (b || a)
        swap true true = refl
        swap true false = refl
        swap false true = refl
        swap false false = refl

        here : lock_word x ≡ lock_word y → bit (get_or (taken p row y) (lock_word x) 0) k ≡ (eqb (lock_bit p y) k || bit (get_or row (lock_word x) 0) k)
        here e =
            ap (λ (i : ℕ). bit (get_or (taken p row y) i 0) k) e
            ∙ ap (λ (w : ℕ). bit w k) (new_word marked (lock_word y) word (omega (arith, marked_long, (known_word y can.0).1)))
            ∙ bit_or_law (get_or row (lock_word y) 0) (2 ^ lock_bit p y) k
            ∙ swap (bit (get_or row (lock_word y) 0) k) (bit (2 ^ lock_bit p y) k)
            ∙ ap₂ ◌||◌ (bit_one (lock_bit p y) k (low_bit y can)) (ap (λ (i : ℕ). bit (get_or row i 0) k) (sym e))

        go : Dec (lock_word x ≡ lock_word y) → (b : Bool) → same_place x y ≡ b
            → bit (get_or (taken p row y) (lock_word x) 0) k ≡ ((b && eqb (lock_bit p y) k) || bit (get_or row (lock_word x) 0) k)
        go (yes e) true f = here e
        go (yes e) false f = absurd (true≢false (sym (word_place x y known can.0 e) ∙ f))
        go (no ne) true f = absurd (ne (place_word x y f))
        go (no ne) false f =
            ap (λ (w : ℕ). bit w k)
            (else_word marked (lock_word y) word (lock_word x) ne ∙ else_word row 10 mark (lock_word x) (λ e. omega (arith, (known_word x known).0)))

    -- The row holds that lock too.
    pub taken_holds : (held : List Lock) → Holds p row held → Holds p (taken p row y) (y ∷ held)
    unfolding held_in any
    taken_holds held h =
        record {
          known = λ x k. taken_bit x k.0 (lock_bit p x) ∙ ap₂ ◌||◌ (same_lock_law x k) (h.known x k);
          spare = λ x k i far. taken_bit x k i ∙ ap₂ ◌||◌ (other_bit x i far (same_place x y) refl) (h.spare x k i far);
        }
      where
        same_lock_law : (x : Lock) → Holdable p x → (same_place x y && eqb (lock_bit p y) (lock_bit p x)) ≡ same_lock x y
        same_lock_law x k = go (same_place x y) refl
          where
            go : (b : Bool) → same_place x y ≡ b → (b && eqb (lock_bit p y) (lock_bit p x)) ≡ (b && same (lock_method x) (lock_method y))
            go true e =
                same_test (eqb (lock_bit p y) (lock_bit p x)) (same (lock_method x) (lock_method y))
                (λ q. subst (λ (m : Name). same (lock_method x) m ≡ true) (bit_same p x y e k (sym (eqb-true (lock_bit p y) (lock_bit p x) q)))
                (same_refl (lock_method x)))
                (λ q. eq-eqb (lock_bit p y) (lock_bit p x) (sym (same_bit p x y e (same_sound (lock_method x) (lock_method y) q))))
            go false e = refl

        other_bit : (x : Lock) (i : ℕ) → length (class_at p.library (lock_class p x)).methods ≤ i → (b : Bool) → same_place x y ≡ b
            → (b && eqb (lock_bit p y) i) ≡ false
        other_bit x i far true e =
            let l : lock_bit p y < length (class_at p.library (lock_class p x)).methods =
            subst (λ (c : ℕ). lock_bit p y < length (class_at p.library c).methods) (sym (place_class p x y e)) can.1 in
            ne_eqb (lock_bit p y) i (λ z. omega arith)
        other_bit x i far false e = refl

  -- A lock of a method that its class does not have does not alter what a row holds.
  pub useless_holds : (row : List ℕ) (y : Lock) (held : List Lock) → length (class_at p.library (lock_class p y)).methods ≤ lock_bit p y
      → Holds p row held → Holds p row (y ∷ held)
  unfolding any
  useless_holds row y held far h =
      record {
        known = λ x k. h.known x k ∙ ap (λ (b : Bool). b || any (same_lock x) held) (sym (apart x k (same_place x y) refl));
        spare = h.spare;
      }
    where
      apart : (x : Lock) → Holdable p x → (b : Bool) → same_place x y ≡ b → (b && same (lock_method x) (lock_method y)) ≡ false
      apart x k false e = refl
      apart x k true e = go (same (lock_method x) (lock_method y)) refl
        where
          go : (b : Bool) → same (lock_method x) (lock_method y) ≡ b → b ≡ false
          go false f = refl
          go true f =
              absurd (let q = same_bit p x y e (same_sound (lock_method x) (lock_method y) f) in
              let l : lock_bit p x < length (class_at p.library (lock_class p y)).methods =
              subst (λ (c : ℕ). lock_bit p x < length (class_at p.library c).methods) (place_class p x y e) k.1 in
              omega arith)

  -- The order of the list does not matter.
  pub holds_same : (row : List ℕ) (held held' : List Lock) → ((x : Lock) → any (same_lock x) held ≡ any (same_lock x) held') → Holds p row held → Holds p row held'
  holds_same row held held' e h = record { known = λ x k. h.known x k ∙ e x; spare = h.spare }
