-- Whether a send's slot holds its locks, over the words and in the model: each class of a send's domain has the method, and the row has
-- the bit of each lock exactly where the slot's list has the lock.
use Prim.Native.Nat.{ℕ, ◌+◌, ◌<◌}
use Rattle.std.proofs.Common.{arith, ◌∙◌}
use Rattle.std.specs.Prelude.{◌≡◌, Bool, List, map, get_or}
use Rattle.std.proofs.Math.Path.{refl, sym, ap, ap₂}
use Rattle.std.proofs.Math.Bool.{true, false, not, ◌&&◌, and-true}
use Rattle.std.proofs.Math.Dec.{leb, ltb}
use borrow.Author.Tests.{lt-leb, lt-ltb}
use Rattle.layout.specs.Layout.{class_locks_at, whole_locks_at}
use Rattle.model.specs.Base.{any, every, keep, upto}
use Rattle.model.specs.Word.{Name}
use Rattle.model.specs.Library.{class_at, member_place, among}
use Rattle.model.specs.Vector.{Program}
use Rattle.model.specs.Message.{Target}
use Rattle.model.specs.Message as Model
use Rattle.model.specs.Lock.{Lock, on_object, on_class, domain_of, locks_for, same_lock, locks_held}
use Rattle.laws.specs.Bits.{bit}
use Rattle.laws.specs.Lists.{none_any}
use Rattle.laws.specs.Lookup.{place_known, name_known}
use Rattle.text_theory.specs.NamedRuns.{domain_methods}
use Rattle.catalog.specs.View.{class_count, member_count}
use Rattle.machine_words.specs.Request.{Wanted, concerns, lacks, lacking, misses, owns_locks, wanted}
use Rattle.machine_refinement.specs.Rep.{Fits, lock_word, lock_bit, Holdable, held_in, Holds, method_of, Aims, one, each, whole}
use Rattle.machine_refinement.specs.Tables.{class_total, method_total, class_is}
use Rattle.machine_refinement.specs.Clashes.{any_same, every_kept, below_count}
use Rattle.machine_refinement.specs.RowTest.{class_known, place_there, domain_there}
use Rattle.machine_refinement.specs.Taking.{class_can, object_can}

module _ (text tables : List ℕ) (p : Program) (fits : Fits text tables p) (c k a : ℕ) (h : c < class_count tables) (has : k < member_count tables c 1) where
  abbrev m : Name
  m = method_of p c k

  abbrev q : ℕ → ℕ → Wanted
  q kind n = wanted tables kind n c k a

  -- The method's place in class d.
  abbrev place : ℕ → ℕ
  place d = member_place (class_at p.library d).methods m

  -- ---- the classes of a domain

  has_method : (d : ℕ) → d < class_count tables → Model.in_domain p c d ≡ true → place d < member_count tables d 1
  has_method d l e =
      let known : among (class_at p.library c).methods m ≡ true = name_known (class_at p.library c).methods k (omega (arith, method_total text tables p fits c h)) in
      omega (arith, place_known (class_at p.library d).methods m (domain_methods p fits.names c d e m known), method_total text tables p fits d l)

  class_has : (d : ℕ) → d < class_count tables → lacks text tables (q 2 c) d ≡ false
  unfolding lacks
  class_has d l =
      ap₂ (λ (b : Bool) (i : ℕ). b && leb (member_count tables d 1) i) (domain_there text tables p fits c k a h has 2 d l)
      (place_there text tables p fits c k a h has 2 c d l)
      ∙ go (Model.in_domain p c d) refl
    where
      go : (b : Bool) → Model.in_domain p c d ≡ b → (b && leb (member_count tables d 1) (place d)) ≡ false
      go true e = lt-leb (member_count tables d 1) (place d) (has_method d l e)
      go false e = refl

  -- No class of a send's domain lacks its method.
  pub none_lacks : (kind n : ℕ) (t : Target) → Aims tables c kind n t → lacking text tables (wanted tables kind n c k a) ≡ false
  unfolding lacking
  none_lacks kind n t (one o l e) = refl
  none_lacks kind n t each = refl
  none_lacks kind n t whole = none_any (lacks text tables (q 2 c)) (upto (λ d. d) (class_count tables)) (λ d i. class_has d (below_count (class_count tables) i))

  -- ---- the locks that the slot holds

  module _ (row : List ℕ) (held : List Lock) (holds : Holds p row held) where
    abbrev has_lock : Lock → Bool
    has_lock x = any (same_lock x) held

    -- The bit of a lock, at its method's place.
    lock_bit_law : (x : Lock) (i : ℕ) → Holdable p x × (lock_bit p x ≡ i) → bit (get_or row (lock_word x) 0) i ≡ has_lock x
    unfolding held_in
    lock_bit_law x i can = ap (λ (j : ℕ). bit (get_or row (lock_word x) 0) j) (sym can.1) ∙ holds.known x can.0

    misses_is : (d : ℕ) → d < class_count tables → misses text tables (q 2 c) row d ≡ (Model.in_domain p c d && not (has_lock (on_class d m true)))
    unfolding misses concerns lock_bit
    misses_is d l =
        ap₂ (λ (b : Bool) (i : ℕ). (b && ltb i (member_count tables d 1)) && not (bit (get_or row (whole_locks_at + d) 0) i))
        (domain_there text tables p fits c k a h has 2 d l) (place_there text tables p fits c k a h has 2 c d l)
        ∙ go (Model.in_domain p c d) refl
      where
        go : (b : Bool) → Model.in_domain p c d ≡ b
            → ((b && ltb (place d) (member_count tables d 1)) && not (bit (get_or row (whole_locks_at + d) 0) (place d)))
            ≡ (b && not (has_lock (on_class d m true)))
        go true e =
            let there = has_method d l e in
            ap₂ (λ (x y : Bool). x && not y) (lt-ltb (place d) (member_count tables d 1) there)
            (lock_bit_law (on_class d m true) (place d) ((class_known text tables p fits d m true l, omega (arith, method_total text tables p fits d l)), refl))
        go false e = refl

    -- The row has every lock of the send exactly where the slot's list has each of the message's.
    pub owns_is : (kind n : ℕ) (t : Target) → Aims tables c kind n t
        → owns_locks text tables (wanted tables kind n c k a) row ≡ locks_held (locks_for p t (method_of p c k)) held
    unfolding owns_locks locks_held every domain_of
    owns_is kind n t (one o l e) =
        let on : Model.class_of p o ≡ c = class_is text tables p fits o l ∙ e in
        ap₂ ◌&&◌ (lock_bit_law (on_object o m) k (object_can text tables p fits c k a h has o l on)) (
        ap (λ (d : ℕ). bit (get_or row (class_locks_at + d) 0) k) (sym on)
        ∙ lock_bit_law (on_class (Model.class_of p o) m false) k (class_can text tables p fits c k a h has (Model.class_of p o) false on)
        ∙ sym (and-true (has_lock (on_class (Model.class_of p o) m false)))
        )
    owns_is kind n t each =
        lock_bit_law (on_class c m true) k (class_can text tables p fits c k a h has c true refl) ∙ sym (and-true (has_lock (on_class c m true)))
    owns_is kind n t whole =
        let lock : ℕ → Lock = λ d. on_class d m true in
        ap not (any_same (misses text tables (q 2 c) row) (λ d. Model.in_domain p c d && not (has_lock (lock d))) (upto (λ d. d) (class_count tables))
        (λ d i. misses_is d (below_count (class_count tables) i)))
        ∙ sym (every_kept has_lock lock (Model.in_domain p c) (upto (λ d. d) (class_count tables)))
        ∙ ap (λ (i : ℕ). every has_lock (map lock (keep (Model.in_domain p c) (upto (λ d. d) i)))) (sym (class_total text tables p fits))
