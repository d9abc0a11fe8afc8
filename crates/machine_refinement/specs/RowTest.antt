-- The test of a whole row: whether some lock of it clashes with one of the send's, whatever the send's target.
use Prim.Native.Nat.{ℕ, ◌+◌, ◌≤◌, ◌<◌}
use Rattle.std.proofs.Common.{arith, ◌∙◌, lt-ltb, le-ltb}
use Rattle.std.proofs.Math.Decide.{dec_lt}
use Rattle.std.specs.Prelude.{◌≡◌, Bool, ◌&&◌, List, map, length, get_or}
use Rattle.std.proofs.Math.Path.{refl, sym, ap, ap₂}
use Rattle.std.proofs.Math.Bool.{true, false, not, ◌||◌, or-false}
use Rattle.std.specs.Int.Bits.{bit_or}
use Rattle.std.proofs.Math.Dec.{eqb, ltb}
use Rattle.layout.specs.Layout.{commuting_at, object_locks_at, class_locks_at, whole_locks_at}
use Rattle.model.specs.Base.{any, keep, upto}
use Rattle.model.specs.Word.{Name}
use Rattle.model.specs.Library.{class_at, member_place}
use Rattle.model.specs.Vector.{Program, commute_in}
use Rattle.model.specs.Message.{Target, object, domain}
use Rattle.model.specs.Message as Model
use Rattle.model.specs.Lock.{Lock, on_object, on_class, domain_of, locks_for, lock_clash, locks_clash, same_flag}
use Rattle.catalog.specs.View.{class_word, class_count, object_count, member_count}
use Rattle.laws.specs.Lists.{none_any, both_true}
use Rattle.machine_words.specs.Request.{Wanted, meets, place_in, commuting_in, in_domain, concerns, class_meets, row_meets, wanted}
use Rattle.machine_refinement.specs.Rep.{Fits, on_known, Holds, method_of, Aims, one, each, whole}
use Rattle.machine_words.specs.Meeting.{meets_or}
use Rattle.machine_refinement.specs.Tables.{class_total, object_total, methods_are, method_total, method_name, class_is}
use Rattle.machine_refinement.specs.Clashes.{any_same, any_or, any_kept, below_count, small, strange_commutes, word_meets, against}

module _ (text tables : List ℕ) (p : Program) (fits : Fits text tables p) where
  -- A lock on a class, or on an object, that exists is known.
  pub class_known : (c : ℕ) (m : Name) (w : Bool) → c < class_count tables → on_known p (on_class c m w) ≡ true
  class_known c m w h = lt-ltb c (length p.library.classes) (omega (arith, class_total text tables p fits))

  pub object_known : (o : ℕ) (m : Name) → o < object_count tables → on_known p (on_object o m) ≡ true
  object_known o m h =
      both_true (ltb o (length p.library.objects)) (ltb (Model.class_of p o) (length p.library.classes))
      (lt-ltb o (length p.library.objects) (omega (arith, object_total text tables p fits)))
      (lt-ltb (Model.class_of p o) (length p.library.classes) (omega (arith, class_is text tables p fits o h, fits.known o h, class_total text tables p fits)))

  -- ---- a class's locks

  module _ (row : List ℕ) (held : List Lock) (holds : Holds p row held) (c : ℕ) (h : c < class_count tables) (m : Name) where
    abbrev place : ℕ
    place = member_place (class_at p.library c).methods m

    abbrev commuting : ℕ
    commuting = class_word tables c (commuting_at + place)

    -- (M, true) against a class's locks.
    class_clash : place < member_count tables c 1 → class_meets row c commuting ≡ any (lock_clash p (on_class c m true)) held
    unfolding class_meets
    class_clash has =
        let some = on_class c m false in
        let all = on_class c m true in
        meets_or (get_or row (class_locks_at + c) 0) (get_or row (whole_locks_at + c) 0) commuting (small text tables p fits c h m has)
        ∙ ap₂ ◌||◌ (word_meets text tables p fits c h m has row held holds some (class_known c m false h) refl)
        (word_meets text tables p fits c h m has row held holds all (class_known c m true h) refl)
        ∙ any_or (against p c m some)
        (against p c m all) held
        ∙ any_same (λ u. against p c m some u
        || against p c m all u) (lock_clash p all) held (λ u i. alike u)
      where
        go : (a v b : Bool) → (((a && same_flag false v) && b) || ((a && same_flag true v) && b)) ≡ ((a && (true || v)) && b)
        go false v b = refl
        go true true b = refl
        go true false b = or-false b

        alike : (u : Lock) → (against p c m (on_class c m false) u
            || against p c m (on_class c m true) u) ≡ lock_clash p (on_class c m true) u
        alike (on_object q n) = refl
        alike (on_class d n v) = go (eqb c d) v (not (commute_in p c m n))

    -- A method that the class does not have clashes with none.
    none_clash : member_count tables c 1 ≤ place → any (lock_clash p (on_class c m true)) held ≡ false
    none_clash far = none_any (lock_clash p (on_class c m true)) held (λ u i. alike u)
      where
        go : (a b : Bool) → b ≡ true → (a && not b) ≡ false
        go true b e = ap not e
        go false b e = refl

        alike : (u : Lock) → lock_clash p (on_class c m true) u ≡ false
        alike (on_object q n) = refl
        alike (on_class d n v) = go (eqb c d && (true || v)) (commute_in p c m n) (strange_commutes text tables p fits c h m far n)

    -- M on an object against that object's locks and the locks on its class with its objects.
    object_clash : place < member_count tables c 1 → (o : ℕ) → o < object_count tables → Model.class_of p o ≡ c
        → meets (bit_or (get_or row (object_locks_at + o) 0) (get_or row (whole_locks_at + c) 0)) commuting ≡ locks_clash p (locks_for p (object o) m) held
    unfolding any locks_clash
    object_clash has o k e =
        let it = on_object o m in
        let all = on_class c m true in
        meets_or (get_or row (object_locks_at + o) 0) (get_or row (whole_locks_at + c) 0) commuting (small text tables p fits c h m has)
        ∙ ap₂ ◌||◌
        (word_meets text tables p fits c h m has row held holds it (object_known o m k) e
        ∙ any_same (against p c m it) (lock_clash p it) held (λ u i. on_object_law u))
        (word_meets text tables p fits c h m has row held holds all (class_known c m true h) refl
        ∙ any_same (against p c m all) (lock_clash p (on_class (Model.class_of p o) m false)) held (λ u i. on_class_law u)
        ∙ sym (or-false (any (lock_clash p (on_class (Model.class_of p o) m false)) held)))
      where
        on_object_law : (u : Lock) → against p c m (on_object o m) u ≡ lock_clash p (on_object o m) u
        on_object_law (on_object q n) = ap (λ (d : ℕ). eqb o q && not (commute_in p d m n)) (sym e)
        on_object_law (on_class d n v) = refl

        on_class_law : (u : Lock) → against p c m (on_class c m true) u
            ≡ lock_clash p (on_class (Model.class_of p o) m false) u
        on_class_law (on_object q n) = refl
        on_class_law (on_class d n v) = ap (λ (b : ℕ). eqb b d && v && not (commute_in p b m n)) (sym e)

  -- ---- a send's locks

  module _ (c k a : ℕ) (h : c < class_count tables) (has : k < member_count tables c 1) where
    abbrev method : Name
    method = method_of p c k

    abbrev q : ℕ → ℕ → Wanted
    q kind n = wanted tables kind n c k a

    -- The name of a method is found at its place.
    pub method_place : member_place (class_at p.library c).methods (method_of p c k) ≡ k
    method_place = fits.distinct c h k (omega (arith, method_total text tables p fits c h))

    -- Its place in another class, by its name.
    pub place_there : (kind n d : ℕ) → d < class_count tables → place_in text tables (q kind n) d ≡ member_place (class_at p.library d).methods (method_of p c k)
    unfolding place_in
    place_there kind n d l = ap₂ member_place (sym (methods_are text tables p fits d l)) (sym (method_name text tables p fits c h k has))

    -- The classes of a domain.
    pub domain_there : (kind d : ℕ) → d < class_count tables → in_domain tables (q kind c) d ≡ Model.in_domain p c d
    unfolding in_domain
    domain_there kind d l = fits.domains c d h ∙ ap (λ (b : Bool). b && Model.in_domain p c d) (lt-ltb d (class_count tables) l)

    module _ (row : List ℕ) (held : List Lock) (holds : Holds p row held) where
      each_class : (d : ℕ) → d < class_count tables → (concerns text tables (q 2 c) d && class_meets row d (commuting_in text tables (q 2 c) d))
          ≡ (Model.in_domain p c d && any (lock_clash p (on_class d method true)) held)
      unfolding concerns commuting_in
      each_class d l = ap₂ (λ (b : Bool) (i : ℕ). (b && ltb i (member_count tables d 1)) && class_meets row d (class_word tables d (commuting_at + i)))
          (domain_there 2 d l) (place_there 2 c d l)
          ∙ go (dec_lt there (member_count tables d 1))
        where
          there : ℕ
          there = member_place (class_at p.library d).methods method

          both : (a b : Bool) → ((a && true) && b) ≡ (a && b)
          both true b = refl
          both false b = refl

          neither : (a b : Bool) → ((a && false) && b) ≡ (a && false)
          neither true b = refl
          neither false b = refl

          go : Dec (there < member_count tables d 1)
              → ((Model.in_domain p c d && ltb there (member_count tables d 1)) && class_meets row d (class_word tables d (commuting_at + there)))
              ≡ (Model.in_domain p c d && any (lock_clash p (on_class d method true)) held)
          go (yes w) =
              ap₂ (λ (x y : Bool). (Model.in_domain p c d && x) && y) (lt-ltb there (member_count tables d 1) w) (class_clash row held holds d l method w)
              ∙ both (Model.in_domain p c d) (any (lock_clash p (on_class d method true)) held)
          go (no w) =
              ap (λ (x : Bool). (Model.in_domain p c d && x) && class_meets row d (class_word tables d (commuting_at + there)))
              (le-ltb there (member_count tables d 1) (omega arith))
              ∙ neither (Model.in_domain p c d) (class_meets row d (class_word tables d (commuting_at + there)))
              ∙ ap (λ (x : Bool). Model.in_domain p c d && x) (sym (none_clash row held holds d l method (omega arith)))

      whole_domain : any (λ d. concerns text tables (q 2 c) d && class_meets row d (commuting_in text tables (q 2 c) d)) (upto (λ d. d) (class_count tables))
          ≡ locks_clash p (locks_for p (domain c) method) held
      unfolding locks_clash domain_of
      whole_domain =
          any_same (λ d. concerns text tables (q 2 c) d && class_meets row d (commuting_in text tables (q 2 c) d))
          (λ d. Model.in_domain p c d && any (lock_clash p (on_class d method true)) held) (upto (λ d. d) (class_count tables))
          (λ d i. each_class d (below_count (class_count tables) i))
          ∙ sym (any_kept (λ x. any (lock_clash p x) held) (λ d. on_class d method true) (Model.in_domain p c) (upto (λ d. d) (class_count tables)))
          ∙ ap (λ (n : ℕ). any (λ x. any (lock_clash p x) held) (map (λ d. on_class d method true) (keep (Model.in_domain p c) (upto (λ d. d) n))))
          (sym (class_total text tables p fits))

      -- The row is in the way of the send exactly if the slot's locks clash with the message's.
      pub row_clash : (kind n : ℕ) (t : Target) → Aims tables c kind n t → row_meets text tables (q kind n) row ≡ locks_clash p (locks_for p t (method_of p c k)) held
      unfolding row_meets locks_clash any
      row_clash kind n t (one o l e) =
          ap (λ (i : ℕ). meets (bit_or (get_or row (object_locks_at + o) 0) (get_or row (whole_locks_at + c) 0)) (class_word tables c (commuting_at + i))) (sym method_place)
          ∙ object_clash row held holds c h method (omega (arith, method_place)) o l (class_is text tables p fits o l ∙ e)
      row_clash kind n t each =
          ap (λ (i : ℕ). class_meets row c (class_word tables c (commuting_at + i))) (sym method_place)
          ∙ class_clash row held holds c h method (omega (arith, method_place))
          ∙ sym (or-false (any (lock_clash p (on_class c method true)) held))
      row_clash kind n t whole = whole_domain
