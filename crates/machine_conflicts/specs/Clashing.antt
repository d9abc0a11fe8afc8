-- The test of a row's locks in the code's order: whether it holds a lock on the class, whether the send locks the class, whether
-- the methods commute; and the test of a domain, some class of which may lack the method.
use Rattle.std.specs.Prelude.{ℕ, ◌+◌, ◌-◌, ◌≤◌, ◌<◌, ◌≡◌, Bool, not, ◌&&◌, List, get_or, eqb, leb, Option, Some, None, MatchOption}
use Rattle.std.proofs.Math.Path.{refl, sym, ap}
use Rattle.std.proofs.Common.{◌∙◌, arith}
use Rattle.std.proofs.Math.Bool.{true, false, cond}
use Rattle.std.specs.Int.Bits.{bit_and, bit_or, and_zero_l}
use Rattle.std.proofs.Math.Dec.{ltb}
use borrow.Author.Tests.{ltb-true, lt-ltb, le-ltb, le-leb, lt-leb, eq-eqb, ne_eqb}
use Rattle.std.specs.Option.{is_none}
use Rattle.catalog.specs.Look.{Found}
use Rattle.layout.specs.Layout.{commuting_at, object_locks_at, class_locks_at, whole_locks_at}
use Rattle.model.specs.Base.{any, upto}
use Rattle.model.specs.Word.{Name}
use Rattle.model.specs.Library.{member_place}
use Rattle.catalog.specs.View.{name_of, class_word, class_count, member_count, members_of}
use Rattle.machine_words.specs.Request.{Wanted, meets, place_in, commuting_in, in_domain, concerns, lacks, lacking, class_meets, row_meets}

-- The place of the method in a class that the send locks; 32, which is no place, in any other.
unfoldable pub domain_place : List ℕ → List ℕ → Wanted → ℕ → ℕ
unfolding concerns place_in
domain_place text tables q d = cond (concerns text tables q d) (place_in text tables q d) 32

-- The place k, where it is one; no place is 32.
abbrev pub Placed : Option ℕ → ℕ → Type 0
Placed r k = MatchOption r (k ≡ 32) (λ x. (x ≡ k) × (x < 32))

-- Whether the row holds a lock on class d that clashes with the send's.
unfoldable pub class_clashes : List ℕ → List ℕ → Wanted → List ℕ → ℕ → Bool
unfolding concerns class_meets commuting_in
class_clashes text tables q row d = concerns text tables q d && class_meets row d (commuting_in text tables q d)

-- Whether it holds one on some class.
unfoldable pub domain_clashes : List ℕ → List ℕ → Wanted → List ℕ → Bool
unfolding any upto class_clashes
domain_clashes text tables q row = any (class_clashes text tables q row) (upto (λ d. d) (class_count tables))

-- The methods that the row holds at a word, or on class d with its objects.
abbrev pub held_at : List ℕ → ℕ → ℕ → ℕ
held_at row word d = bit_or (get_or row word 0) (get_or row (whole_locks_at + d) 0)

-- Whether the row holds one of the methods at a word, or on class d with its objects.
unfoldable pub holds_one : List ℕ → ℕ → ℕ → ℕ → Bool
holds_one row word d methods = not (eqb (bit_and (held_at row word d) methods) 0)

-- The methods of class d that do not commute with the one at place k.
unfoldable pub conflicts_of : List ℕ → ℕ → ℕ → ℕ
unfolding class_word
conflicts_of tables d k = 4294967295 - class_word tables d (commuting_at + k)

and_false : (s t : Bool) → t ≡ false → false ≡ (s && t)
and_false true t e = sym e
and_false false t e = refl

-- No lock clashes where none is held.
meets_none : (m : ℕ) → meets 0 m ≡ false
unfolding meets
meets_none m = ap (λ (n : ℕ). not (eqb n 0)) (and_zero_l (4294967295 - m))

pub few_members : (tables : List ℕ) (k p : ℕ) → member_count tables k p ≤ 32
unfolding member_count
few_members tables k p = omega arith

-- ---- the class d, and the method's place there

module _ (text tables : List ℕ) (q : Wanted) (d : ℕ) where
  -- A class that the send locks has the method at one of 32 places.
  pub concerned : concerns text tables q d ≡ true → place_in text tables q d < 32
  unfolding concerns
  concerned e = omega (arith, ltb-true (place_in text tables q d) (member_count tables d 1) (right (in_domain tables q d) e), few_members tables d 1)
    where
      right : (t : Bool) → (t && ltb (place_in text tables q d) (member_count tables d 1)) ≡ true → ltb (place_in text tables q d) (member_count tables d 1) ≡ true
      right true h = h
      right false h = cc

  pub outside : in_domain tables q d ≡ false → 32 ≡ domain_place text tables q d
  unfolding domain_place concerns
  outside e = rw e

  pub lacks_outside : in_domain tables q d ≡ false → false ≡ lacks text tables q d
  unfolding lacks
  lacks_outside e = rw e

  -- A look-up of the name finds the place k among n methods.
  module _ (name : Name) (s : name ≡ name_of text q.name) (k n : ℕ) (e : k ≡ member_place (members_of text tables d 1) name)
      (m : n ≡ member_count tables d 1) (i : in_domain tables q d ≡ true) where
    found : place_in text tables q d ≡ k
    unfolding place_in
    found = sym (e ∙ ap (member_place (members_of text tables d 1)) s)

    pub place_there : k < n → k ≡ domain_place text tables q d
    unfolding domain_place concerns
    place_there h = rw (i, found, ← m, lt-ltb k n h)

    pub place_none : n ≤ k → 32 ≡ domain_place text tables q d
    unfolding domain_place concerns
    place_none h = rw (i, found, ← m, le-ltb k n h)

    pub lacks_method : leb n k ≡ lacks text tables q d
    unfolding lacks
    lacks_method = rw (i, found, ← m)

  -- What the look-up of the name finds.
  module _ (name : Name) (s : name ≡ name_of text q.name) (i : in_domain tables q d ≡ true) where
    pub placed_by : (r : Option ℕ) → Found r (member_place (members_of text tables d 1) name) (member_count tables d 1) → Placed r (domain_place text tables q d)
    placed_by None h = sym (place_none name s (member_place (members_of text tables d 1) name) (member_count tables d 1) refl refl i h)
    placed_by (Some k) h =
        (place_there name s k (member_count tables d 1) h.0 refl i h.1, omega (arith, h.1, few_members tables d 1))

    pub lacks_by : (r : Option ℕ) → Found r (member_place (members_of text tables d 1) name) (member_count tables d 1) → is_none r ≡ lacks text tables q d
    lacks_by None h =
        let k = member_place (members_of text tables d 1) name in
        let n = member_count tables d 1 in
        sym (le-leb n k h) ∙ lacks_method name s k n refl refl i
    lacks_by (Some k) h =
        let n = member_count tables d 1 in
        sym (lt-leb n k h.1) ∙ lacks_method name s k n h.0 refl i

  -- The send locks the class exactly if the place is not 32.
  module _ (k : ℕ) (e : k ≡ domain_place text tables q d) where
    pub place_locks : k < 32 → (concerns text tables q d ≡ true) × (k ≡ place_in text tables q d)
    unfolding domain_place
    place_locks h = side (concerns text tables q d) refl e
      where
        side : (t : Bool) → concerns text tables q d ≡ t → k ≡ cond t (place_in text tables q d) 32 → (concerns text tables q d ≡ true) × (k ≡ place_in text tables q d)
        side true t r = (t, r)
        side false t r = absurd (omega arith)

    pub place_passes : 32 ≤ k → concerns text tables q d ≡ false
    unfolding domain_place
    place_passes h = side (concerns text tables q d) refl e
      where
        side : (t : Bool) → concerns text tables q d ≡ t → k ≡ cond t (place_in text tables q d) 32 → concerns text tables q d ≡ false
        side true t r = absurd (omega (arith, concerned t))
        side false t r = t

  -- ---- the row's locks on the class

  module _ (row : List ℕ) where
    pub clash_idle : held_at row (class_locks_at + d) d ≡ 0 → false ≡ class_clashes text tables q row d
    unfolding class_clashes class_meets
    clash_idle h =
        let m = commuting_in text tables q d in
        and_false (concerns text tables q d) (class_meets row d m) (ap (λ (n : ℕ). meets n m) h ∙ meets_none m)

    module _ (k : ℕ) (e : k ≡ domain_place text tables q d) where
      pub clash_outside : 32 ≤ k → false ≡ class_clashes text tables q row d
      unfolding class_clashes
      clash_outside h = rw (place_passes k e h)

      pub clash_inside : k < 32 → (methods : ℕ) → methods ≡ conflicts_of tables d k → holds_one row (class_locks_at + d) d methods ≡ class_clashes text tables q row d
      unfolding class_clashes class_meets commuting_in holds_one conflicts_of meets
      clash_inside h methods m = let l = place_locks k e h in rw (m, l.0, l.1)

-- ---- the domain

module _ (text tables : List ℕ) (q : Wanted) where
  pub lacking_other : (q.kind ≡ 2 → ⊥) → false ≡ lacking text tables q
  unfolding lacking
  lacking_other h = rw (ne_eqb q.kind 2 h)

  pub lacking_domain : q.kind ≡ 2 → any (lacks text tables q) (upto (λ d. d) (class_count tables)) ≡ lacking text tables q
  unfolding lacking
  lacking_domain h = rw (eq-eqb q.kind 2 h)

-- ---- the row, by the target's kind

module _ (text tables : List ℕ) (q : Wanted) (row : List ℕ) where
  pub meets_object : q.kind ≡ 0 → holds_one row (object_locks_at + q.number) q.class (conflicts_of tables q.class q.place) ≡ row_meets text tables q row
  unfolding row_meets holds_one conflicts_of meets
  meets_object h = rw (eq-eqb q.kind 0 h)

  pub meets_class : q.kind ≡ 1 → holds_one row (class_locks_at + q.class) q.class (conflicts_of tables q.class q.place) ≡ row_meets text tables q row
  unfolding row_meets class_meets holds_one conflicts_of meets
  meets_class h = rw (ne_eqb q.kind 0 (λ x. omega arith), eq-eqb q.kind 1 h)

  pub meets_domain : 2 ≤ q.kind → domain_clashes text tables q row ≡ row_meets text tables q row
  unfolding row_meets domain_clashes class_clashes
  meets_domain h = rw (ne_eqb q.kind 0 (λ x. omega arith), ne_eqb q.kind 1 (λ x. omega arith))
