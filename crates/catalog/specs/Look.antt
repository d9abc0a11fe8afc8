-- Look-ups in the library that the tables represent: how long its lists are, what stands at a number, and that a name is known
-- exactly if its place is before the end.
use Prim.Native.Nat.{ℕ, zero, suc, ◌+◌, ◌*◌, ◌≤◌, ◌<◌}
use Rattle.std.specs.Prelude.{◌≡◌, Option, Some, None, MatchOption, unwrap_or, List, [], length, get_or}
use Rattle.std.proofs.Math.Path.{refl, ap}
use Rattle.std.proofs.Common.{◌∙◌}
use Rattle.std.proofs.Math.Bool.{Bool, true, false, cond}
use native.Mathlib.Omega.{arith}
use Rattle.std.proofs.Math.ListN.{get_or-eq_default}
use Rattle.std.proofs.Math.Dec.{ltb}
use borrow.Author.Tests.{ltb-true, ltb-false}
use Rattle.layout.specs.Layout.{names_at, kind_words, class_words, object_words, classes_at, objects_at}
use Rattle.model.specs.Base.{same, any, first_at, upto}
use Rattle.model.specs.Word.{Name}
use Rattle.model.specs.Library.{Member, Class, Object, no_member, no_class, member_place, among, class_number, is_class, class_at}
use Rattle.catalog.specs.View.{name_of, class_word, object_word, class_count, statement_count, object_count, member_count, member_at, members_of, class_of, placed_of, object_of, library_of}
use Rattle.laws.specs.Upto.{length_upto, get_d_upto, any_first, first_within, first_same}

-- The number of fields (p is 0) or methods (p is 1) of the class with a number; 0 where there is no such class.
unfoldable pub shown_count : List ℕ → ℕ → ℕ → ℕ
unfolding member_count
shown_count ws k p = cond (ltb k (class_count ws)) (member_count ws k p) 0

-- The place of the first of n names that equals the name; n where none does. Their words stand `step` places apart, the first at
-- `from`.
unfoldable pub first_named : List ℕ → List ℕ → ℕ → ℕ → ℕ → Name → ℕ
unfolding first_at upto name_of same
first_named text ws from step n name = first_at (λ w. same (name_of text w) name) (upto (λ i. get_or ws (from + i * step) 0) n)

-- A search among n things found the place p, which is n or more where there is none.
abbrev pub Found : Option ℕ → ℕ → ℕ → Type 0
Found r p n = MatchOption r (n ≤ p) (λ x. (x ≡ p) × (x < n))

-- The fields of a class, or its methods.
abbrev pub part : ℕ → Class → List Member
part zero c = c.fields
part (suc p) c = c.methods

module _ (text ws : List ℕ) where
  pub class_count_law : length (library_of text ws).classes ≡ class_count ws
  unfolding library_of
  class_count_law = length_upto (class_of text ws) (class_count ws)

  pub statement_count_law : length (library_of text ws).statements ≡ statement_count ws
  unfolding library_of
  statement_count_law = length_upto (placed_of text ws) (statement_count ws)

  pub object_count_law : length (library_of text ws).objects ≡ object_count ws
  unfolding library_of
  object_count_law = length_upto (object_of text ws) (object_count ws)

  pub member_count_law : (k p : ℕ) → length (members_of text ws k p) ≡ member_count ws k p
  unfolding members_of
  member_count_law k p = length_upto (member_at text ws k p) (member_count ws k p)

  pub class_at_law : (k : ℕ) → k < class_count ws → class_at (library_of text ws) k ≡ class_of text ws k
  unfolding library_of
  class_at_law k h = get_d_upto (class_of text ws) (class_count ws) k no_class h

  pub class_past : (k : ℕ) → class_count ws ≤ k → class_at (library_of text ws) k ≡ no_class
  class_past k h = get_or-eq_default (library_of text ws).classes no_class (omega (arith, class_count_law))

  class_part : (k p : ℕ) → p < 2 → part p (class_of text ws k) ≡ members_of text ws k p
  unfolding class_of
  class_part k zero h = refl
  class_part k (suc zero) h = refl
  class_part k (suc (suc p)) h = absurd (omega arith)

  part_none : (p : ℕ) → part p no_class ≡ []
  part_none zero = refl
  part_none (suc p) = refl

  -- The members of the class with a number, as a loop counts them.
  pub shown_members : (k p : ℕ) → p < 2 → part p (class_at (library_of text ws) k) ≡ upto (member_at text ws k p) (shown_count ws k p)
  unfolding members_of shown_count upto
  shown_members k p h = side (ltb k (class_count ws)) refl
    where
      side : (t : Bool) → ltb k (class_count ws) ≡ t → part p (class_at (library_of text ws) k) ≡ upto (member_at text ws k p) (cond t (member_count ws k p) 0)
      side true t = ap (part p) (class_at_law k (ltb-true k (class_count ws) t)) ∙ class_part k p h
      side false t = ap (part p) (class_past k (ltb-false k (class_count ws) t)) ∙ part_none p

  pub member_at_law : (k p j : ℕ) → j < member_count ws k p → get_or (members_of text ws k p) j no_member ≡ member_at text ws k p j
  unfolding members_of
  member_at_law k p j h = get_d_upto (member_at text ws k p) (member_count ws k p) j no_member h

  pub class_number_within : (n : Name) → class_number (library_of text ws) n ≤ class_count ws
  unfolding class_number
  class_number_within n = omega (arith, first_within (λ (c : Class). same c.name n) (library_of text ws).classes, class_count_law)

  pub is_class_law : (n : Name) → is_class (library_of text ws) n ≡ ltb (class_number (library_of text ws) n) (class_count ws)
  unfolding is_class class_number
  is_class_law n =
      let known : Class → Bool = λ c. same c.name n in
      any_first known (library_of text ws).classes ∙ ap (ltb (first_at known (library_of text ws).classes)) class_count_law

  pub is_object : (n : Name)
      → any (λ o. same o.name n) (library_of text ws).objects ≡ ltb (first_at (λ o. same o.name n) (library_of text ws).objects) (object_count ws)
  is_object n = any_first _ (library_of text ws).objects ∙ ap (ltb _) object_count_law

-- There is a member of that name exactly if its place is before the end.
pub among_place : (ms : List Member) (n : Name) → among ms n ≡ ltb (member_place ms n) (length ms)
unfolding among member_place
among_place ms n = any_first (λ (m : Member). same m.name n) ms

-- ---- names in rows

module _ (text ws : List ℕ) (n : Name) where
  abbrev named : ℕ → Bool
  named w = same (name_of text w) n

  abbrev at : ℕ → ℕ
  at i = get_or ws i 0

  pub named_member : (k p : ℕ) → first_named text ws (classes_at + (k * class_words + (names_at + (p * kind_words + 0)))) 1 (member_count ws k p) n ≡ member_place (members_of text ws k p) n
  unfolding first_named member_place members_of member_at class_word
  named_member k p =
      first_same named (λ (m : Member). same m.name n) (λ i. at (classes_at + (k * class_words + (names_at + (p * kind_words + 0))) + i * 1)) (member_at text ws k p)
      (λ j. let e : classes_at + (k * class_words + (names_at + (p * kind_words + 0))) + j * 1 ≡ classes_at + (k * class_words + (names_at + (p * kind_words + j))) = omega arith in ap (λ (i : ℕ). named (at i)) e)
      (member_count ws k p)

  pub named_class : first_named text ws classes_at class_words (class_count ws) n ≡ class_number (library_of text ws) n
  unfolding first_named class_number library_of class_of class_word
  named_class =
      first_same named (λ (c : Class). same c.name n) (λ i. at (classes_at + i * class_words)) (class_of text ws)
      (λ j. let e : classes_at + j * class_words ≡ classes_at + (j * class_words + 0) = omega arith in ap (λ (i : ℕ). named (at i)) e) (class_count ws)

  pub named_object : first_named text ws objects_at object_words (object_count ws) n ≡ first_at (λ o. same o.name n) (library_of text ws).objects
  unfolding first_named library_of object_of object_word
  named_object =
      first_same named (λ (o : Object). same o.name n) (λ i. at (objects_at + i * object_words)) (object_of text ws)
      (λ j. let e : objects_at + j * object_words ≡ objects_at + (j * object_words + 0) = omega arith in ap (λ (i : ℕ). named (at i)) e) (object_count ws)

-- ---- the number of members that a class shows

module _ (ws : List ℕ) (c p : ℕ) where
  pub shown_le : shown_count ws c p ≤ 32
  unfolding shown_count member_count
  shown_le = go (ltb c (class_count ws))
    where
      go : (t : Bool) → cond t (member_count ws c p) 0 ≤ 32
      go true = omega arith
      go false = omega arith

  -- A class that has a member is one of the library's.
  pub shown_class : (j : ℕ) → j < shown_count ws c p → c < class_count ws
  unfolding shown_count
  shown_class j = go (ltb c (class_count ws)) refl
    where
      go : (t : Bool) → ltb c (class_count ws) ≡ t → j < cond t (member_count ws c p) 0 → c < class_count ws
      go true e h = ltb-true c (class_count ws) e
      go false e h = absurd (omega arith)

-- Where the place found is not needed apart from n.
pub found_or : (r : Option ℕ) (p n : ℕ) → Found r p n → p ≤ n → unwrap_or r n ≡ p
found_or (Some x) p n h l = h.0
found_or None p n h l = omega arith

pub first_named_le : (text ws : List ℕ) (from step n : ℕ) (name : Name) → first_named text ws from step n name ≤ n
unfolding first_named
first_named_le text ws from step n name =
    let word : ℕ → ℕ = λ i. get_or ws (from + i * step) 0 in
    omega (arith, first_within (λ w. same (name_of text w) name) (upto word n), length_upto word n)
