-- The loops that join rows: a turn, a turn that finds no room, and the end.
use Prim.Native.Nat.{ℕ, zero, suc, ◌+◌, ◌*◌, ◌≤◌, ◌<◌}
use mathlib.Core.Path.{◌≡◌, refl, sym, ap, ap₂, ◌∙◌}
use mathlib.Core.Bool.{Bool, true, false, cond}
use mathlib.Core.List.{List, [], ◌∷◌}
use native.Mathlib.Nat.{not-suc-le-zero}
use native.Mathlib.Omega.{arith}
use lib.ListN.{length}
use lib.Dec.{eqb, ltb}
use borrow.Author.Tests.{eqb-true, eqb-false, ltb-true}
use Rattle.layout.specs.Layout.{names_at, bodies_at, kind_words, class_words, classes_at}
use Rattle.model.specs.Base.{fold, upto}
use Rattle.model.specs.Word.{Name}
use Rattle.model.specs.Library.{Member, Library, class_number, class_at, class_name, joined}
use Rattle.catalog.specs.View.{class_word, class_count, member_count, member_in, member_at, members_of, library_of}
use Rattle.catalog.specs.Store.{member_same}
use Rattle.catalog.specs.Frames.{Kept, around_library}
use Rattle.catalog.specs.Look.{part, shown_count, shown_members}
use Rattle.read_classes.specs.Joins.{Making, Joined, MemberJoined, ClassJoined, inherited_behind, joined_more, joined_grows, behind_grows, joined_from, joined_over, joined_done}

-- Joining more members does not shorten the row.
joined_mono : (ms : List Member) (f : ℕ → Member) (j n : ℕ) → j ≤ n → length (joined ms (upto f j)) ≤ length (joined ms (upto f n))
joined_mono ms f j zero h = let e : j ≡ zero = omega arith in rw e (omega arith)
joined_mono ms f j (suc n) h = side (eqb j (suc n)) refl (joined_mono ms f j n)
  where
    side : (t : Bool) → eqb j (suc n) ≡ t → (j ≤ n → length (joined ms (upto f j)) ≤ length (joined ms (upto f n)))
        → length (joined ms (upto f j)) ≤ length (joined ms (upto f (suc n)))
    side true t r = rw (eqb-true j (suc n) t) (omega arith)
    side false t r =
        let e : n + 1 ≡ suc n = omega arith in
        let k = ap (λ (i : ℕ). length (joined ms (upto f i))) e in
        omega (arith, r (omega (arith, eqb-false j (suc n) t)), ap length (joined_more ms f n), joined_grows (joined ms (upto f n)) (f n ∷ []))

module _ (text ws₀ : List ℕ) (c p d : ℕ) (m : Making ws₀ c p) where
  -- The row of the class with the first j members of class d.
  abbrev pub joined_to : ℕ → List Member
  joined_to j = joined (members_of text ws₀ c p) (upto (member_at text ws₀ d p) j)

  shown_below : (j : ℕ) → j < shown_count ws₀ d p → (d < c) × (j < 32)
  unfolding shown_count member_count
  shown_below j h = side (ltb d (class_count ws₀)) refl h
    where
      side : (t : Bool) → ltb d (class_count ws₀) ≡ t → j < cond t (member_count ws₀ d p) 0 → (d < c) × (j < 32)
      side true t k = (omega (arith, ltb-true d (class_count ws₀) t, m.uncounted), omega arith)
      side false t k = absurd (not-suc-le-zero k)

  module _ (ws : List ℕ) (j : ℕ) (h : j < shown_count ws₀ d p) (k : Kept ws₀ c p ws) (e : members_of text ws c p ≡ joined_to j) where
    -- Class d is unchanged.
    member_kept : member_at text ws d p j ≡ member_at text ws₀ d p j
    unfolding class_word
    member_kept =
        let b = shown_below j h in
        let l = m.room.kind in
        member_same text ws₀ ws d p j
        (k.around.low (classes_at + (d * class_words + (names_at + (p * kind_words + j)))) (omega arith) (omega arith))
        (k.around.low (classes_at + (d * class_words + (bodies_at + (p * kind_words + j)))) (omega arith) (omega arith))

    module _ (w b : ℕ) (u : w ≡ class_word ws d (names_at + (p * kind_words + j))) (v : b ≡ class_word ws d (bodies_at + (p * kind_words + j))) (over : Bool) (ws' : List ℕ)
        (t : MemberJoined text ws c p w b over ws') where
      pub join_turn : Joined text ws₀ c p (joined_to (j + 1)) over ws'
      unfolding member_at
      join_turn =
          joined_from k
          (ap₂ (λ (l : List Member) (x : Member). joined l (x ∷ [])) e (ap₂ (member_in text) u v ∙ member_kept)
          ∙ sym (joined_more (members_of text ws₀ c p) (member_at text ws₀ d p) j))
          t

      pub join_over : over ≡ true → ClassJoined text ws₀ c p d true ws'
      join_over z =
          let s = shown_members text ws₀ d p m.room.kind in
          joined_over _ z
          (omega (
            arith,
            joined_mono (members_of text ws₀ c p) (member_at text ws₀ d p) (j + 1) (shown_count ws₀ d p) (omega arith),
            ap (λ (l : List Member). length (joined (members_of text ws₀ c p) l)) s,
          ))
          join_turn

  pub join_end : (ws : List ℕ) (j : ℕ) → j ≡ shown_count ws₀ d p → Kept ws₀ c p ws → members_of text ws c p ≡ joined_to j
      → ClassJoined text ws₀ c p d false ws
  join_end ws j h k e =
      joined_from k
      (ap (λ (i : ℕ). joined_to i) h ∙ ap (joined (members_of text ws₀ c p)) (sym (shown_members text ws₀ d p m.room.kind)))
      (joined_done text ws c p (joined_to j) e)

module _ (text ws₀ : List ℕ) (c p : ℕ) (m : Making ws₀ c p) where
  -- The members that the class has in the end, if it has these now and those names are left.
  abbrev pub inherited_to : List Member → List Name → List Member
  inherited_to ms ps = inherited_behind p (library_of text ws₀) ms ps

  module _ (ws : List ℕ) (k : Kept ws₀ c p ws) (n : Name) (d : ℕ) (u : d ≡ class_number (library_of text ws) n) (over : Bool) (ws' : List ℕ)
      (t : ClassJoined text ws c p d over ws') (ps : List Name) where
    parent_row : joined (members_of text ws c p) (part p (class_at (library_of text ws) d)) ≡ joined (members_of text ws c p) (part p (class_name (library_of text ws₀) n))
    unfolding class_name
    parent_row =
        let e = around_library text k.around m.uncounted m.room.class in
        ap (joined (members_of text ws c p)) (ap₂ (λ (l : Library) (i : ℕ). part p (class_at l i)) e (u ∙ ap (λ (l : Library). class_number l n) e))

    pub inherit_turn : over ≡ false → inherited_to (members_of text ws' c p) ps ≡ inherited_to (members_of text ws c p) (n ∷ ps)
    unfolding inherited_behind fold
    inherit_turn z = ap (λ (ms : List Member). inherited_to ms ps) (t.made z ∙ parent_row)

    pub inherit_over : over ≡ true → (l : List Member) → inherited_to (members_of text ws c p) (n ∷ ps) ≡ l → Joined text ws₀ c p l true ws'
    unfolding inherited_behind fold
    inherit_over z l e =
        joined_over l z
        (omega (arith, behind_grows p (library_of text ws₀) (joined (members_of text ws c p) (part p (class_name (library_of text ws₀) n))) ps, ap length e))
        (joined_from k parent_row t)

  pub inherit_end : (ws : List ℕ) → Kept ws₀ c p ws → (l : List Member) → inherited_to (members_of text ws c p) [] ≡ l → Joined text ws₀ c p l false ws
  unfolding inherited_behind fold
  inherit_end ws k l e = joined_from k e (joined_done text ws c p (members_of text ws c p) refl)
