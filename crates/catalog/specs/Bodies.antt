-- The body of a class's method by name, in two look-ups: of the class that defines the method, and of the method there.
use Prim.Native.Nat.{ℕ, ◌+◌, ◌*◌, ◌/◌, ◌%◌, ◌≤◌, ◌<◌}
use Rattle.std.specs.Prelude.{◌≡◌, Bool, ◌&&◌}
use Rattle.std.proofs.Math.Path.{refl, sym, ap}
use Rattle.std.proofs.Common.{◌∙◌, arith, lt-ltb, le-ltb, ltb-true, ltb-false}
use Rattle.std.proofs.Math.Bool.{true, false, cond}
use Rattle.std.proofs.Math.Option.{Option, none, some}
use mathlib.Core.List.{List, [], map}
use Rattle.std.proofs.Math.ListN.{length, get_or, length-map, get_or-map, get_or-eq_default}
use Rattle.std.proofs.Math.Dec.{eqb, ltb}
use Rattle.layout.specs.Layout.{names_at, bodies_at, kind_words, method_names_at, origin_unit}
use Rattle.model.specs.Word.{Name}
use Rattle.model.specs.Library.{Member, Class, no_member, class_at, member, member_place, among, as_recorded}
use Rattle.catalog.specs.View.{name_of, class_word, class_count, member_count, member_at, members_of, class_of, library_of}
use Rattle.laws.specs.Upto.{get_d_upto}
use Rattle.catalog.specs.Look.{shown_count, class_count_law, class_at_law, class_past, member_count_law, among_place}
use Rattle.std.specs.Prelude as rust
use Rattle.std.specs.Prelude.{Some, None}
use Rattle.catalog.specs.declared.body.Statements.{Statements}

-- The member of that name, or none.
abbrev pub found : List Member → Name → Option Member
found ms m = cond (among ms m) (some (member ms m)) none

-- The body of a class's method of that name; none where there is no such class or method.
unfoldable pub body_in : List ℕ → List ℕ → ℕ → Name → Option Member
unfolding library_of as_recorded member among
body_in text tables c m =
    let l = library_of text tables in
    found (class_at l (as_recorded l c m)).methods m

-- Whether class c exists and has a method at place k whose name's word is w.
unfoldable pub named_at : List ℕ → ℕ → ℕ → ℕ → Bool
unfolding member_count class_word
named_at tables c k w = ltb c (class_count tables) && ltb k (member_count tables c 1) && eqb (class_word tables c (method_names_at + k) % origin_unit) w

-- The same body by the method's place, where the class has that name there; else by its name. On the tables of a text both are
-- equal, for inherited methods too (body-at in crates/machine_refinement/specs/Tables.antt); by its place the method is found at
-- once.
unfoldable pub body_at : List ℕ → List ℕ → ℕ → ℕ → ℕ → Option Member
unfolding named_at member_at body_in name_of
body_at text tables c k w = cond (named_at tables c k w) (some (member_at text tables c 1 k)) (body_in text tables c (name_of text w))

-- The statements of a body: its first, and the one past its last.
pub record Bounds (m : Member) (first end : ℕ) : Type 0 where
  pub first_is : first ≡ m.first
  pub end_is : end ≡ m.first + m.count

-- The answer for a body that may be missing.
abbrev pub bounds_of : Option Member → rust.Option Statements
bounds_of none = None
bounds_of (some m) = Some (record { first = m.first; end = m.first + m.count })

bounds_found : (m : Member) (s : Statements) → Bounds m s.first s.end → Some s ≡ bounds_of (some m)
bounds_found m s b = λ i. Some (record { first = b.first_is i; end = b.end_is i })

-- The class that defines the method at place j of class k; the number of classes where there is no method there.
unfoldable pub origin_at : List ℕ → ℕ → ℕ → ℕ
unfolding shown_count class_word
origin_at tables k j = cond (ltb j (shown_count tables k 1)) (class_word tables k (names_at + (1 * kind_words + j)) / origin_unit) (class_count tables)

-- The method is at place j of class k, by a look-up that does not test whether there is such a class.
module _ (text tables : List ℕ) (k : ℕ) (n : Name) (j : ℕ) (e : j ≡ member_place (members_of text tables k 1) n) where
  abbrev methods : List Member
  methods = (class_at (library_of text tables) k).methods

  all_shown : ltb k (class_count tables) ≡ true → methods ≡ members_of text tables k 1
  unfolding class_of
  all_shown t = ap (λ (c : Class). c.methods) (class_at_law text tables k (ltb-true k (class_count tables) t))

  none_shown : ltb k (class_count tables) ≡ false → methods ≡ []
  none_shown t = ap (λ (c : Class). c.methods) (class_past text tables k (ltb-false k (class_count tables) t))

  module _ (h : j < shown_count tables k 1) where
    there : (methods ≡ members_of text tables k 1) × (j < member_count tables k 1)
    unfolding shown_count
    there = side (ltb k (class_count tables)) refl h
      where
        side : (t : Bool) → ltb k (class_count tables) ≡ t → j < cond t (member_count tables k 1) 0 → (methods ≡ members_of text tables k 1) × (j < member_count tables k 1)
        side true t l = (all_shown t, l)
        side false t l = absurd (omega arith)

    at_place : (d : Member) → get_or methods (member_place methods n) d ≡ member_at text tables k 1 j
    unfolding members_of
    at_place d =
        ap (λ (ms : List Member). get_or ms (member_place ms n) d) there.0
        ∙ ap (λ (i : ℕ). get_or (members_of text tables k 1) i d) (sym e)
        ∙ get_d_upto (member_at text tables k 1) (member_count tables k 1) j d there.1

    origin_there : as_recorded (library_of text tables) k n ≡ class_word tables k (names_at + (1 * kind_words + j)) / 1048576
    unfolding as_recorded member_at
    origin_there =
        let d : Member = record { origin = length (library_of text tables).classes; name = []; first = 0; count = 0 } in
        get_or-map (λ (m : Member). m.origin) methods (member_place methods n) d ∙ ap (λ (m : Member). m.origin) (at_place d)

    there_among : among methods n ≡ true
    there_among =
        ap (λ (ms : List Member). among ms n) there.0
        ∙ among_place (members_of text tables k 1) n
        ∙ lt-ltb (member_place (members_of text tables k 1) n) (length (members_of text tables k 1)) (omega (arith, e, there.1, member_count_law text tables k 1))

    pub found_there : found methods n ≡ some (member_at text tables k 1 j)
    unfolding member
    found_there = rw there_among (ap some (at_place no_member))

  module _ (h : shown_count tables k 1 ≤ j) where
    not_there : length methods ≤ member_place methods n
    unfolding shown_count
    not_there = side (ltb k (class_count tables)) refl h
      where
        side : (t : Bool) → ltb k (class_count tables) ≡ t → cond t (member_count tables k 1) 0 ≤ j → length methods ≤ member_place methods n
        side true t l = rw (all_shown t) (omega (arith, member_count_law text tables k 1))
        side false t l = rw (none_shown t) (omega arith)

    origin_none : as_recorded (library_of text tables) k n ≡ class_count tables
    unfolding as_recorded
    origin_none =
        let f : Member → ℕ = λ m. m.origin in
        get_or-eq_default (map f methods) (length (library_of text tables).classes) (omega (arith, not_there, length-map methods f))
        ∙ class_count_law text tables

    pub found_none : found methods n ≡ none
    found_none = rw (among_place methods n, le-ltb (member_place methods n) (length methods) not_there)

  origin_is : origin_at tables k j ≡ as_recorded (library_of text tables) k n
  unfolding origin_at
  origin_is = go (ltb j (shown_count tables k 1)) refl
    where
      go : (t : Bool) → ltb j (shown_count tables k 1) ≡ t
          → cond t (class_word tables k (names_at + (1 * kind_words + j)) / 1048576) (class_count tables) ≡ as_recorded (library_of text tables) k n
      go true t = sym (origin_there (ltb-true j (shown_count tables k 1) t))
      go false t = sym (origin_none (ltb-false j (shown_count tables k 1) t))

-- The body of class c's method n, which is at place i there and which class k defines.
module _ (text tables : List ℕ) (c k : ℕ) (n : Name) (i : ℕ) (f : i ≡ member_place (members_of text tables c 1) n) (a : k ≡ origin_at tables c i) where
  o : k ≡ as_recorded (library_of text tables) c n
  o = a ∙ origin_is text tables c n i f

  body_by : (m : Option Member) → found (class_at (library_of text tables) k).methods n ≡ m → body_in text tables c n ≡ m
  unfolding body_in
  body_by m e = ap (λ (d : ℕ). found (class_at (library_of text tables) d).methods n) (sym o) ∙ e

  module _ (j : ℕ) (e : j ≡ member_place (members_of text tables k 1) n) where
    pub body_there : (s : Statements) → Bounds (member_at text tables k 1 j) s.first s.end → j < shown_count tables k 1 → Some s ≡ bounds_of (body_in text tables c n)
    body_there s b h =
        bounds_found (member_at text tables k 1 j) s b ∙ sym (ap bounds_of (body_by (some (member_at text tables k 1 j)) (found_there text tables k n j e h)))

    pub body_none : shown_count tables k 1 ≤ j → None ≡ bounds_of (body_in text tables c n)
    body_none h = sym (ap bounds_of (body_by none (found_none text tables k n j e h)))

-- The class has no method of that name, or the class that defines it shows none.
module _ (text tables : List ℕ) (c : ℕ) (n : Name) where
  shown_le : (k : ℕ) → shown_count tables k 1 ≤ member_count tables k 1
  unfolding shown_count
  shown_le k = go (ltb k (class_count tables))
    where
      go : (t : Bool) → cond t (member_count tables k 1) 0 ≤ member_count tables k 1
      go true = omega arith
      go false = omega arith

  past_none : shown_count tables (class_count tables) 1 ≡ 0
  unfolding shown_count
  past_none = rw (le-ltb (class_count tables) (class_count tables) (omega arith))

  pub body_missing : member_count tables c 1 ≤ member_place (members_of text tables c 1) n → None ≡ bounds_of (body_in text tables c n)
  unfolding origin_at
  body_missing h =
      let i = member_place (members_of text tables c 1) n in
      let k = class_count tables in
      let a : k ≡ origin_at tables c i = rw (le-ltb i (shown_count tables c 1) (omega (arith, shown_le c))) in
      body_none text tables c k n i refl a (member_place (members_of text tables k 1) n) refl (omega (arith, past_none))

  pub body_missing_in : (i : ℕ) → i ≡ member_place (members_of text tables c 1) n → (k : ℕ) → k ≡ origin_at tables c i
      → member_count tables k 1 ≤ member_place (members_of text tables k 1) n → None ≡ bounds_of (body_in text tables c n)
  body_missing_in i f k a h =
      body_none text tables c k n i f a (member_place (members_of text tables k 1) n) refl (omega (arith, shown_le k))

-- The word of a method's body.
pub word_bounds : (text tables : List ℕ) (k j w : ℕ) → w ≡ class_word tables k (bodies_at + (1 * kind_words + j)) → Bounds (member_at text tables k 1 j) (w / 64) (w / 64 + w % 64)
unfolding member_at
word_bounds text tables k j w q = rw q (record { first_is = refl; end_is = refl })

-- The test of the method at place k of class c, which shows n methods.
module _ (tables : List ℕ) (c k w n : ℕ) (m : n ≡ shown_count tables c 1) where
  shown_test : (ltb c (class_count tables) && ltb k (member_count tables c 1)) ≡ ltb k n
  unfolding shown_count
  shown_test = go (ltb c (class_count tables)) ∙ ap (ltb k) (sym m)
    where
      go : (t : Bool) → (t && ltb k (member_count tables c 1)) ≡ ltb k (cond t (member_count tables c 1) 0)
      go true = refl
      go false = sym (le-ltb k 0 (omega arith))

  name_test : (t : Bool) → ltb k n ≡ t → (t && eqb (class_word tables c (method_names_at + k) % 1048576) w) ≡ named_at tables c k w
  unfolding named_at
  name_test t h = ap (λ (u : Bool). u && eqb (class_word tables c (method_names_at + k) % 1048576) w) (sym (shown_test ∙ h))

  pub named_none : n ≤ k → false ≡ named_at tables c k w
  named_none h = name_test false (le-ltb k n h)

  pub named_there : k < n → (x : ℕ) → x ≡ class_word tables c (names_at + (1 * kind_words + k)) → eqb (x % 1048576) w ≡ named_at tables c k w
  named_there h x q =
      let at : names_at + (1 * kind_words + k) ≡ method_names_at + k = omega arith in
      ap (λ (y : ℕ). eqb (y % 1048576) w) (q ∙ ap (class_word tables c) at) ∙ name_test true (lt-ltb k n h)

-- The method by its place, or by its name.
module _ (text tables : List ℕ) (c k w : ℕ) (t : Bool) (e : t ≡ named_at tables c k w) where
  pub by_place : t ≡ true → (s : Statements) → Bounds (member_at text tables c 1 k) s.first s.end → Some s ≡ bounds_of (body_at text tables c k w)
  unfolding body_at
  by_place h s b = rw (← e, h) (bounds_found (member_at text tables c 1 k) s b)

  pub by_name : t ≡ false → (name : Name) → name ≡ name_of text w → (r : rust.Option Statements) → r ≡ bounds_of (body_in text tables c name) → r ≡ bounds_of (body_at text tables c k w)
  unfolding body_at
  by_name h name n r b = rw (← e, h, ← n) b
