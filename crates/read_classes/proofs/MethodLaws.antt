-- Defining a method in a class, at the place of its name or after the last, and the two ways in which it is refused.
use Prim.Native.Nat.{ℕ, zero, suc, ◌+◌, ◌*◌, ◌/◌, ◌%◌, ◌≤◌, ◌<◌}
use mathlib.Core.Path.{◌≡◌, refl, sym, ap, subst, ◌∙◌}
use mathlib.Core.Logic.{◌≢◌}
use mathlib.Core.Bool.{Bool, true, false, not, cond, ◌&&◌}
use mathlib.Core.List.{List, [], ◌∷◌, ◌++◌}
use native.Mathlib.Nat.{not-suc-le-zero}
use native.Mathlib.Omega.{arith}
use lib.ListN.{length, get_or, set, length-append}
use lib.Dec.{eqb, leb, ltb, leb-suc-suc}
use borrow.Author.Tests.{lt-ltb, le-ltb, ltb-true, ltb-false}
use Rattle.layout.specs.Layout.{names_at, kind_words, class_words, classes_at}
use Rattle.model.specs.Base.{same, first_at, alter}
use Rattle.model.specs.Word.{Name}
use Rattle.model.specs.Library.{Member, no_member, member_place, member, among, written, with_method}
use Rattle.model.specs.Fault.{writes, method_fault}
use Rattle.catalog.specs.View.{name_of, class_word, statement_count, member_count, member_in, member_at, members_of, class_of}
use Rattle.laws.specs.Bits.{bit}
use Rattle.laws.specs.Upto.{first_within}
use Rattle.catalog.specs.Store.{unaltered_set, members_same}
use Rattle.catalog.specs.Rows.{with_member, members_altered}
use Rattle.catalog.specs.Frames.{around_then, around_set, kept_refl, kept_member, kept_word, kept_fields}
use Rattle.catalog.specs.Look.{member_count_law, member_at_law, among_place}
use Rattle.read_classes.specs.Made.{MethodAdded}
use Rattle.read_classes.specs.Joins.{Room, Joined, Appended, joined_from}
use Rattle.read_classes.proofs.MakeLaws.{word_here, word_other}

-- ---- lists

length_alter : {A : Type 0} (j : ℕ) (g : A → A) (xs : List A) → length (alter j g xs) ≡ length xs
unfolding alter
length_alter j g [] = refl
length_alter zero g (x ∷ xs) = refl
length_alter (suc j) g (x ∷ xs) = ap suc (length_alter j g xs)

module _ (m : Member) where
  written_at : (ms : List Member) → member_place ms m.name < length ms → written m ms ≡ alter (member_place ms m.name) (λ k. m) ms
  unfolding member_place first_at written alter
  written_at [] h = absurd (not-suc-le-zero h)
  written_at (k ∷ ms) h = side (same k.name m.name) h (written_at ms)
    where
      place : ℕ
      place = first_at (λ (x : Member). same x.name m.name) ms

      side : (t : Bool) → cond t 0 (suc place) < suc (length ms) → (place < length ms → written m ms ≡ alter place (λ k. m) ms)
          → cond t (m ∷ ms) (k ∷ written m ms) ≡ alter (cond t 0 (suc place)) (λ k. m) (k ∷ ms)
      side true l r = refl
      side false l r = ap (λ (xs : List Member). k ∷ xs) (r (omega arith))

  written_behind : (ms : List Member) → member_place ms m.name ≡ length ms → written m ms ≡ ms ++ (m ∷ [])
  unfolding member_place first_at written
  written_behind [] h = refl
  written_behind (k ∷ ms) h = side (same k.name m.name) h (written_behind ms)
    where
      place : ℕ
      place = first_at (λ (x : Member). same x.name m.name) ms

      side : (t : Bool) → cond t 0 (suc place) ≡ suc (length ms) → (place ≡ length ms → written m ms ≡ ms ++ (m ∷ []))
          → cond t (m ∷ ms) (k ∷ written m ms) ≡ (k ∷ ms) ++ (m ∷ [])
      side true l r = absurd (omega arith)
      side false l r = ap (λ (xs : List Member). k ∷ xs) (r (omega arith))

-- The place of an equal name.
pub place_of : (ms : List Member) {m n : Name} {place : ℕ} → place ≡ member_place ms m → m ≡ n → place ≡ member_place ms n
place_of ms h e = h ∙ ap (member_place ms) e

pub place_within : (ms : List Member) (n : Name) → member_place ms n ≤ length ms
unfolding member_place
place_within ms n = first_within (λ (x : Member). same x.name n) ms

-- There is no room for a method exactly if it is new and the row is full.
no_room : (m : Member) (ms : List Member) → length ms ≤ 32 → ltb 32 (length (written m ms)) ≡ (not (among ms m.name) && leb 32 (length ms))
no_room m ms h = side (ltb (member_place ms m.name) (length ms)) refl
  where
    side : (t : Bool) → ltb (member_place ms m.name) (length ms) ≡ t → ltb 32 (length (written m ms)) ≡ (not (among ms m.name) && leb 32 (length ms))
    side true t =
        let l = ltb-true (member_place ms m.name) (length ms) t in
        le-ltb 32 (length (written m ms)) (omega (arith, ap length (written_at m ms l), length_alter (member_place ms m.name) (λ k. m) ms))
        ∙ sym (ap (λ (b : Bool). not b && leb 32 (length ms)) (among_place ms m.name ∙ t))
    side false t =
        let l = ltb-false (member_place ms m.name) (length ms) t in
        let e : length (written m ms) ≡ suc (length ms) =
        omega (arith, ap length (written_behind m ms (omega (arith, place_within ms m.name))), length-append ms (m ∷ [])) in
        ap (ltb 32) e ∙ leb-suc-suc 32 (length ms) ∙ sym (ap (λ (b : Bool). not b && leb 32 (length ms)) (among_place ms m.name ∙ t))

-- ---- one row

module _ (text ws : List ℕ) (c : ℕ) where
  abbrev row : List Member
  row = members_of text ws c 1

  -- Whether the class itself defines the method at a place.
  module _ (n : Name) (place : ℕ) (e : place ≡ member_place (members_of text ws c 1) n) where
    pub writes_there : place < member_count ws c 1 → (w : ℕ) → w ≡ class_word ws c (names_at + (1 * kind_words + place)) → eqb (w / 1048576) c ≡ writes c (class_of text ws c) n
    unfolding writes member class_of member_at
    writes_there h w d =
        let t : among row n ≡ true = among_place row n ∙ lt-ltb (member_place row n) (length row) (omega (arith, member_count_law text ws c 1)) in
        let m : member row n ≡ member_at text ws c 1 place = ap (λ (i : ℕ). get_or row i no_member) (sym e) ∙ member_at_law text ws c 1 place h in
        ap (λ (x : ℕ). eqb (x / 1048576) c) d ∙ (λ i. sym t i && eqb (sym m i).origin c)

    pub writes_not : member_count ws c 1 ≤ place → false ≡ writes c (class_of text ws c) n
    unfolding writes class_of
    writes_not h =
        let t : among row n ≡ false = among_place row n ∙ le-ltb (member_place row n) (length row) (omega (arith, member_count_law text ws c 1)) in
        λ i. sym t i && eqb (member row n).origin c

  module _ (w b place : ℕ) (e : place ≡ member_place (members_of text ws c 1) (name_of text w)) where
    pub write_there : Room ws c 1 → place < member_count ws c 1 → (ws' : List ℕ) → ws' ≡ with_member ws c 1 place w b
        → Joined text ws c 1 (written (member_in text w b) (members_of text ws c 1)) false ws'
    unfolding member_count
    write_there r h ws' d =
        let m = member_in text w b in
        let p = written_at m row (omega (arith, member_count_law text ws c 1)) in
        subst (λ (t : List ℕ). Joined text ws c 1 (written m row) false t) (sym d)
        (record {
          kept = kept_member ws c 1 (omega arith) place w b (omega arith);
          many =
              sym
              (le-ltb 32 (length (written m row))
              (omega (arith, ap length p, length_alter (member_place row (name_of text w)) (λ k. m) row, member_count_law text ws c 1)));
          made = λ z. members_altered text ws c 1 place w b (omega (arith, r.class, r.words)) h ∙ ap (λ (i : ℕ). alter i (λ k. m) row) e ∙ sym p;
        })

    pub write_behind : member_count ws c 1 ≤ place → (over : Bool) (ws' : List ℕ) → Appended text ws c 1 w b over ws'
        → Joined text ws c 1 (written (member_in text w b) (members_of text ws c 1)) over ws'
    write_behind h over ws' t =
        joined_from (kept_refl ws c 1)
        (sym (written_behind (member_in text w b) row (omega (arith, place_within row (name_of text w), member_count_law text ws c 1))))
        t

  -- ---- the class

  module _ (w : ℕ) where
    fault : {a b : Bool} → writes c (class_of text ws c) (name_of text w) ≡ a
        → (not (among (members_of text ws c 1) (name_of text w)) && leb 32 (length (members_of text ws c 1))) ≡ b
        → cond a 13 (cond b 17 0) ≡ method_fault c (class_of text ws c) (name_of text w)
    unfolding method_fault class_of
    fault p q = λ i. cond (sym p i) 13 (cond (sym q i) 17 0)

    pub method_known : (t : Bool) → t ≡ writes c (class_of text ws c) (name_of text w) → t ≡ true → (ws' : List ℕ)
        → MethodAdded text ws c w 13 ws'
    method_known t e z ws' = record { number = fault (sym e ∙ z) refl; around = λ y. absurd (omega arith); class = λ y. absurd (omega arith) }

    module _ (t : Bool) (e : t ≡ writes c (class_of text ws c) (name_of text w)) (z : t ≡ false) (b : ℕ) (k : b ≡ statement_count ws * 64) (over : Bool) (ws₁ : List ℕ)
        (j : Joined text ws c 1 (written (member_in text w b) (members_of text ws c 1)) over ws₁) where
      full : (not (among (members_of text ws c 1) (name_of text w)) && leb 32 (length (members_of text ws c 1))) ≡ over
      unfolding member_count
      full = sym (j.many ∙ no_room (member_in text w b) row (omega (arith, member_count_law text ws c 1)))

      pub method_over : over ≡ true → (ws' : List ℕ) → MethodAdded text ws c w 17 ws'
      method_over y ws' = record { number = fault (sym e ∙ z) (full ∙ y); around = λ x. absurd (omega arith); class = λ x. absurd (omega arith) }

      module _ (y : over ≡ false) (r : Room ws c 1) (place : ℕ) (p : place ≡ member_place (members_of text ws c 1) (name_of text w)) (ws' : List ℕ)
          (d : ws' ≡ set ws₁ (classes_at + (c * class_words + 4)) place) where
        new : Member
        new = record { origin = w / 1048576; name = name_of text w; first = statement_count ws; count = 0 }

        new_member : member_in text w b ≡ new
        unfolding new
        new_member =
            let f : b / 64 ≡ statement_count ws = omega arith in
            let n : b % 64 ≡ 0 = omega arith in
            λ i. record { origin = w / 1048576; name = name_of text w; first = f i; count = n i }

        class_is : class_of text (set ws₁ (classes_at + (c * class_words + 4)) place) c ≡ with_method (w / 1048576) (name_of text w) (statement_count ws) (class_of text ws c)
        unfolding class_of with_method new
        class_is =
            let ws₂ = set ws₁ (classes_at + (c * class_words + 4)) place in
            let other : (i : ℕ) → i < 8 → i ≢ 2 → i ≢ 4 → class_word ws₂ c i ≡ class_word ws c i =
            λ i l q o. word_other ws₁ c place 4 i o ∙ kept_word j.kept i l q in
            λ i. record {
              name = name_of text (other 0 (omega arith) (λ q. omega arith) (λ q. omega arith) i);
              ancestors = bit (other 3 (omega arith) (λ q. omega arith) (λ q. omega arith) i);
              fields =
                  (members_same text ws₁ ws₂ c 0 (word_other ws₁ c place 4 1 (λ q. omega arith)) (unaltered_set _ _ ws₁ _ place (λ q o. omega arith))
                  ∙ kept_fields text j.kept) i;
              methods =
                  (members_same text ws₁ ws₂ c 1 (word_other ws₁ c place 4 2 (λ q. omega arith)) (unaltered_set _ _ ws₁ _ place (λ q o. omega arith))
                  ∙ j.made y ∙ ap (λ (m : Member). written m row) new_member) i;
              latest = (word_here ws₁ c place 4 r.class (omega arith) (j.kept.around.size ∙ r.words) ∙ p) i;
            }

        pub method_made : MethodAdded text ws c w 0 ws'
        method_made =
            subst (λ (ws₂ : List ℕ). MethodAdded text ws c w 0 ws₂) (sym d)
            (record {
              number = fault (sym e ∙ z) (full ∙ y);
              around = λ x. around_then j.kept.around (around_set ws₁ c 4 place (omega arith));
              class = λ x. class_is;
            })
