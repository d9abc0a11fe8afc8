-- Words that two tables share: what a store leaves unchanged, and that members, classes and the lists of a library depend on
-- their own words only.
use Prim.Native.Nat.{ℕ, ◌+◌, ◌*◌, ◌/◌, ◌%◌, ◌≤◌, ◌<◌}
use Rattle.std.specs.Prelude.{◌≡◌, Bool, ◌≢◌, List, [], ◌∷◌, ◌++◌, set}
use Rattle.std.proofs.Math.Path.{refl, ap, ap₂}
use Rattle.std.proofs.Common.{sym, ◌∙◌, get_or-set_other}
use Rattle.std.proofs.Math.Bool.{true, false}
use native.Mathlib.Omega.{arith}
use Rattle.std.proofs.Math.ListN.{get_or}
use Rattle.std.proofs.Math.Dec.{ltb}
use borrow.Author.Tests.{ltb-true, ltb-false}
use Rattle.layout.specs.Layout.{class_count_at, statement_count_at, object_count_at, member_counts_at, names_at, bodies_at, kind_words, read_masks_at, class_words, object_words, classes_at, objects_at, statements_at, table_words}
use Rattle.model.specs.Base.{upto, alter}
use Rattle.model.specs.Text.{words}
use Rattle.model.specs.Form.{form_of}
use Rattle.model.specs.Library.{Class, Placed}
use Rattle.catalog.specs.View.{name_of, part_of, class_word, object_word, statement_word, class_count, statement_count, object_count, member_count, statement_in, numbers_in, member_in, member_at, members_of, class_of, placed_of, object_of, library_of}
use Rattle.laws.specs.Bits.{bit}
use Rattle.laws.specs.Upto.{upto_same, upto_grown, upto_alter}

-- The words from one place to another, the last excluded, are the same in both tables.
abbrev pub Unaltered : ℕ → ℕ → List ℕ → List ℕ → Type 0
Unaltered from end ws ws' = (i : ℕ) → from ≤ i → i < end → get_or ws' i 0 ≡ get_or ws i 0

pub unaltered_then : (from end : ℕ) (ws ws₁ ws₂ : List ℕ) → Unaltered from end ws ws₁ → Unaltered from end ws₁ ws₂ → Unaltered from end ws ws₂
unaltered_then from end ws ws₁ ws₂ h k i p q = k i p q ∙ h i p q

pub unaltered_set : (from end : ℕ) (ws : List ℕ) (j v : ℕ) → (from ≤ j → j < end → ⊥) → Unaltered from end ws (set ws j v)
unaltered_set from end ws j v h i p q = get_or-set_other ws j i v 0 (λ e. h (omega arith) (omega arith))

module _ (text ws ws' : List ℕ) where
  -- ---- members and classes

  module _ (k p : ℕ) where
    pub member_same : (j : ℕ) → class_word ws' k (names_at + (p * kind_words + j)) ≡ class_word ws k (names_at + (p * kind_words + j))
        → class_word ws' k (bodies_at + (p * kind_words + j)) ≡ class_word ws k (bodies_at + (p * kind_words + j)) → member_at text ws' k p j ≡ member_at text ws k p j
    unfolding member_at
    member_same j h e = ap₂ (member_in text) h e

    pub members_same : class_word ws' k (member_counts_at + p) ≡ class_word ws k (member_counts_at + p) → Unaltered (classes_at + (k * class_words + (names_at + p * kind_words))) (classes_at + (k * class_words + (names_at + kind_words + p * kind_words))) ws ws'
        → members_of text ws' k p ≡ members_of text ws k p
    unfolding members_of member_count class_word
    members_same e h =
        let n : member_count ws' k p ≡ member_count ws k p = omega arith in
        ap (upto (member_at text ws' k p)) n
        ∙ upto_same (member_at text ws k p) (member_at text ws' k p) (member_count ws k p)
        (λ j l. member_same j (h (classes_at + (k * class_words + (names_at + (p * kind_words + j)))) (omega arith) (omega arith)) (h (classes_at + (k * class_words + (bodies_at + (p * kind_words + j)))) (omega arith) (omega arith)))

  pub class_same : (k : ℕ) → Unaltered (classes_at + k * class_words) (classes_at + read_masks_at + k * class_words) ws ws' → class_of text ws' k ≡ class_of text ws k
  unfolding class_of class_word
  class_same k h = λ i. record {
    name = name_of text (word 0 (omega arith) i);
    ancestors = bit (word 3 (omega arith) i);
    fields = members_same k 0 (word 1 (omega arith)) (λ j p q. h j (omega arith) (omega arith)) i;
    methods = members_same k 1 (word 2 (omega arith)) (λ j p q. h j (omega arith) (omega arith)) i;
    latest = word 4 (omega arith) i;
  }
    where
      word : (j : ℕ) → j < read_masks_at → class_word ws' k j ≡ class_word ws k j
      word j l = h (classes_at + (k * class_words + j)) (omega arith) (omega arith)

  -- ---- the three lists of a library

  pub classes_same : get_or ws' class_count_at 0 ≡ get_or ws class_count_at 0 → Unaltered classes_at (classes_at + class_count ws * class_words) ws ws' → (library_of text ws').classes ≡ (library_of text ws).classes
  unfolding library_of
  classes_same e h =
      let n : class_count ws' ≡ class_count ws = omega arith in
      ap (upto (class_of text ws')) n
      ∙ upto_same (class_of text ws) (class_of text ws') (class_count ws) (λ k l. class_same k (λ i p q. h i (omega arith) (omega arith)))

  pub classes_added : (c : ℕ) → class_count ws ≡ c → c < 16 → get_or ws' class_count_at 0 ≡ c + 1 → Unaltered classes_at (classes_at + c * class_words) ws ws'
      → (library_of text ws').classes ≡ (library_of text ws).classes ++ (class_of text ws' c ∷ [])
  unfolding library_of
  classes_added c e l n h =
      upto_grown (class_of text ws) (class_of text ws') c (class_count ws') (omega arith) (λ k q. class_same k (λ i p r. h i (omega arith) (omega arith)))
      ∙ ap (λ (m : ℕ). upto (class_of text ws) m ++ (class_of text ws' c ∷ [])) (sym e)

  pub classes_altered : (g : Class → Class) (c : ℕ) → c < class_count ws → get_or ws' class_count_at 0 ≡ get_or ws class_count_at 0 → Unaltered classes_at (classes_at + c * class_words) ws ws'
      → Unaltered (classes_at + class_words + c * class_words) objects_at ws ws' → class_of text ws' c ≡ g (class_of text ws c) → (library_of text ws').classes ≡ alter c g (library_of text ws).classes
  unfolding library_of
  classes_altered g c l e h k a =
      let n : class_count ws' ≡ class_count ws = omega arith in
      ap (upto (class_of text ws')) n
      ∙ upto_alter (class_of text ws) (class_of text ws') g (class_count ws) c l a (λ j q d. class_same j (λ i p r. other j q d i p r))
    where
      other : (j : ℕ) → j < class_count ws → j ≢ c → (i : ℕ) → classes_at + j * class_words ≤ i → i < classes_at + read_masks_at + j * class_words → get_or ws' i 0 ≡ get_or ws i 0
      other j q d i p r = side (ltb j c) refl
        where
          side : (t : Bool) → ltb j c ≡ t → get_or ws' i 0 ≡ get_or ws i 0
          side true t = h i (omega arith) (omega (arith, ltb-true j c t))
          side false t = k i (omega (arith, ltb-false j c t)) (omega arith)

  pub statement_same : (s : ℕ) → statement_word ws' s ≡ statement_word ws s → placed_of text ws' s ≡ placed_of text ws s
  unfolding placed_of
  statement_same s e =
      let said : ℕ → Placed = λ w. record { statement = statement_in (form_of (words (part_of text w))); at = w / 65536; size = w % 65536 } in
      ap said e

  pub statements_same : get_or ws' statement_count_at 0 ≡ get_or ws statement_count_at 0 → Unaltered statements_at table_words ws ws' → (library_of text ws').statements ≡ (library_of text ws).statements
  unfolding library_of statement_word
  statements_same e h =
      let n : statement_count ws' ≡ statement_count ws = omega arith in
      ap (upto (placed_of text ws')) n
      ∙ upto_same (placed_of text ws) (placed_of text ws') (statement_count ws) (λ s l. statement_same s (h (statements_at + s) (omega arith) (omega arith)))

  pub statements_added : (n : ℕ) → statement_count ws ≡ n → n < 4096 → get_or ws' statement_count_at 0 ≡ n + 1 → Unaltered statements_at (statements_at + n) ws ws'
      → (library_of text ws').statements ≡ (library_of text ws).statements ++ (placed_of text ws' n ∷ [])
  unfolding library_of statement_word
  statements_added n e l m h =
      upto_grown (placed_of text ws) (placed_of text ws') n (statement_count ws') (omega arith) (λ s q. statement_same s (h (statements_at + s) (omega arith) (omega arith)))
      ∙ ap (λ (k : ℕ). upto (placed_of text ws) k ++ (placed_of text ws' n ∷ [])) (sym e)

  pub object_same : (o : ℕ) → Unaltered (objects_at + o * object_words) (objects_at + object_words + o * object_words) ws ws' → object_of text ws' o ≡ object_of text ws o
  unfolding object_of object_word
  object_same o h = λ i. record {
    name = name_of text (h (objects_at + (o * object_words + 0)) (omega arith) (omega arith) i);
    class = h (objects_at + (o * object_words + 1)) (omega arith) (omega arith) i;
    values = numbers_in (part_of text (h (objects_at + (o * object_words + 3)) (omega arith) (omega arith) i));
  }

  pub objects_same : get_or ws' object_count_at 0 ≡ get_or ws object_count_at 0 → Unaltered objects_at statements_at ws ws' → (library_of text ws').objects ≡ (library_of text ws).objects
  unfolding library_of
  objects_same e h =
      let n : object_count ws' ≡ object_count ws = omega arith in
      ap (upto (object_of text ws')) n
      ∙ upto_same (object_of text ws) (object_of text ws') (object_count ws) (λ o l. object_same o (λ i p q. h i (omega arith) (omega arith)))

  pub objects_added : (n : ℕ) → object_count ws ≡ n → n < 64 → get_or ws' object_count_at 0 ≡ n + 1 → Unaltered objects_at (objects_at + n * object_words) ws ws'
      → (library_of text ws').objects ≡ (library_of text ws).objects ++ (object_of text ws' n ∷ [])
  unfolding library_of
  objects_added n e l m h =
      upto_grown (object_of text ws) (object_of text ws') n (object_count ws') (omega arith) (λ o q. object_same o (λ i p r. h i (omega arith) (omega arith)))
      ∙ ap (λ (k : ℕ). upto (object_of text ws) k ++ (object_of text ws' n ∷ [])) (sym e)
