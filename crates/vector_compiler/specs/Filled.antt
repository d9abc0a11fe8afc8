-- What the tables hold once their masks are filled in, and which of their words that leaves unchanged.
use Rattle.std.specs.Prelude.{ℕ, ◌+◌, ◌*◌, ◌≤◌, ◌<◌, ◌≡◌, refl, Bool, true, false, List, [], length, get_or, set, ltb}
use Rattle.std.proofs.Common.{sym, subst, ◌∙◌, arith, length-set, get_or-set_other, ltb-true, ltb-false}
use Rattle.std.proofs.Math.Path.{ap}
use Rattle.layout.specs.Layout.{read_masks_at, write_masks_at, commuting_at, add_masks_at, class_words, classes_at, objects_at, table_words}
use Rattle.model.specs.Base.{upto}
use Rattle.model.specs.Library.{Library, as_recorded}
use Rattle.model.specs.Vector.{Vector, vectors_of, program, program_by}
use Rattle.model.specs.Image.{read_mask, write_mask, add_mask, commute_mask}
use Rattle.laws.specs.Lists.{upto_at}
use Rattle.catalog.specs.View.{class_word, class_count, member_count, class_of, library_of}
use Rattle.laws.specs.Upto.{upto_same}
use Rattle.catalog.specs.Store.{Unaltered, unaltered_then, class_same, statements_same, objects_same}
use Rattle.catalog.specs.Look.{class_count_law}

-- ---- which words are altered

-- Only the words from one place up to another are altered.
pub record Within (from end : ℕ) (ws ws' : List ℕ) : Type 0 where
  pub size : length ws' ≡ length ws
  pub low : (i : ℕ) → i < from → get_or ws' i 0 ≡ get_or ws i 0
  pub high : (i : ℕ) → end ≤ i → get_or ws' i 0 ≡ get_or ws i 0

-- Only mask words are altered.
pub record OnlyMasks (ws ws' : List ℕ) : Type 0 where
  pub size : length ws' ≡ length ws
  pub counts : Unaltered 0 8 ws ws'
  pub class : (k : ℕ) → k < 16 → Unaltered (classes_at + k * class_words) (classes_at + read_masks_at + k * class_words) ws ws'
  pub rest : (i : ℕ) → objects_at ≤ i → get_or ws' i 0 ≡ get_or ws i 0

module _ (from end : ℕ) where
  pub within_none : (ws : List ℕ) → Within from end ws ws
  within_none ws = record { size = refl; low = λ i h. refl; high = λ i h. refl }

  pub within_set : (ws : List ℕ) (i v : ℕ) → from ≤ i → i < end → Within from end ws (set ws i v)
  within_set ws i v h l = record {
    size = length-set ws i v;
    low = λ j k. get_or-set_other ws i j v 0 (λ e. omega arith);
    high = λ j k. get_or-set_other ws i j v 0 (λ e. omega arith);
  }

  pub within_then : {ws ws₁ ws₂ : List ℕ} → Within from end ws ws₁ → Within from end ws₁ ws₂ → Within from end ws ws₂
  within_then h k = record { size = k.size ∙ h.size; low = λ i l. k.low i l ∙ h.low i l; high = λ i l. k.high i l ∙ h.high i l }

pub masks_none : (ws : List ℕ) → OnlyMasks ws ws
masks_none ws = record { size = refl; counts = λ i h l. refl; class = λ k m i h l. refl; rest = λ i h. refl }

pub masks_then : {ws ws₁ ws₂ : List ℕ} → OnlyMasks ws ws₁ → OnlyMasks ws₁ ws₂ → OnlyMasks ws ws₂
masks_then {ws} {ws₁} {ws₂} h k = record {
  size = k.size ∙ h.size;
  counts = unaltered_then 0 8 ws ws₁ ws₂ h.counts k.counts;
  class = λ c l. unaltered_then (classes_at + c * class_words) (classes_at + read_masks_at + c * class_words) ws ws₁ ws₂ (h.class c l) (k.class c l);
  rest = λ i l. k.rest i l ∙ h.rest i l;
}

-- Only mask words of class c are altered.
abbrev pub MasksOf : ℕ → List ℕ → List ℕ → Type 0
MasksOf c ws ws' = Within (classes_at + read_masks_at + c * class_words) (classes_at + class_words + c * class_words) ws ws'

pub masks_of_class : (c : ℕ) (ws ws' : List ℕ) → c < 16 → MasksOf c ws ws' → OnlyMasks ws ws'
masks_of_class c ws ws' l h = record {
  size = h.size;
  counts = λ i m n. h.low i (omega arith);
  class = in_class;
  rest = λ i m. h.high i (omega arith);
}
  where
    in_class : (k : ℕ) → k < 16 → Unaltered (classes_at + k * class_words) (classes_at + read_masks_at + k * class_words) ws ws'
    in_class k m i p q = go (ltb c k) refl
      where
        go : (t : Bool) → ltb c k ≡ t → get_or ws' i 0 ≡ get_or ws i 0
        go true t = h.high i (omega (arith, ltb-true c k t))
        go false t = h.low i (omega (arith, ltb-false c k t))

module _ {ws ws' : List ℕ} (h : OnlyMasks ws ws') where
  pub same_classes : class_count ws' ≡ class_count ws
  same_classes = omega (arith, h.counts 0 (omega arith) (omega arith))

  pub same_methods : (k : ℕ) → k < 16 → member_count ws' k 1 ≡ member_count ws k 1
  unfolding member_count class_word
  same_methods k l = omega (arith, h.class k l (classes_at + (k * class_words + (1 + 1))) (omega arith) (omega arith))

  pub same_library : (text : List ℕ) → library_of text ws' ≡ library_of text ws
  unfolding library_of
  same_library text = λ i. record {
    classes = classes i;
    statements = statements_same text ws ws' (h.counts 1 (omega arith) (omega arith)) (λ j p q. h.rest j (omega arith)) i;
    objects = objects_same text ws ws' (h.counts 2 (omega arith) (omega arith)) (λ j p q. h.rest j (omega arith)) i;
  }
    where
      classes : upto (class_of text ws') (class_count ws') ≡ upto (class_of text ws) (class_count ws)
      classes =
          ap (upto (class_of text ws')) same_classes
          ∙ upto_same (class_of text ws) (class_of text ws') (class_count ws) (λ k l. class_same text ws ws' k (h.class k (omega arith)))

-- ---- what they hold

abbrev pub vectors_in : Library → ℕ → List Vector
vectors_in l c = vectors_of l (as_recorded l) c

-- The masks of method j of class c, where the class's methods have the vectors vs.
pub record MethodMasks (vs : List Vector) (c j : ℕ) (ws : List ℕ) : Type 0 where
  pub read : class_word ws c (read_masks_at + j) ≡ read_mask (get_or vs j [])
  pub write : class_word ws c (write_masks_at + j) ≡ write_mask (get_or vs j [])
  pub commuting : class_word ws c (commuting_at + j) ≡ commute_mask vs (get_or vs j [])
  pub add : class_word ws c (add_masks_at + j) ≡ add_mask (get_or vs j [])

-- The masks of every method of every class of the library in the tables are stored, and no other word is altered. (Shorter
-- tables have no room for them.)
pub record Filled (text ws ws' : List ℕ) : Type 0 where
  pub only : OnlyMasks ws ws'
  pub library : library_of text ws' ≡ library_of text ws
  pub masks : table_words ≤ length ws → (c j : ℕ) → c < class_count ws → j < member_count ws c 1 → MethodMasks (vectors_in (library_of text ws) c) c j ws'

-- They are those of the library's program.
pub program_masks : (text ws ws' : List ℕ) → Filled text ws ws' → table_words ≤ length ws → (c j : ℕ) → c < class_count ws → j < member_count ws c 1
    → MethodMasks (get_or (program (library_of text ws)).vectors c []) c j ws'
unfolding program program_by
program_masks text ws ws' f size c j known below =
    let l = library_of text ws in
    let e = upto_at (vectors_in l) [] (length l.classes) c (omega (arith, class_count_law text ws)) in
    subst (λ (vs : List Vector). MethodMasks vs c j ws') (sym e) (f.masks size c j known below)
