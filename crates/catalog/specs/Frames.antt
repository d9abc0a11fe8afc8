-- What is unchanged where only words of one class, or only one of its rows, are changed, and the library that results.
use Rattle.std.specs.Prelude.{ℕ, ◌+◌, ◌*◌, ◌≤◌, ◌<◌, ◌≡◌, ◌≢◌, Bool, List, [], ◌∷◌, ◌++◌, length, get_or, set}
use Rattle.std.proofs.Math.Path.{refl}
use Rattle.std.proofs.Common.{ap, ◌∙◌, arith, length-set, get_or-set_same, get_or-set_other}
use Rattle.std.proofs.Math.Bool.{true, false}
use Rattle.std.proofs.Math.Dec.{ltb}
use borrow.Author.Tests.{ltb-true, ltb-false}
use Rattle.layout.specs.Layout.{class_count_at, names_at, bodies_at, kind_words, read_masks_at, class_words, classes_at, table_words}
use Rattle.model.specs.Base.{alter}
use Rattle.model.specs.Library.{Class, Library}
use Rattle.catalog.specs.View.{class_word, class_count, members_of, class_of, library_of}
use Rattle.catalog.specs.Store.{Unaltered, unaltered_then, unaltered_set, members_same, class_same, classes_same, classes_added, classes_altered, statements_same, objects_same}
use Rattle.catalog.specs.Rows.{name_place, count_place, with_member, with_count}

-- Only words of class c are changed.
pub record Around (ws : List ℕ) (c : ℕ) (ws' : List ℕ) : Type 0 where
  pub size : length ws' ≡ length ws
  pub low : Unaltered 0 (classes_at + c * class_words) ws ws'
  pub high : Unaltered (classes_at + class_words + c * class_words) table_words ws ws'

pub around_then : {ws : List ℕ} {c : ℕ} {ws₁ ws₂ : List ℕ} → Around ws c ws₁ → Around ws₁ c ws₂ → Around ws c ws₂
around_then {ws} {c} {ws₁} {ws₂} h k = record {
  size = k.size ∙ h.size;
  low = unaltered_then 0 (classes_at + c * class_words) ws ws₁ ws₂ h.low k.low;
  high = unaltered_then (classes_at + class_words + c * class_words) table_words ws ws₁ ws₂ h.high k.high;
}

pub around_set : (ws : List ℕ) (c i v : ℕ) → i < class_words → Around ws c (set ws (classes_at + (c * class_words + i)) v)
around_set ws c i v h = record {
  size = length-set ws (classes_at + (c * class_words + i)) v;
  low = unaltered_set 0 (classes_at + c * class_words) ws (classes_at + (c * class_words + i)) v (λ p q. omega arith);
  high = unaltered_set (classes_at + class_words + c * class_words) table_words ws (classes_at + (c * class_words + i)) v (λ p q. omega arith);
}

-- Only row p of class c and its count are changed.
pub record Kept (ws : List ℕ) (c p : ℕ) (ws' : List ℕ) : Type 0 where
  pub around : Around ws c ws'
  pub first : Unaltered (classes_at + c * class_words) (count_place c p) ws ws'
  pub between : Unaltered (count_place c p + 1) (name_place c p 0) ws ws'
  pub last : Unaltered (name_place c p 64) (classes_at + class_words + c * class_words) ws ws'

pub kept_refl : (ws : List ℕ) (c p : ℕ) → Kept ws c p ws
kept_refl ws c p = record {
  around = record { size = refl; low = λ i p q. refl; high = λ i p q. refl };
  first = λ i p q. refl;
  between = λ i p q. refl;
  last = λ i p q. refl;
}

pub kept_then : {ws : List ℕ} {c p : ℕ} {ws₁ ws₂ : List ℕ} → Kept ws c p ws₁ → Kept ws₁ c p ws₂ → Kept ws c p ws₂
kept_then {ws} {c} {p} {ws₁} {ws₂} h k = record {
  around = around_then h.around k.around;
  first = unaltered_then (classes_at + c * class_words) (count_place c p) ws ws₁ ws₂ h.first k.first;
  between = unaltered_then (count_place c p + 1) (name_place c p 0) ws ws₁ ws₂ h.between k.between;
  last = unaltered_then (name_place c p 64) (classes_at + class_words + c * class_words) ws ws₁ ws₂ h.last k.last;
}

-- A store in the row, at its count or at a word of a member.
kept_set : (ws : List ℕ) (c p i v : ℕ) → p < 2 → i < read_masks_at → (i ≢ 1 + p → i < names_at + p * kind_words → ⊥) → (i ≢ 1 + p → names_at + kind_words + p * kind_words ≤ i → ⊥)
    → Kept ws c p (set ws (classes_at + (c * class_words + i)) v)
kept_set ws c p i v h l m n =
    let a = classes_at + (c * class_words + i) in
    record {
      around = around_set ws c i v (omega arith);
      first = unaltered_set (classes_at + c * class_words) (count_place c p) ws a v (λ q r. m (λ z. omega arith) (omega arith));
      between = unaltered_set (count_place c p + 1) (name_place c p 0) ws a v (λ q r. m (λ z. omega arith) (omega arith));
      last = unaltered_set (name_place c p 64) (classes_at + class_words + c * class_words) ws a v (λ q r. n (λ z. omega arith) (omega arith));
    }

module _ (ws : List ℕ) (c p : ℕ) (h : p < 2) where
  pub kept_count : (n : ℕ) → Kept ws c p (with_count ws c p n)
  kept_count n = kept_set ws c p (1 + p) n h (omega arith) (λ d q. d refl) (λ d q. d refl)

  pub kept_member : (j w b : ℕ) → j < 32 → Kept ws c p (with_member ws c p j w b)
  kept_member j w b l =
      kept_then
      (kept_set ws c p (names_at + (p * kind_words + j)) w h (omega arith) (λ d q. omega arith) (λ d q. omega arith))
      (kept_set (set ws (name_place c p j) w) c p (bodies_at + (p * kind_words + j)) b h (omega arith) (λ d q. omega arith) (λ d q. omega arith))

-- ---- the view of what is unchanged

-- A library with other classes.
abbrev pub with_classes : Library → List Class → Library
with_classes l cs = record { classes = cs; statements = l.statements; objects = l.objects }

module _ {ws : List ℕ} {c p : ℕ} {ws' : List ℕ} (h : Kept ws c p ws') where
  pub kept_word : (i : ℕ) → i < 8 → i ≢ 1 + p → class_word ws' c i ≡ class_word ws c i
  unfolding class_word
  kept_word i l d = side (ltb i (1 + p)) refl
    where
      side : (t : Bool) → ltb i (1 + p) ≡ t → class_word ws' c i ≡ class_word ws c i
      side true t = h.first (classes_at + (c * class_words + i)) (omega arith) (omega (arith, ltb-true i (1 + p) t))
      side false t = h.between (classes_at + (c * class_words + i)) (omega (arith, ltb-false i (1 + p) t)) (omega arith)

module _ (text : List ℕ) {ws : List ℕ} {c : ℕ} {ws' : List ℕ} where
  pub kept_methods : Kept ws c 0 ws' → members_of text ws' c 1 ≡ members_of text ws c 1
  kept_methods h = members_same text ws ws' c 1 (kept_word h 2 (omega arith) (λ e. omega arith)) (λ i p q. h.last i (omega arith) (omega arith))

  pub kept_fields : Kept ws c 1 ws' → members_of text ws' c 0 ≡ members_of text ws c 0
  kept_fields h = members_same text ws ws' c 0 (kept_word h 1 (omega arith) (λ e. omega arith)) (λ i p q. h.between i (omega arith) (omega arith))

  module _ (h : Around ws c ws') where
    pub around_class : (k : ℕ) → k < 16 → k ≢ c → class_of text ws' k ≡ class_of text ws k
    around_class k l d = side (ltb k c) refl
      where
        side : (t : Bool) → ltb k c ≡ t → class_of text ws' k ≡ class_of text ws k
        side true t = let m = ltb-true k c t in class_same text ws ws' k (λ i p q. h.low i (omega arith) (omega arith))
        side false t = let m = ltb-false k c t in class_same text ws ws' k (λ i p q. h.high i (omega arith) (omega arith))

    same_statements : c < 16 → (library_of text ws').statements ≡ (library_of text ws).statements
    same_statements l = statements_same text ws ws' (h.low 1 (omega arith) (omega arith)) (λ j p q. h.high j (omega arith) (omega arith))

    same_objects : c < 16 → (library_of text ws').objects ≡ (library_of text ws).objects
    same_objects l = objects_same text ws ws' (h.low 2 (omega arith) (omega arith)) (λ j p q. h.high j (omega arith) (omega arith))

    -- A class that is not counted yet is changed.
    pub around_library : class_count ws ≡ c → c < 16 → library_of text ws' ≡ library_of text ws
    around_library e l = λ i. record {
      classes = classes_same text ws ws' (h.low 0 (omega arith) (omega arith)) (λ j p q. h.low j (omega arith) (omega arith)) i;
      statements = same_statements (omega arith) i;
      objects = same_objects (omega arith) i;
    }

    -- A counted class is changed.
    pub around_altered : (g : Class → Class) → c < class_count ws → class_of text ws' c ≡ g (class_of text ws c)
        → library_of text ws' ≡ with_classes (library_of text ws) (alter c g (library_of text ws).classes)
    around_altered g l e = λ i. record {
      classes =
          classes_altered text ws ws' g c l (h.low 0 (omega arith) (omega arith)) (λ j p q. h.low j (omega arith) (omega arith))
          (λ j p q. h.high j (omega arith) (omega arith)) e i;
      statements = same_statements (omega arith) i;
      objects = same_objects (omega arith) i;
    }

    -- The class after the last is changed and then counted.
    pub around_added : class_count ws ≡ c → c < 16 → 0 < length ws
        → library_of text (set ws' class_count_at (c + 1)) ≡ with_classes (library_of text ws) ((library_of text ws).classes ++ (class_of text ws' c ∷ []))
    around_added e l z =
        let ws₂ = set ws' class_count_at (c + 1) in
        λ i. record {
          classes =
              (classes_added text ws ws₂ c e l (get_or-set_same ws' 0 (c + 1) 0 (omega (arith, h.size)))
              (λ j p q. other j (omega arith) ∙ h.low j (omega arith) (omega arith))
              ∙ ap (λ (k : Class). (library_of text ws).classes ++ (k ∷ [])) (class_same text ws' ws₂ c (λ j p q. other j (omega arith)))) i;
          statements = (statements_same text ws' ws₂ (other 1 (omega arith)) (λ j p q. other j (omega arith)) ∙ same_statements l) i;
          objects = (objects_same text ws' ws₂ (other 2 (omega arith)) (λ j p q. other j (omega arith)) ∙ same_objects l) i;
        }
      where
        other : (j : ℕ) → 0 < j → get_or (set ws' class_count_at (c + 1)) j 0 ≡ get_or ws' j 0
        other j q = get_or-set_other ws' 0 j (c + 1) 0 (λ r. omega arith)
