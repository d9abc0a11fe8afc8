-- Tables that differ only in what a start works out besides the masks: they represent the same library, and count the same values.
use Rattle.std.specs.Prelude.{ℕ, zero, suc, ◌+◌, ◌*◌, ◌≤◌, ◌<◌, ◌/◌, ◌%◌, ◌≡◌, Bool, ◌||◌, List, length, set}
use Rattle.std.proofs.Math.Path.{refl, ap}
use Rattle.std.proofs.Common.{ap₂, ◌∙◌, arith, length-set, get_or-set_same, get_or-set_other}
use Rattle.std.proofs.Math.Bool.{true, false, cond}
use Rattle.std.proofs.Math.Dec.{eqb, ltb}
use borrow.Author.Tests.{ltb-true}
use Rattle.layout.specs.Layout.{domain_at, class_words, object_class_at, object_values_at, object_line_at, object_words, classes_at, objects_at, statements_at, table_words, class_count_at, statement_count_at, object_count_at}
use Rattle.model.specs.Base.{upto}
use Rattle.model.specs.Image.{mask}
use Rattle.catalog.specs.View.{name_of, part_of, class_word, object_word, class_count, object_count, member_count, numbers_in, class_of, object_of, library_of, statement_word, statement_count, statement_in, placed_of}
use Rattle.laws.specs.Bits.{bit}
use Rattle.laws.specs.Upto.{upto_same}
use Rattle.catalog.specs.Store.{Unaltered, unaltered_set, members_same}
use Rattle.catalog.specs.Look.{shown_count}
use Rattle.output.specs.Each.{total}
use Rattle.machine_start.specs.Worked.{belongs, domain_mask, values_of, first_value}
use Rattle.model.specs.Text.{words}
use Rattle.model.specs.Form.{form_of}

-- Only the head's number of values, text length and mark, each class's domain and each object's first value are altered; the counts of
-- classes, statements and objects are the same, as far as there is room.
pub record Beside (ws ws' : List ℕ) : Type 0 where
  pub size : length ws' ≡ length ws
  pub classes : class_count ws' ≡ class_count ws
  pub statement_count_law : statement_count ws' ≡ statement_count ws
  pub objects : object_count ws' ≡ object_count ws
  pub low : (k : ℕ) → k < 16 → Unaltered (classes_at + k * class_words) (classes_at + domain_at + k * class_words) ws ws'
  pub high : (k : ℕ) → k < 16 → Unaltered (classes_at + domain_at + 1 + k * class_words) (classes_at + class_words + k * class_words) ws ws'
  pub object : (o : ℕ) → o < 64 → Unaltered (objects_at + o * object_words) (objects_at + object_values_at + o * object_words) ws ws'
  pub line : (o : ℕ) → o < 64 → Unaltered (objects_at + object_line_at + o * object_words) (objects_at + object_words + o * object_words) ws ws'
  pub statements : Unaltered statements_at table_words ws ws'

pub beside_none : (ws : List ℕ) → Beside ws ws
beside_none ws = record {
  size = refl;
  classes = refl;
  statement_count_law = refl;
  objects = refl;
  low = λ k l i p q. refl;
  high = λ k l i p q. refl;
  object = λ o l i p q. refl;
  line = λ o l i p q. refl;
  statements = λ i p q. refl;
}

pub beside_then : {ws ws₁ ws₂ : List ℕ} → Beside ws ws₁ → Beside ws₁ ws₂ → Beside ws ws₂
beside_then h k = record {
  size = k.size ∙ h.size;
  classes = k.classes ∙ h.classes;
  statement_count_law = k.statement_count_law ∙ h.statement_count_law;
  objects = k.objects ∙ h.objects;
  low = λ c l i p q. k.low c l i p q ∙ h.low c l i p q;
  high = λ c l i p q. k.high c l i p q ∙ h.high c l i p q;
  object = λ o l i p q. k.object o l i p q ∙ h.object o l i p q;
  line = λ o l i p q. k.line o l i p q ∙ h.line o l i p q;
  statements = λ i p q. k.statements i p q ∙ h.statements i p q;
}

-- ---- a store at each of these words

module _ (ws : List ℕ) where
  -- The counts, by their words.
  abbrev Counts : List ℕ → Type 0
  Counts ws' = (class_count ws' ≡ class_count ws) × (statement_count ws' ≡ statement_count ws) × (object_count ws' ≡ object_count ws)

  same_counts : (j v : ℕ) → 3 ≤ j → Counts (set ws j v)
  same_counts j v m =
      let a = get_or-set_other ws j class_count_at v 0 (λ e. omega arith) in
      let b = get_or-set_other ws j statement_count_at v 0 (λ e. omega arith) in
      let c = get_or-set_other ws j object_count_at v 0 (λ e. omega arith) in
      (omega arith, omega arith, omega arith)

  beside_set : (j v : ℕ) → Counts (set ws j v) → j < statements_at → ((k : ℕ) → k < 16 → classes_at + k * class_words ≤ j → j < classes_at + class_words + k * class_words → j ≡ classes_at + domain_at + k * class_words)
      → ((o : ℕ) → o < 64 → objects_at + o * object_words ≤ j → j < objects_at + object_words + o * object_words → j ≡ objects_at + object_values_at + o * object_words) → Beside ws (set ws j v)
  beside_set j v counts n class object = record {
    size = length-set ws j v;
    classes = counts.0;
    statement_count_law = counts.1;
    objects = counts.2;
    low = λ k l. unaltered_set (classes_at + k * class_words) (classes_at + domain_at + k * class_words) ws j v (λ p q. omega (arith, class k l (omega arith) (omega arith)));
    high = λ k l. unaltered_set (classes_at + domain_at + 1 + k * class_words) (classes_at + class_words + k * class_words) ws j v (λ p q. omega (arith, class k l (omega arith) (omega arith)));
    object = λ o l. unaltered_set (objects_at + o * object_words) (objects_at + object_values_at + o * object_words) ws j v (λ p q. omega (arith, object o l (omega arith) (omega arith)));
    line = λ o l. unaltered_set (objects_at + object_line_at + o * object_words) (objects_at + object_words + o * object_words) ws j v (λ p q. omega (arith, object o l (omega arith) (omega arith)));
    statements = unaltered_set statements_at table_words ws j v (λ p q. omega arith);
  }

  pub beside_header : (j v : ℕ) → 3 ≤ j → j < 8 → Beside ws (set ws j v)
  beside_header j v m n = beside_set j v (same_counts j v m) (omega arith) (λ k l p q. omega arith) (λ o l p q. omega arith)

  pub beside_domain : (c v : ℕ) → c < 16 → Beside ws (set ws (classes_at + (c * class_words + 5)) v)
  beside_domain c v m = beside_set (classes_at + (c * class_words + 5)) v (same_counts (classes_at + (c * class_words + 5)) v (omega arith)) (omega arith) (λ k l p q. omega arith) (λ o l p q. omega arith)

  pub beside_place : (x v : ℕ) → x < 64 → Beside ws (set ws (objects_at + (x * object_words + 2)) v)
  beside_place x v m = beside_set (objects_at + (x * object_words + 2)) v (same_counts (objects_at + (x * object_words + 2)) v (omega arith)) (omega arith) (λ k l p q. omega arith) (λ o l p q. omega arith)

  -- A count written again, as far as there is room.
  module _ (long : table_words ≤ length ws) where
    beside_count : (j v : ℕ) → j < 3 → Counts (set ws j v) → Beside ws (set ws j v)
    beside_count j v m counts = beside_set j v counts (omega arith) (λ k l p q. omega arith) (λ o l p q. omega arith)

    pub beside_class_count : Beside ws (set ws class_count_at (class_count ws))
    beside_class_count =
        let a = get_or-set_same ws class_count_at (class_count ws) 0 (omega arith) in
        let b = get_or-set_other ws class_count_at statement_count_at (class_count ws) 0 (λ e. omega arith) in
        let c = get_or-set_other ws class_count_at object_count_at (class_count ws) 0 (λ e. omega arith) in
        beside_count class_count_at (class_count ws) (omega arith) (omega arith, omega arith, omega arith)

    pub beside_statement_count : Beside ws (set ws statement_count_at (statement_count ws))
    beside_statement_count =
        let a = get_or-set_other ws statement_count_at class_count_at (statement_count ws) 0 (λ e. omega arith) in
        let b = get_or-set_same ws statement_count_at (statement_count ws) 0 (omega arith) in
        let c = get_or-set_other ws statement_count_at object_count_at (statement_count ws) 0 (λ e. omega arith) in
        beside_count statement_count_at (statement_count ws) (omega arith) (omega arith, omega arith, omega arith)

    pub beside_object_count : Beside ws (set ws object_count_at (object_count ws))
    beside_object_count =
        let a = get_or-set_other ws object_count_at class_count_at (object_count ws) 0 (λ e. omega arith) in
        let b = get_or-set_other ws object_count_at statement_count_at (object_count ws) 0 (λ e. omega arith) in
        let c = get_or-set_same ws object_count_at (object_count ws) 0 (omega arith) in
        beside_count object_count_at (object_count ws) (omega arith) (omega arith, omega arith, omega arith)

-- ---- what is the same

-- Sums of the same numbers are equal.
pub total_below : (f g : ℕ → ℕ) (n : ℕ) → ((k : ℕ) → k < n → g k ≡ f k) → total g n ≡ total f n
unfolding total
total_below f g zero h = refl
total_below f g (suc n) h = ap₂ ◌+◌ (total_below f g n (λ k l. h k (omega arith))) (h n (omega arith))

module _ {ws ws' : List ℕ} (h : Beside ws ws') where
  pub beside_classes : class_count ws' ≡ class_count ws
  beside_classes = h.classes

  pub beside_objects : object_count ws' ≡ object_count ws
  beside_objects = h.objects

  -- A class's words before its domain are the same.
  pub beside_low : (k i : ℕ) → k < 16 → i < 5 → class_word ws' k i ≡ class_word ws k i
  unfolding class_word
  beside_low k i l m = h.low k l (classes_at + (k * class_words + i)) (omega arith) (omega arith)

  pub beside_high : (k i : ℕ) → k < 16 → 6 ≤ i → i < class_words → class_word ws' k i ≡ class_word ws k i
  unfolding class_word
  beside_high k i l m n = h.high k l (classes_at + (k * class_words + i)) (omega arith) (omega arith)

  pub beside_class : (o : ℕ) → o < 64 → object_word ws' o object_class_at ≡ object_word ws o object_class_at
  unfolding object_word
  beside_class o l = h.object o l (objects_at + (o * object_words + 1)) (omega arith) (omega arith)

  pub beside_members : (k p : ℕ) → k < 16 → p < 2 → member_count ws' k p ≡ member_count ws k p
  unfolding member_count
  beside_members k p l m = omega (arith, beside_low k (1 + p) l (omega arith))

  -- ---- the library

  class_beside : (text : List ℕ) (k : ℕ) → k < 16 → class_of text ws' k ≡ class_of text ws k
  unfolding class_of
  class_beside text k l = λ i. record {
    name = name_of text (beside_low k 0 l (omega arith) i);
    ancestors = bit (beside_low k 3 l (omega arith) i);
    fields = members_same text ws ws' k 0 (beside_low k 1 l (omega arith)) (λ j p q. h.high k l j (omega arith) (omega arith)) i;
    methods = members_same text ws ws' k 1 (beside_low k 2 l (omega arith)) (λ j p q. h.high k l j (omega arith) (omega arith)) i;
    latest = beside_low k 4 l (omega arith) i;
  }

  object_beside : (text : List ℕ) (o : ℕ) → o < 64 → object_of text ws' o ≡ object_of text ws o
  unfolding object_of object_word
  object_beside text o l = λ i. record {
    name = name_of text (h.object o l (objects_at + (o * object_words + 0)) (omega arith) (omega arith) i);
    class = h.object o l (objects_at + (o * object_words + 1)) (omega arith) (omega arith) i;
    values = numbers_in (part_of text (h.line o l (objects_at + (o * object_words + 3)) (omega arith) (omega arith) i));
  }

  pub beside_library : (text : List ℕ) → library_of text ws' ≡ library_of text ws
  unfolding library_of placed_of statement_word
  beside_library text = λ i. record {
    classes = classes i;
    statements = statements i;
    objects = objects i;
  }
    where
      classes : upto (class_of text ws') (class_count ws') ≡ upto (class_of text ws) (class_count ws)
      classes =
          ap (upto (class_of text ws')) beside_classes
          ∙ upto_same (class_of text ws) (class_of text ws') (class_count ws) (λ k l. class_beside text k (omega arith))

      placed : (s : ℕ) → s < statement_count ws → placed_of text ws' s ≡ placed_of text ws s
      placed s l =
          ap (λ (w : ℕ). record { statement = statement_in (form_of (words (part_of text w))); at = w / 65536; size = w % 65536 })
          (h.statements (statements_at + s) (omega arith) (omega arith))

      statements : upto (placed_of text ws') (statement_count ws') ≡ upto (placed_of text ws) (statement_count ws)
      statements = ap (upto (placed_of text ws')) h.statement_count_law ∙ upto_same (placed_of text ws) (placed_of text ws') (statement_count ws) placed

      objects : upto (object_of text ws') (object_count ws') ≡ upto (object_of text ws) (object_count ws)
      objects =
          ap (upto (object_of text ws')) beside_objects
          ∙ upto_same (object_of text ws) (object_of text ws') (object_count ws) (λ o l. object_beside text o (omega arith))

  -- ---- what is worked out

  pub beside_mask : (c : ℕ) → domain_mask ws' c ≡ domain_mask ws c
  unfolding domain_mask belongs
  beside_mask c =
      ap (λ (n : ℕ). mask (upto (belongs ws' c) n)) beside_classes
      ∙ ap mask (upto_same (belongs ws c) (belongs ws' c) (class_count ws) (λ d l. ap (λ (m : ℕ). eqb d c || bit m c) (beside_low d 3 (omega arith) (omega arith))))

  shown_beside : (k : ℕ) → shown_count ws' k 0 ≡ shown_count ws k 0
  unfolding shown_count
  shown_beside k = ap (λ (n : ℕ). cond (ltb k n) (member_count ws' k 0) 0) beside_classes ∙ go (ltb k (class_count ws)) refl
    where
      go : (t : Bool) → ltb k (class_count ws) ≡ t → cond t (member_count ws' k 0) 0 ≡ cond t (member_count ws k 0) 0
      go true e = beside_members k 0 (omega (arith, ltb-true k (class_count ws) e)) (omega arith)
      go false e = refl

  pub beside_values : (o : ℕ) → o < 64 → values_of ws' o ≡ values_of ws o
  beside_values o l = shown_beside (object_word ws' o object_class_at) ∙ ap (λ (k : ℕ). shown_count ws k 0) (beside_class o l)

  pub beside_first : (o : ℕ) → o ≤ 64 → first_value ws' o ≡ first_value ws o
  unfolding first_value
  beside_first o l = total_below (values_of ws) (values_of ws') o (λ k m. beside_values k (omega arith))
