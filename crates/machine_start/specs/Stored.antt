-- What a start works out is in the tables once it is stored, and what it is worked out from stays unchanged.
use Prim.Native.Nat.{ℕ, zero, suc, ◌+◌, ◌*◌, ◌≤◌, ◌<◌}
use Rattle.std.specs.Prelude.{◌≡◌, ◌≢◌, Bool, List, length, set}
use Rattle.std.proofs.Math.Path.{refl, sym, ap, ap₂, subst}
use Rattle.std.proofs.Common.{◌∙◌, arith, get_or-set_same}
use Rattle.std.proofs.Math.Bool.{true, false}
use Rattle.std.proofs.Math.Numerals.{add-one}
use Rattle.std.proofs.Math.ListN.{get_or, length-set}
use Rattle.std.proofs.Math.Seq.{get_or-set_other}
use Rattle.std.proofs.Math.Dec.{eqb}
use borrow.Author.Tests.{eqb-true, eqb-false}
use Rattle.layout.specs.Layout.{value_count_at, text_length_at, start_mark_at, domain_at, class_words, object_values_at, object_words, classes_at, objects_at, table_words, classes_most, statements_most, objects_most, class_count_at, statement_count_at, object_count_at}
use Rattle.catalog.specs.View.{class_word, object_word, class_count, object_count, statement_count}
use Rattle.output.specs.Each.{total_more}
use Rattle.image.specs.Sizes.{values_le}
use Rattle.machine_words.specs.Calls.{mark}
use Rattle.machine_start.specs.Worked.{with_each, domain_mask, with_domains, values_of, first_value, with_places, with_header, with_counts}
use Rattle.machine_start.specs.Beside.{Beside, beside_none, beside_then, beside_header, beside_domain, beside_place, beside_classes, beside_objects, beside_mask, beside_values, beside_first, beside_class_count, beside_statement_count, beside_object_count}

-- ---- a word for each number

module _ (place f : ℕ → ℕ) (ws : List ℕ) where
  -- A turn of the loop that stores them.
  each_more : (n v : ℕ) → v ≡ f n → set (with_each place f ws n) (place n) v ≡ with_each place f ws (n + 1)
  unfolding with_each
  each_more n v e = rw add-one (ap (set (with_each place f ws n) (place n)) e)

  each_beside : (m : ℕ) → ((l : List ℕ) (k v : ℕ) → k < m → Beside l (set l (place k) v)) → (n : ℕ) → n ≤ m → Beside ws (with_each place f ws n)
  unfolding with_each
  each_beside m one zero h = beside_none ws
  each_beside m one (suc n) h = beside_then (each_beside m one n (omega arith)) (one (with_each place f ws n) n (f n) (omega arith))

  each_size : (n : ℕ) → length (with_each place f ws n) ≡ length ws
  unfolding with_each
  each_size zero = refl
  each_size (suc n) = length-set (with_each place f ws n) (place n) (f n) ∙ each_size n

  each_other : (n i : ℕ) → ((k : ℕ) → i ≢ place k) → get_or (with_each place f ws n) i 0 ≡ get_or ws i 0
  unfolding with_each
  each_other zero i h = refl
  each_other (suc n) i h = get_or-set_other (with_each place f ws n) (place n) i (f n) 0 (h n) ∙ each_other n i h

  module _ (apart : (k j : ℕ) → place k ≡ place j → k ≡ j) where
    each_at : (n : ℕ) → ((k : ℕ) → k < n → place k < length ws) → (k : ℕ) → k < n → get_or (with_each place f ws n) (place k) 0 ≡ f k
    unfolding with_each
    each_at zero h k l = absurd (omega arith)
    each_at (suc n) h k l = go (eqb k n) refl (each_at n (λ j m. h j (omega arith)) k)
      where
        go : (t : Bool) → eqb k n ≡ t → (k < n → get_or (with_each place f ws n) (place k) 0 ≡ f k) → get_or (set (with_each place f ws n) (place n) (f n)) (place k) 0 ≡ f k
        go true t ih =
            subst (λ (j : ℕ). get_or (set (with_each place f ws n) (place n) (f n)) (place j) 0 ≡ f j) (sym (eqb-true k n t))
            (get_or-set_same (with_each place f ws n) (place n) (f n) 0 (omega (arith, each_size n, h n (omega arith))))
        go false t ih =
            let d = eqb-false k n t in
            get_or-set_other (with_each place f ws n) (place n) (place k) (f n) 0 (λ e. d (apart k n e)) ∙ ih (omega (arith, d))

module _ (ws : List ℕ) where
  -- ---- domains

  pub domains_beside : (n : ℕ) → n ≤ 16 → Beside ws (with_domains ws n)
  domains_beside n h = each_beside (λ c. classes_at + (c * class_words + 5)) (domain_mask ws) ws 16 beside_domain n h

  -- A turn of the loop that stores them.
  pub domains_more : (n m : ℕ) → n < 16 → m ≡ domain_mask (with_domains ws n) n → set (with_domains ws n) (classes_at + (n * class_words + 5)) m ≡ with_domains ws (n + 1)
  domains_more n m h e = each_more (λ c. classes_at + (c * class_words + 5)) (domain_mask ws) ws n m (e ∙ beside_mask (domains_beside n (omega arith)) n)

  domains_at : (n : ℕ) → n ≤ 16 → table_words ≤ length ws → (c : ℕ) → c < n → class_word (with_domains ws n) c domain_at ≡ domain_mask ws c
  unfolding class_word
  domains_at n h size c l = each_at (λ c. classes_at + (c * class_words + 5)) (domain_mask ws) ws (λ k j e. omega arith) n (λ k m. omega arith) c l

  -- ---- the places of first values

  pub places_beside : (n : ℕ) → n ≤ 64 → Beside ws (with_places ws n)
  places_beside n h = each_beside (λ o. objects_at + (o * object_words + 2)) (first_value ws) ws 64 beside_place n h

  -- A turn of the loop that stores them, and the sum that it counts up.
  pub places_more : (n v : ℕ) → v ≡ first_value ws n → set (with_places ws n) (objects_at + (n * object_words + 2)) v ≡ with_places ws (n + 1)
  places_more n v e = each_more (λ o. objects_at + (o * object_words + 2)) (first_value ws) ws n v e

  pub values_more : (n v k : ℕ) → n < 64 → v ≡ first_value ws n → k ≡ values_of (with_places ws n) n → v + k ≡ first_value ws (n + 1)
  unfolding first_value
  values_more n v k h e q = ap₂ ◌+◌ e (q ∙ beside_values (places_beside n (omega arith)) n h) ∙ sym (total_more (values_of ws) n)

  -- No sum exceeds 32 for each object.
  pub first_le : (n : ℕ) → first_value ws n ≤ n * 32
  unfolding first_value
  first_le n = values_le ws n

  places_low : (n i : ℕ) → i < objects_at → get_or (with_places ws n) i 0 ≡ get_or ws i 0
  places_low n i h = each_other (λ o. objects_at + (o * object_words + 2)) (first_value ws) ws n i (λ k e. omega arith)

  places_at : (n : ℕ) → n ≤ 64 → table_words ≤ length ws → (o : ℕ) → o < n → object_word (with_places ws n) o object_values_at ≡ first_value ws o
  unfolding object_word
  places_at n h size o l = each_at (λ o. objects_at + (o * object_words + 2)) (first_value ws) ws (λ k j e. omega arith) n (λ k m. omega arith) o l

-- ---- all of it

-- The tables hold what a start works out from them.
pub record WorkedOut (ws : List ℕ) : Type 0 where
  pub domains : (c : ℕ) → c < class_count ws → class_word ws c domain_at ≡ domain_mask ws c
  pub places : (o : ℕ) → o < object_count ws → object_word ws o object_values_at ≡ first_value ws o
  pub values : get_or ws value_count_at 0 ≡ first_value ws (object_count ws)

-- The counts are within their limits.
pub record Few (ws : List ℕ) : Type 0 where
  pub classes : get_or ws class_count_at 0 ≤ classes_most
  pub statements : get_or ws statement_count_at 0 ≤ statements_most
  pub objects : get_or ws object_count_at 0 ≤ objects_most

module _ (ws : List ℕ) (long : table_words ≤ length ws) where
  abbrev a : List ℕ
  a = set ws class_count_at (class_count ws)

  abbrev b : List ℕ
  b = set a statement_count_at (statement_count a)

  long_a : table_words ≤ length a
  long_a = omega (arith, length-set ws class_count_at (class_count ws))

  long_b : table_words ≤ length b
  long_b = omega (arith, long_a, length-set a statement_count_at (statement_count a))

  counts_beside : Beside ws (with_counts ws)
  counts_beside = beside_then (beside_class_count ws long) (beside_then (beside_statement_count a long_a) (beside_object_count b long_b))

  counts_high : (i : ℕ) → 3 ≤ i → get_or (with_counts ws) i 0 ≡ get_or ws i 0
  counts_high i h =
      get_or-set_other b object_count_at i (object_count b) 0 (λ e. omega arith) ∙ get_or-set_other a statement_count_at i (statement_count a) 0 (λ e. omega arith)
      ∙ get_or-set_other ws class_count_at i (class_count ws) 0 (λ e. omega arith)

  counts_few : Few (with_counts ws)
  counts_few =
      let c = get_or-set_other b object_count_at class_count_at (object_count b) 0 (λ e. omega arith)
      ∙ get_or-set_other a statement_count_at class_count_at (statement_count a) 0 (λ e. omega arith) ∙ get_or-set_same ws class_count_at (class_count ws) 0 (omega arith) in
      let s = get_or-set_other b object_count_at statement_count_at (object_count b) 0 (λ e. omega arith)
      ∙ get_or-set_same a statement_count_at (statement_count a) 0 (omega (arith, long_a)) in
      let o = get_or-set_same b object_count_at (object_count b) 0 (omega (arith, long_b)) in
      record { classes = omega arith; statements = omega arith; objects = omega arith }

module _ (ws : List ℕ) (values size : ℕ) (long : table_words ≤ length ws) where
  header_three : get_or (with_header ws values size) value_count_at 0 ≡ values
  header_three =
      get_or-set_other (set (set ws value_count_at values) text_length_at size) start_mark_at 3 mark 0 (λ e. omega arith)
      ∙ get_or-set_other (set ws value_count_at values) text_length_at 3 size 0 (λ e. omega arith)
      ∙ get_or-set_same ws value_count_at values 0 (omega arith)

  header_four : get_or (with_header ws values size) text_length_at 0 ≡ size
  header_four =
      get_or-set_other (set (set ws value_count_at values) text_length_at size) start_mark_at 4 mark 0 (λ e. omega arith)
      ∙ get_or-set_same (set ws value_count_at values) text_length_at size 0 (omega (arith, length-set ws value_count_at values))

  header_five : get_or (with_header ws values size) start_mark_at 0 ≡ mark
  header_five = get_or-set_same (set (set ws value_count_at values) text_length_at size) start_mark_at mark 0 (omega (arith, length-set (set ws value_count_at values) text_length_at size, length-set ws value_count_at values))

  header_else : (i : ℕ) → i ≢ value_count_at → i ≢ text_length_at → i ≢ start_mark_at → get_or (with_header ws values size) i 0 ≡ get_or ws i 0
  header_else i a b c =
      get_or-set_other (set (set ws value_count_at values) text_length_at size) start_mark_at i mark 0 c
      ∙ get_or-set_other (set ws value_count_at values) text_length_at i size 0 b ∙ get_or-set_other ws value_count_at i values 0 a

  header_beside : Beside ws (with_header ws values size)
  header_beside =
      beside_then (beside_header ws value_count_at values (omega arith) (omega arith))
      (beside_then (beside_header (set ws value_count_at values) text_length_at size (omega arith) (omega arith))
      (beside_header (set (set ws value_count_at values) text_length_at size) start_mark_at mark (omega arith) (omega arith)))

-- What the tables hold once all is stored.
pub record Stored (ws : List ℕ) (size : ℕ) (ws' : List ℕ) : Type 0 where
  pub beside : Beside ws ws'
  pub worked : WorkedOut ws'
  pub few : Few ws'
  pub text_length : get_or ws' text_length_at 0 ≡ size
  pub marked : get_or ws' start_mark_at 0 ≡ mark

module _ (ws : List ℕ) (long : table_words ≤ length ws) where
  abbrev second : List ℕ
  second = with_domains ws (class_count ws)

  abbrev third : List ℕ
  third = with_places second (object_count second)

  abbrev values : ℕ
  values = first_value second (object_count second)

  long_second : table_words ≤ length second
  long_second = omega (arith, (domains_beside ws (class_count ws) (omega arith)).size)

  long_third : table_words ≤ length third
  long_third = omega (arith, long_second, (places_beside second (object_count second) (omega arith)).size)

  abbrev fourth : List ℕ
  fourth = with_counts third

  long_fourth : table_words ≤ length fourth
  long_fourth = omega (arith, long_third, (counts_beside third long_third).size)

  -- Step by step, as the code stores it.
  pub stored : (size v : ℕ) (ws₂ ws₃ ws₄ ws' : List ℕ) → ws₂ ≡ second → ws₃ ≡ with_places ws₂ (object_count ws₂) → v ≡ first_value ws₂ (object_count ws₂)
      → ws₄ ≡ with_counts ws₃ → ws' ≡ with_header ws₄ v size → Stored ws size ws'
  unfolding class_word object_word
  stored size v ws₂ ws₃ ws₄ ws' a b d c e = subst (Stored ws size) (cc) (record {
    beside = all;
    worked = record {
      domains = λ c l. domains c (omega (arith, beside_classes all)) ∙ sym (beside_mask all c);
      places = λ o l. places o (omega (arith, beside_objects late)) ∙ sym (beside_first late o (omega arith));
      values = header_three fourth values size long_fourth ∙ sym (counted ∙ ap (first_value second) (beside_objects late));
    };
    few = record {
      classes = omega (arith, few.classes, header_else fourth values size long_fourth class_count_at (omega arith) (omega arith) (omega arith));
      statements = omega (arith, few.statements, header_else fourth values size long_fourth statement_count_at (omega arith) (omega arith) (omega arith));
      objects = omega (arith, few.objects, header_else fourth values size long_fourth object_count_at (omega arith) (omega arith) (omega arith));
    };
    text_length = header_four fourth values size long_fourth;
    marked = header_five fourth values size long_fourth;
  })
    where
      few : Few fourth
      few = counts_few third long_third

      last : List ℕ
      last = with_header fourth values size

      late : Beside second last
      late =
          beside_then (places_beside second (object_count second) (omega arith))
          (beside_then (counts_beside third long_third) (header_beside fourth values size long_fourth))

      high : (i : ℕ) → 8 ≤ i → get_or last i 0 ≡ get_or third i 0
      high i h = header_else fourth values size long_fourth i (omega arith) (omega arith) (omega arith) ∙ counts_high third long_third i (omega arith)

      all : Beside ws last
      all = beside_then (domains_beside ws (class_count ws) (omega arith)) late

      domains : (c : ℕ) → c < class_count ws → class_word last c domain_at ≡ domain_mask ws c
      domains c l =
          high (classes_at + (c * class_words + 5)) (omega arith)
          ∙ places_low second (object_count second) (classes_at + (c * class_words + 5)) (omega arith)
          ∙ domains_at ws (class_count ws) (omega arith) long c l

      places : (o : ℕ) → o < object_count second → object_word last o object_values_at ≡ first_value second o
      places o l =
          high (objects_at + (o * object_words + 2)) (omega arith)
          ∙ places_at second (object_count second) (omega arith) long_second o l

      counted : first_value last (object_count last) ≡ first_value second (object_count last)
      counted = beside_first late (object_count last) (omega arith)
