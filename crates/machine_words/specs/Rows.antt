-- The state as tables and rows: each row's length, what a call finds in words that fit, and what is kept where one row is written.
use Rattle.std.specs.Prelude.{ℕ, ◌+◌, ◌≤◌, ◌<◌, ◌≡◌, refl, ◌≢◌, Bool, true, false, ◌&&◌, length, take, drop, set, ltb}
use Rattle.std.proofs.Common.{arith, ap, ◌∙◌, length-set, get_or-set_same, ltb-false, leb-true, le-leb, eqb-true}
use Rattle.std.proofs.Math.Decide.{ℕ_discrete}
use Rattle.std.proofs.Math.Path.{sym}
use Rattle.std.proofs.Math.Bool.{cond}
use mathlib.Core.List.{List}
use Rattle.std.proofs.Math.ListN.{get_or, length-take, length-drop}
use Rattle.std.proofs.Math.Seq.{length-sets, get_or-set_other, get_or-take, get_or-drop, ext_get_or}
use Rattle.std.proofs.lemmas.List.{take-set-le}
use Rattle.std.proofs.Math.Dec.{eqb, leb}
use Rattle.layout.specs.Layout.{classes_most, statements_most, objects_most, values_most, slots_most, class_count_at, statement_count_at, object_count_at, value_count_at, text_length_at, start_mark_at, table_words, waiting_at, waiting_words, row_words, line_at, first_in_line_at, state_words}
use Rattle.laws.specs.Lists.{both_left, both_right}
use Rattle.machine_words.specs.Spans.{sets_else, sets_there, drop_sets}
use Rattle.machine_words.specs.Line.{waiting_in, count_in, first_in_line}
use Rattle.machine_words.specs.Calls.{Lent, lending, mark, tables_of, row_start, row_of, with_row, is_started, misfit_of, is_counted}

-- ---- rows

module _ (ws : List ℕ) (long : state_words ≤ length ws) where
  -- Each of the eight rows has `row_words` words.
  pub row_length : (s : ℕ) → s < 8 → length (row_of ws s) ≡ row_words
  unfolding row_of
  row_length s h = omega (arith, length-take row_words (drop (row_start s) ws), length-drop (row_start s) ws)

  row_word : (s i : ℕ) → i < row_words → get_or (row_of ws s) i 0 ≡ get_or ws (row_start s + i) 0
  unfolding row_of
  row_word s i h = get_or-take row_words (drop (row_start s) ws) i 0 h ∙ get_or-drop (row_start s) ws i 0

module _ (ws : List ℕ) (long : state_words ≤ length ws) (s : ℕ) (h : s < 8) (row : List ℕ) (size : length row ≡ row_words) where
  with_long : state_words ≤ length (with_row ws s row)
  with_long = omega (arith, length-sets ws (row_start s) row)

  -- The row that was written.
  pub with_same : row_of (with_row ws s row) s ≡ row
  with_same =
      ext_get_or 0 (row_of (with_row ws s row) s) row (row_length (with_row ws s row) with_long s h ∙ sym size)
      (λ i l. let n = row_length (with_row ws s row) with_long s h in
      row_word (with_row ws s row) with_long s i (omega arith) ∙ sets_there row ws (row_start s) i (omega arith) (omega arith))

  -- Every other row, and the tables, are kept.
  pub with_other : (t : ℕ) → t < 8 → t ≢ s → row_of (with_row ws s row) t ≡ row_of ws t
  with_other t k ne =
      let n = row_length (with_row ws s row) with_long t k in
      let m = row_length ws long t k in
      ext_get_or 0 (row_of (with_row ws s row) t) (row_of ws t) (n ∙ sym m)
      (λ i l. row_word (with_row ws s row) with_long t i (omega arith)
      ∙ sets_else row ws (row_start s) (row_start t + i) (λ g e. ne (omega arith)) ∙ sym (row_word ws long t i (omega arith)))

  word_kept : (i : ℕ) → i < table_words → get_or (with_row ws s row) i 0 ≡ get_or ws i 0
  word_kept i l = sets_else row ws (row_start s) i (λ g e. omega arith)

  pub with_tables : tables_of (with_row ws s row) ≡ tables_of ws
  with_tables =
      let n = length-sets ws (row_start s) row in
      let a = length-take table_words (with_row ws s row) in
      let b = length-take table_words ws in
      ext_get_or 0 (tables_of (with_row ws s row)) (tables_of ws) (omega arith)
      (λ i l. get_or-take table_words (with_row ws s row) i 0 (omega arith) ∙ word_kept i (omega arith) ∙ sym (get_or-take table_words ws i 0 (omega arith)))

  -- The line is kept.
  line_word : (i : ℕ) → line_at ≤ i → get_or (with_row ws s row) i 0 ≡ get_or ws i 0
  line_word i l = sets_else row ws (row_start s) i (λ g e. omega arith)

  pub with_count : count_in (with_row ws s row) ≡ count_in ws
  unfolding count_in
  with_count = rw (line_word line_at (omega arith))

  pub with_line : (n : ℕ) → first_in_line (with_row ws s row) n ≡ first_in_line ws n
  with_line n = ap (take n) (drop_sets row ws (row_start s) first_in_line_at (omega arith))

  -- A state that fits still fits.
  pub with_fit : (text values values' : List ℕ) → length values' ≡ length values
      → misfit_of (lending text (with_row ws s row) values') ≡ misfit_of (lending text ws values)
  unfolding misfit_of is_counted
  with_fit text values values' e = λ i.
      cond (ltb (length-sets ws (row_start s) row i) state_words) 21
      (cond ((eqb (word_kept start_mark_at (omega arith) i) mark && eqb (word_kept text_length_at (omega arith) i) (length text)
      && eqb (word_kept value_count_at (omega arith) i) (e i) && leb (e i) values_most)
      && (leb (word_kept class_count_at (omega arith) i) classes_most && leb (word_kept statement_count_at (omega arith) i) statements_most
      && leb (word_kept object_count_at (omega arith) i) objects_most && leb (line_word line_at (omega arith) i) slots_most)) 0 24)

-- ---- what fits

pub record Fit (x : Lent) : Type 0 where
  pub long : state_words ≤ length x.words
  pub count : length x.values ≡ get_or (tables_of x.words) value_count_at 0
  pub few : length x.values ≤ values_most
  pub waiting : get_or x.words line_at 0 ≤ slots_most

-- What a call knows of a state that fits.
pub fit_is : (x : Lent) → misfit_of x ≡ 0 → Fit x
unfolding misfit_of is_counted
fit_is x e = go (ltb (length ws) state_words) (is_started x && is_counted ws) refl refl e
  where
    ws : List ℕ
    ws = x.words

    first : Bool
    first = eqb (get_or ws start_mark_at 0) mark && eqb (get_or ws text_length_at 0) (length x.text)

    count : Bool
    count = eqb (get_or ws value_count_at 0) (length x.values)

    few : Bool
    few = leb (length x.values) values_most

    tables : Bool
    tables = leb (get_or ws class_count_at 0) classes_most && leb (get_or ws statement_count_at 0) statements_most && leb (get_or ws object_count_at 0) objects_most

    go : (a b : Bool) → ltb (length ws) state_words ≡ a → (is_started x && is_counted ws) ≡ b → ◌≡◌ {A = ℕ} (cond a 21 (cond b 0 24)) 0 → Fit x
    go true b y z q = absurd (omega arith)
    go false false y z q = absurd (omega arith)
    go false true y z q =
        let started = both_left (is_started x) (is_counted ws) z in
        let counted = both_right first count (both_left (first && count) few started) in
        record {
          long = ltb-false (length ws) state_words y;
          count = sym (get_or-take table_words ws value_count_at 0 (omega arith) ∙ eqb-true (get_or ws value_count_at 0) (length x.values) counted);
          few = leb-true (length x.values) values_most (both_right (first && count) few started);
          waiting = leb-true (get_or ws line_at 0) slots_most (both_right tables (leb (get_or ws line_at 0) slots_most) (both_right (is_started x) (is_counted ws) z));
        }

-- A word of the line written: the tables and the rows are kept.
module _ (ws : List ℕ) (i v : ℕ) (h : line_at ≤ i) where
  pub place_row : (t : ℕ) → t < 8 → row_of (set ws i v) t ≡ row_of ws t
  unfolding row_of
  place_row t k =
      ext_get_or 0 (take row_words (drop (row_start t) (set ws i v))) (take row_words (drop (row_start t) ws)) same
      (λ j l. word (set ws i v) j (omega (arith, long)) ∙ get_or-set_other ws i (row_start t + j) v 0 (λ e. omega (arith, long)) ∙ sym (word ws j (omega (arith, long))))
    where
      word : (l : List ℕ) (j : ℕ) → j < row_words → get_or (take row_words (drop (row_start t) l)) j 0 ≡ get_or l (row_start t + j) 0
      word l j x = get_or-take row_words (drop (row_start t) l) j 0 x ∙ get_or-drop (row_start t) l j 0

      long : length (take row_words (drop (row_start t) (set ws i v))) ≤ row_words
      long = omega (arith, length-take row_words (drop (row_start t) (set ws i v)))

      same : length (take row_words (drop (row_start t) (set ws i v))) ≡ length (take row_words (drop (row_start t) ws))
      same =
          omega (
            arith,
            length-take row_words (drop (row_start t) (set ws i v)),
            length-drop (row_start t) (set ws i v),
            length-set ws i v,
            length-take row_words (drop (row_start t) ws),
            length-drop (row_start t) ws,
          )

  pub place_tables : tables_of (set ws i v) ≡ tables_of ws
  place_tables = take-set-le table_words ws i v (omega arith)

  head_word : (j : ℕ) → j < table_words → get_or (set ws i v) j 0 ≡ get_or ws j 0
  head_word j l = get_or-set_other ws i j v 0 (λ e. omega arith)

  -- A state that fits still fits, where the number of those who wait stays within its limit.
  pub place_fit : (text values : List ℕ) → (i ≡ line_at → v ≤ slots_most) → misfit_of (lending text ws values) ≡ 0
      → misfit_of (lending text (set ws i v) values) ≡ 0
  unfolding misfit_of is_counted
  place_fit text values few fits =
      (λ j.
      cond (ltb (length-set ws i v j) state_words) 21
      (cond ((eqb (head_word start_mark_at (omega arith) j) mark && eqb (head_word text_length_at (omega arith) j) (length text)
      && eqb (head_word value_count_at (omega arith) j) (length values) && leb (length values) values_most)
      && (leb (head_word class_count_at (omega arith) j) classes_most && leb (head_word statement_count_at (omega arith) j) statements_most
      && leb (head_word object_count_at (omega arith) j) objects_most && waiting (ℕ_discrete i line_at) j)) 0 24))
      ∙ fits
    where
      fit : Fit (lending text ws values)
      fit = fit_is (lending text ws values) fits

      waiting : Dec (i ≡ line_at) → leb (get_or (set ws i v) line_at 0) slots_most ≡ leb (get_or ws line_at 0) slots_most
      waiting (yes e) =
          let is : get_or (set ws i v) line_at 0 ≡ v = ap (λ (n : ℕ). get_or (set ws n v) line_at 0) e ∙ get_or-set_same ws line_at v 0 (omega (arith, fit.long)) in
          ap (λ (n : ℕ). leb n slots_most) is ∙ le-leb v slots_most (few e) ∙ sym (le-leb (get_or ws line_at 0) slots_most fit.waiting)
      waiting (no ne) = ap (λ (n : ℕ). leb n slots_most) (get_or-set_other ws i line_at v 0 (λ e. ne (sym e)))

-- The words of a slot's waiting send, as a part of the state.
pub waiting_part : (ws : List ℕ) (t : ℕ) → take waiting_words (drop (row_start t + waiting_at) ws) ≡ waiting_in (row_of ws t)
unfolding row_of waiting_in
waiting_part ws t =
    ext_get_or 0 left right same
    (λ j l. get_or-take waiting_words (drop (row_start t + waiting_at) ws) j 0 (omega (arith, long)) ∙ get_or-drop (row_start t + waiting_at) ws j 0
    ∙ ap (λ (n : ℕ). get_or ws n 0) (at j)
    ∙ sym (get_or-take waiting_words (drop waiting_at (take row_words (drop (row_start t) ws))) j 0 (omega (arith, long))
    ∙ get_or-drop waiting_at (take row_words (drop (row_start t) ws)) j 0
    ∙ get_or-take row_words (drop (row_start t) ws) (waiting_at + j) 0 (omega (arith, long)) ∙ get_or-drop (row_start t) ws (waiting_at + j) 0))
  where
    left : List ℕ
    left = take waiting_words (drop (row_start t + waiting_at) ws)

    right : List ℕ
    right = take waiting_words (drop waiting_at (take row_words (drop (row_start t) ws)))

    at : (j : ℕ) → row_start t + waiting_at + j ≡ row_start t + (waiting_at + j)
    at j = omega arith

    long : length (take waiting_words (drop (row_start t + waiting_at) ws)) ≤ waiting_words
    long = omega (arith, length-take waiting_words (drop (row_start t + waiting_at) ws))

    same : length left ≡ length right
    same =
        omega (
          arith,
          length-take waiting_words (drop (row_start t + waiting_at) ws),
          length-drop (row_start t + waiting_at) ws,
          length-take waiting_words (drop waiting_at (take row_words (drop (row_start t) ws))),
          length-drop waiting_at (take row_words (drop (row_start t) ws)),
          length-take row_words (drop (row_start t) ws),
          length-drop (row_start t) ws,
        )
