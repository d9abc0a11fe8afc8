-- Filled tables laid into the state, with its eight slots closed and nobody in line: how that is done, and that it is a fresh start.
use Rattle.std.specs.Prelude.{ℕ, zero, suc, ◌+◌, ◌*◌, ◌≤◌, ◌<◌, ◌≡◌, List, ◌∷◌, ◌++◌, get_or, take, drop, replicate}
use Rattle.std.proofs.Math.Path.{refl, sym, ap}
use Rattle.std.proofs.Common.{ap₂, subst, ◌∙◌, arith, length-append, get_or-append-add, take_at, drop_at, drop-drop}
use Rattle.std.proofs.Math.ListN.{length, get_or-append}
use Rattle.std.proofs.lemmas.List.{length-replicate, get_or-replicate}
use Rattle.std.proofs.Math.Seq.{drop-append-add}
use borrow.Author.Tests.{le-ltb, le-leb, eq-eqb}
use Rattle.layout.specs.Layout.{values_most, slots_most, value_count_at, text_length_at, start_mark_at, table_words, row_words, line_at, slots_words, state_words, classes_most, statements_most, objects_most, class_count_at, statement_count_at, object_count_at}
use Rattle.model.specs.Vector.{program}
use Rattle.catalog.specs.View.{object_count, library_of}
use Rattle.image.specs.Sizes.{value_count, values_le}
use Rattle.machine_words.specs.Row.{blank}
use Rattle.machine_words.specs.Line.{count_in}
use Rattle.machine_words.specs.Calls.{lending, mark, tables_of, row_of, misfit_of, is_counted}
use Rattle.machine_refinement.specs.Rep.{Fits, Fresh}
use Rattle.machine_start.specs.Started.{Started}

-- Tables, eight blank rows, an empty line, and what lies past them.
abbrev pub installed : List ℕ → List ℕ → List ℕ
installed tables rest = tables ++ (replicate slots_words 0 ++ rest)

-- ---- how it is done

-- What lies past the tables.
past_tables : (tables behind : List ℕ) (k : ℕ) → length tables ≡ table_words → drop (table_words + k) (tables ++ behind) ≡ drop k behind
past_tables tables behind k size = ap (λ (n : ℕ). drop (n + k) (tables ++ behind)) (sym size) ∙ drop-append-add tables behind k

-- The tables are laid, then the slots are closed.
pub laid_closed : (tables ws ws₁ ws₂ : List ℕ) → length tables ≡ table_words → ws₁ ≡ tables ++ drop table_words ws
    → ws₂ ≡ take table_words ws₁ ++ (replicate slots_words 0 ++ drop state_words ws₁) → ws₂ ≡ installed tables (drop state_words ws)
laid_closed tables ws ws₁ ws₂ size e q =
    q
    ∙ ap (λ (l : List ℕ). take table_words l ++ (replicate slots_words 0 ++ drop state_words l)) e
    ∙ ap₂ installed (take_at tables (drop table_words ws) table_words size) (past_tables tables (drop table_words ws) slots_words size ∙ drop-drop slots_words table_words ws)

-- ---- a fresh start

zeros_front : (n m : ℕ) (rest : List ℕ) → m ≤ n → take m (replicate n 0 ++ rest) ≡ replicate m 0
zeros_front n zero rest h = refl
zeros_front zero (suc m) rest h = absurd (omega arith)
zeros_front (suc n) (suc m) rest h = ap (λ (l : List ℕ). 0 ∷ l) (zeros_front n m rest (omega arith))

-- A part of a run of zeros.
zeros_part : (n k m : ℕ) (rest : List ℕ) → k + m ≤ n → take m (drop k (replicate n 0 ++ rest)) ≡ replicate m 0
zeros_part n zero m rest h = zeros_front n m rest (omega arith)
zeros_part zero (suc k) m rest h = absurd (omega arith)
zeros_part (suc n) (suc k) m rest h = zeros_part n k m rest (omega arith)

module _ (tables rest : List ℕ) (size : length tables ≡ table_words) where
  tables_there : tables_of (installed tables rest) ≡ tables
  tables_there = take_at tables (replicate slots_words 0 ++ rest) table_words size

  row_there : (t : ℕ) → t < 8 → row_of (installed tables rest) t ≡ blank
  unfolding row_of
  row_there t h =
      ap (take row_words) (past_tables tables (replicate slots_words 0 ++ rest) (t * row_words) size)
      ∙ zeros_part slots_words (t * row_words) row_words rest (omega arith)

  line_word : get_or (installed tables rest) line_at 0 ≡ 0
  line_word =
      ap (λ (n : ℕ). get_or (installed tables rest) (n + (slots_most * row_words)) 0) (sym size)
      ∙ get_or-append-add tables (replicate slots_words 0 ++ rest) (slots_most * row_words) 0
      ∙ get_or-append (replicate slots_words 0) rest 0 (slots_most * row_words) (omega (arith, length-replicate {A = ℕ} slots_words 0))
      ∙ get_or-replicate slots_words (slots_most * row_words) 0 0 (omega arith)

  line_there : count_in (installed tables rest) ≡ 0
  unfolding count_in
  line_there = rw line_word refl

  length_there : state_words ≤ length (installed tables rest)
  length_there =
      omega (arith, length-append tables (replicate slots_words 0 ++ rest), length-append (replicate slots_words 0) rest, length-replicate {A = ℕ} slots_words 0)

  word_there : (i : ℕ) → i < 8 → get_or (installed tables rest) i 0 ≡ get_or tables i 0
  word_there i h = get_or-append tables (replicate slots_words 0 ++ rest) 0 i (omega arith)

  pub rest_there : drop state_words (installed tables rest) ≡ rest
  rest_there =
      past_tables tables (replicate slots_words 0 ++ rest) slots_words size
      ∙ drop_at (replicate slots_words 0) rest slots_words (length-replicate {A = ℕ} slots_words 0)

module _ (text ws tables values rest : List ℕ) (s : Started text ws tables) (e : length values ≡ value_count ws) where
  lent_fits : misfit_of (lending text (installed tables rest) values) ≡ 0
  unfolding misfit_of is_counted
  lent_fits =
      let few : length values ≤ values_most = omega (arith, values_le ws (object_count ws)) in
      let now = installed tables rest in
      rw (
        le-ltb (length now) state_words (length_there tables rest s.size),
        eq-eqb (get_or now start_mark_at 0) mark (word_there tables rest s.size start_mark_at (omega arith) ∙ s.marked),
        eq-eqb (get_or now text_length_at 0) (length text) (word_there tables rest s.size text_length_at (omega arith) ∙ s.text_length),
        eq-eqb (get_or now value_count_at 0) (length values) (word_there tables rest s.size value_count_at (omega arith) ∙ s.values ∙ sym e),
        le-leb (length values) values_most few,
        le-leb (get_or now class_count_at 0) classes_most (omega (arith, s.few.classes, word_there tables rest s.size class_count_at (omega arith))),
        le-leb (get_or now statement_count_at 0) statements_most (omega (arith, s.few.statements, word_there tables rest s.size statement_count_at (omega arith))),
        le-leb (get_or now object_count_at 0) objects_most (omega (arith, s.few.objects, word_there tables rest s.size object_count_at (omega arith))),
        le-leb (get_or now line_at 0) slots_most (omega (arith, line_word tables rest s.size)),
      )

  pub fresh_start : Fresh (lending text (installed tables rest) values) (program (library_of text ws))
  fresh_start = record {
    fit = lent_fits;
    fits = subst (λ (l : List ℕ). Fits text l (program (library_of text ws))) (sym (tables_there tables rest s.size)) s.fits;
    rows = row_there tables rest s.size;
    line = line_there tables rest s.size;
  }
