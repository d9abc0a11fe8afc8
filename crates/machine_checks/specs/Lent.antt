-- A slot's row lent as a part of the state, and what the state is where one row is written.
use Rattle.std.specs.Prelude.{ℕ, ◌+◌, ◌-◌, ◌≤◌, ◌<◌, ◌≡◌, List, ◌++◌, length, take, drop}
use Rattle.std.proofs.Common.{arith, sym, ap, subst, ◌∙◌}
use Rattle.std.proofs.Math.Seq.{length-sets}
use Rattle.layout.specs.Layout.{table_words, row_words, state_words}
use Rattle.machine_words.specs.Calls.{row_start, row_of, with_row}
use Rattle.machine_words.specs.Spans.{lent_sets, sets_sets, sets_own}
use Rattle.machine_words.specs.Rows.{row_length}

-- The state is long enough, and s is one of its eight slots.
pub record Within (ws : List ℕ) (s : ℕ) : Type 0 where
  pub slot : s < 8
  pub long : state_words ≤ length ws

-- A part of the state after its tables.
pub record Span (ws : List ℕ) (at size : ℕ) : Type 0 where
  pub above : table_words ≤ at
  pub fits : at + size ≤ length ws

-- The row as the part that is lent, from where it begins to where it ends.
abbrev pub part : List ℕ → ℕ → List ℕ
part ws s = take (row_start s + row_words - row_start s) (drop (row_start s) ws)

pub part_is : (ws : List ℕ) (s : ℕ) → part ws s ≡ row_of ws s
unfolding row_of
part_is ws s = let k : row_start s + row_words - row_start s ≡ row_words = omega arith in ap (λ (n : ℕ). take n (drop (row_start s) ws)) k

-- The same, by where the part begins and ends.
pub part_at : (ws : List ℕ) (s a e : ℕ) → a ≡ row_start s → e ≡ row_start s + row_words → take (e - a) (drop a ws) ≡ row_of ws s
part_at ws s a e p q = rw (p, q) (part_is ws s)

-- The state with another row in that part.
abbrev pub lent : List ℕ → ℕ → List ℕ → List ℕ
lent ws s row = take (row_start s) ws ++ (row ++ drop (row_start s + row_words - row_start s) (drop (row_start s) ws))

module _ (ws : List ℕ) (s : ℕ) (h : Within ws s) where
  pub row_size : length (row_of ws s) ≡ row_words
  row_size = row_length ws h.long s h.slot

  pub lent_is : (row row' : List ℕ) → length row ≡ row_words → row ≡ row' → lent ws s row ≡ with_row ws s row'
  lent_is row row' size same = lent_sets ws (row_start s) row_words (omega (arith, h.slot, h.long)) row row' size same

  -- The same, by where the part begins and ends.
  pub lent_at : (a e : ℕ) → a ≡ row_start s → e ≡ row_start s + row_words → (row row' : List ℕ) → length row ≡ row_words → row ≡ row'
      → take a ws ++ (row ++ drop (e - a) (drop a ws)) ≡ with_row ws s row'
  lent_at a e p q row row' size same = rw (p, q) (lent_is row row' size same)

-- ---- one row written twice, or written back unchanged

module _ (ws : List ℕ) (s : ℕ) (h : Within ws s) where
  fits : (row : List ℕ) → length row ≡ row_words → row_start s + length row ≤ length ws
  fits row size = omega (arith, h.slot, h.long)

  pub with_within : (row : List ℕ) → Within (with_row ws s row) s
  with_within row = record { slot = h.slot; long = omega (arith, h.long, length-sets ws (row_start s) row) }

  module _ (now row : List ℕ) (e : now ≡ with_row ws s row) where
    pub now_within : Within now s
    now_within = subst (λ (x : List ℕ). Within x s) (sym e) (with_within row)

    pub now_length : length now ≡ length ws
    now_length = ap length e ∙ length-sets ws (row_start s) row

  -- Of two rows written, the later one stays.
  pub with_with : (row row' : List ℕ) → length row ≡ row_words → length row' ≡ row_words → with_row (with_row ws s row) s row' ≡ with_row ws s row'
  with_with row row' size size' = sets_sets ws (row_start s) row (fits row size) row' (size' ∙ sym size)

  -- Writing a row back unchanged leaves the state unchanged.
  pub with_own : with_row ws s (row_of ws s) ≡ ws
  unfolding row_of
  with_own = sets_own ws (row_start s) row_words (omega (arith, h.slot, h.long))
