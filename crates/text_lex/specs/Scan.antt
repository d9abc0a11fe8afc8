-- Where a scan of bytes stops: at the first byte that passes a test, or at the end. The laws serve every scanning loop.
use Rattle.std.specs.Prelude.{ℕ, suc, ◌+◌, ◌≤◌, ◌<◌, ◌≡◌, Bool, true, false, cond, List, [], ◌∷◌, length, drop, get_or, eqb}
use Rattle.std.proofs.Common.{add-one, arith, length-drop, drop_of_length-le}
use Rattle.std.proofs.Math.Seq.{drop-cons}

-- A byte is the byte d.
abbrev pub is_byte : ℕ → ℕ → Bool
is_byte d b = eqb b d

-- The number of bytes before the first that passes the test, or before the end.
unfoldable pub before : (ℕ → Bool) → List ℕ → ℕ
before p [] = 0
before p (b ∷ s) = cond (p b) 0 (suc (before p s))

-- A loop at i: at the end, at a byte that passes, at one that does not.
module _ (p : ℕ → Bool) (s : List ℕ) (i : ℕ) where
  pub before_end : length s ≤ i → before p (drop i s) ≡ 0
  unfolding before
  before_end h = rw (drop_of_length-le s h)

  pub before_stop : i < length s → p (get_or s i 0) ≡ true → before p (drop i s) ≡ 0
  unfolding before
  before_stop h e = rw (drop-cons s i 0 h, e)

  pub before_more : i < length s → p (get_or s i 0) ≡ false → before p (drop i s) ≡ suc (before p (drop (i + 1) s))
  unfolding before
  before_more h e = rw (add-one, drop-cons s i 0 h, e)

pub before_le : (p : ℕ → Bool) (s : List ℕ) → before p s ≤ length s
unfolding before
before_le p [] = omega arith
before_le p (b ∷ s) = go (p b) (before_le p s)
  where
    go : (t : Bool) → before p s ≤ length s → cond t 0 (suc (before p s)) ≤ suc (length s)
    go true h = omega arith
    go false h = omega arith

-- A scan that begins within the list ends within it.
pub end_within : (p : ℕ → Bool) (s : List ℕ) (i : ℕ) → i ≤ length s → i + before p (drop i s) ≤ length s
end_within p s i h = omega (arith, before_le p (drop i s), length-drop i s)
