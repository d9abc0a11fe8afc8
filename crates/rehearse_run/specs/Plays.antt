-- What the program's functions promise, in the terms of `rehearsal`'s contracts: the parts that came and what was written out for
-- each. Which bytes came, and where those handed out went, no contract says.
use Rattle.std.specs.Prelude.{ℕ, ◌+◌, ◌≤◌, ◌≡◌, ◌⊎◌, List, [], ◌∷◌, ◌++◌, length, take}
use Rattle.machine_words.specs.Calls.{Lent}
use Rattle.rehearsal.specs.Feeds.{Feeds, end_most, Finishes}
use Rattle.rehearsal.specs.Whole.{text_room, Played, Rehearses}

-- A part is read whole, and as many bytes are written out as its answers have.
pub record PlaysPart (x : Lent) (line : List ℕ) (kept : ℕ) (part out : List ℕ) (y : Lent) (line' out' : List ℕ) (read kept' written : ℕ) : Type 0 where
  pub whole : read ≡ length part
  pub feeds : Feeds x line kept part out read y line' kept' out' written

-- The same of the part that one read gave, of at most 4,096 bytes.
pub record ReadsOnce (x : Lent) (line : List ℕ) (kept : ℕ) (out : List ℕ) (y : Lent) (line' out' : List ℕ) (read kept' written : ℕ) : Type 0 where
  pub part : List ℕ
  pub few : length part ≤ 4096
  pub plays : PlaysPart x line kept part out y line' out' read kept' written

-- The number of turns that no run uses up: 2^64 less 1.
abbrev pub turns_most : ℕ
turns_most = 18446744073709551615

-- Parts read one after another from the start of the input, with as many turns left.
pub record PlaysOn (x : Lent) (line : List ℕ) (y : Lent) (line' : List ℕ) (kept left : ℕ) : Type 0 where
  pub parts : List (List ℕ)
  pub outs : List (List ℕ)
  pub played : Played x line 0 parts outs y line' kept
  pub turns : left + length parts ≡ turns_most

-- The last read gave nothing, or there was one for each turn.
abbrev pub Ended : List (List ℕ) → Type 0
Ended parts = ((before : List (List ℕ)) × (parts ≡ before ++ ([] ∷ []))) ⊎ (length parts ≡ turns_most)

-- The input is read to its end, and `kept` bytes of its unfinished line are kept.
pub record PlaysAll (x : Lent) (line : List ℕ) (y : Lent) (line' : List ℕ) (kept : ℕ) : Type 0 where
  pub parts : List (List ℕ)
  pub outs : List (List ℕ)
  pub played : Played x line 0 parts outs y line' kept
  pub ended : Ended parts

-- The input is read to its end from no line begun on, and the lines of the end are written out: the first `last` bytes of `out`.
pub record Plays (x y : Lent) (out : List ℕ) (last : ℕ) : Type 0 where
  pub line : List ℕ
  pub line' : List ℕ
  pub kept : ℕ
  pub room : List ℕ
  pub long : 61 ≤ length line
  pub all : PlaysAll x line y line' kept
  pub wide : end_most ≤ length room
  pub finishes : Finishes y line' kept room last out

-- A rehearsal on a text: what is written out while the input is read, and at the end, `last` bytes. Both together are what the definition
-- prints for the text and the parts (`rehearsal/Whole`: `rehearsal-prints`).
pub record Rehearsed (text : List ℕ) (last : ℕ) : Type 0 where
  pub parts : List (List ℕ)
  pub answers : List ℕ
  pub lines : List ℕ
  pub rehearses : Rehearses text parts (answers ++ lines)
  pub ended : Ended parts
  pub count : last ≡ length lines

-- A rehearsal on the first bytes of a list that has room for `text_room`, which decide it (`rehearsal/Whole`: `front-prints`).
pub record Runs (last : ℕ) : Type 0 where
  pub room : List ℕ
  pub size : ℕ
  pub wide : length room ≡ text_room
  pub within : size ≤ length room
  pub rehearsed : Rehearsed (take size room) last
