-- What the functions that read an input promise: how far it is read, in the terms of the lent memory.
use Rattle.std.specs.Prelude.{ℕ, ◌+◌, ◌≤◌, ◌/◌, min, ◌≡◌, Bool, true, false, List, [], ◌∷◌, ◌++◌, length, take, drop, set, eqb}
use Rattle.machine_words.specs.Calls.{Lent}
use Rattle.output.specs.Append.{Printed}
use Rattle.call_lines.specs.Lent.{on_lent}
use Rattle.rehearsal.specs.Parts.{Reached, ended, next, fed}

-- The most bytes that an answer's line has.
abbrev pub widest : ℕ
widest = 18

-- `size` bytes are written, and the unfinished line has `kept` bytes.
abbrev pub reached : Lent → List ℕ → ℕ → List ℕ → ℕ → Reached Lent
reached x line kept out size = record { out = take size out; machine = x; line = take kept line }

-- The list lent for the unfinished line, and how many of its bytes are kept.
pub record Holding : Type 0 where
  pub list : List ℕ
  pub kept : ℕ

abbrev pub holding : List ℕ → ℕ → Holding
holding line kept = record { list = line; kept = kept }

-- An LF leaves the list and none of it is kept; any other byte is stored after those kept, and a full list stays as it is.
abbrev pub held_on : Holding → ℕ → Bool → Holding
held_on h b true = holding h.list 0
held_on h b false = holding (set h.list h.kept b) (min (h.kept + 1) (length h.list))

abbrev pub held_next : Holding → ℕ → Holding
held_next h b = held_on h b (eqb b 10)

-- The list after a part.
unfoldable pub held_after : Holding → List ℕ → Holding
held_after h [] = h
held_after h (b ∷ s) = held_after (held_next h b) s

-- One byte more of a line is kept, where there is room.
pub record Keeps (line : List ℕ) (kept byte : ℕ) (line' : List ℕ) (kept' : ℕ) : Type 0 where
  pub bytes : take kept' line' ≡ take (length line) (take kept line ++ (byte ∷ []))
  pub stored : line' ≡ set line kept byte
  pub count : kept' ≡ min (kept + 1) (length line)

-- A byte is read. As many bytes of a line are kept as the list lent for it has; what lies past the bytes written stays.
pub record Advances (x : Lent) (line : List ℕ) (kept : ℕ) (out : List ℕ) (size byte : ℕ) (y : Lent) (line' : List ℕ) (kept' : ℕ) (out' : List ℕ) (size' : ℕ) : Type 0 where
  pub reaches : next on_lent (length line) (reached x line kept out size) byte ≡ reached y line' kept' out' size'
  pub holds : held_next (holding line kept) byte ≡ holding line' kept'
  pub short : kept' ≤ length line
  pub more : size ≤ size'
  pub few : size' ≤ size + widest
  pub past : drop size' out' ≡ drop size' out

-- A part is read whole. No more of a line counts as kept than the list has.
pub record FeedsAll (x : Lent) (line : List ℕ) (kept : ℕ) (part out : List ℕ) (y : Lent) (line' : List ℕ) (kept' : ℕ) (out' : List ℕ) (size' : ℕ) : Type 0 where
  pub reaches : fed on_lent (length line) (record { out = []; machine = x; line = take kept line }) part ≡ reached y line' kept' out' size'
  pub holds : held_after (holding line (min kept (length line))) part ≡ holding line' kept'
  pub same : length line' ≡ length line
  pub room : size' ≤ length out
  pub past : drop size' out' ≡ drop size' out

-- As much of a part is read as there is room for an answer to each byte.
pub record Feeds (x : Lent) (line : List ℕ) (kept : ℕ) (part out : List ℕ) (read : ℕ) (y : Lent) (line' : List ℕ) (kept' : ℕ) (out' : List ℕ) (size' : ℕ) : Type 0 where
  pub front : read ≡ min (length part) (length out / widest)
  pub feeds : FeedsAll x line kept (take read part) out y line' kept' out' size'

-- The most bytes that are written at the end: 51 and LF, and a line of at most 384 bytes for each of 64 objects.
abbrev pub end_most : ℕ
end_most = 24579

-- The end of the input: what is printed there is written over the front.
pub record Finishes (x : Lent) (line : List ℕ) (kept : ℕ) (out : List ℕ) (size : ℕ) (out' : List ℕ) : Type 0 where
  pub printed : Printed (ended on_lent x (take kept line)) out size out'
  pub few : size ≤ end_most
