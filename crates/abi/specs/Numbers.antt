-- What the C functions over a text answer: a number, and through a lent place a detail, which is a length or a line.
use Rattle.std.specs.Prelude.{ℕ, ◌+◌, ◌≤◌, ◌≡◌, List, length}
use Rattle.model.specs.Told.{Told, number_of, detail_of}
use Rattle.model.specs.Image.{statement_place}
use Rattle.cishmolaq.specs.Answers.{Kept}

-- An answer as a number and a detail. No refusal is returned as 0 (`Laws.never-0`).
pub record Tells (answer : Told) (r detail : ℕ) : Type 0 where
  pub number : r ≡ number_of answer
  pub beside : detail ≡ detail_of answer

-- An answer, and what the lent memory then holds.
pub record Writes (answer : Told) (before result : List ℕ) (r detail : ℕ) (after : List ℕ) : Type 0 where
  pub tells : Tells answer r detail
  pub holds : after ≡ result
  pub kept : Kept answer before after

-- "the statement is handed back as that part of the caller's text": by its place and its size, which lie within the text.
pub record HandsBack (text : List ℕ) (count at size : ℕ) : Type 0 where
  pub place : statement_place text count ≡ (at, size)
  pub within : at + size ≤ length text
