-- What filling the tables of an accepted text leaves.
use Rattle.std.specs.Prelude.{ℕ, ◌≡◌, List, length, get_or}
use Rattle.layout.specs.Layout.{value_count_at, text_length_at, start_mark_at, table_words}
use Rattle.model.specs.Read.{accepted, read}
use Rattle.model.specs.Vector.{program}
use Rattle.catalog.specs.View.{library_of}
use Rattle.image.specs.Sizes.{value_count}
use Rattle.machine_words.specs.Calls.{mark}
use Rattle.machine_refinement.specs.Rep.{Fits}
use Rattle.machine_start.specs.Stored.{Few}

-- Tables that a start has filled: they fit the text's program, and tell what later calls must be lent.
pub record Started (text ws ws' : List ℕ) : Type 0 where
  pub size : length ws' ≡ table_words
  pub fits : Fits text ws' (program (library_of text ws))
  pub few : Few ws'
  pub values : get_or ws' value_count_at 0 ≡ value_count ws
  pub text_length : get_or ws' text_length_at 0 ≡ length text
  pub marked : get_or ws' start_mark_at 0 ≡ mark

-- The tables keep their length; those of an accepted text are as a start fills them.
pub record Fill (text ws ws' : List ℕ) : Type 0 where
  pub size : length ws' ≡ table_words
  pub started : read text ≡ accepted (library_of text ws) → Started text ws ws'
