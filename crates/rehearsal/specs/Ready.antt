-- What the start of a rehearsal promises: the line of a refused text, or the machine started on the text's starting values.
use Rattle.std.specs.Prelude.{Result, Ok, Err, ℕ, ◌≤◌, ◌≡◌, List, length, take, drop}
use Rattle.layout.specs.Layout.{state_words}
use Rattle.model.specs.Library.{Library}
use Rattle.model.specs.Read.{Reading, accepted, refused, read}
use Rattle.model.specs.Vector.{program}
use Rattle.model.specs.Image.{starting_values}
use Rattle.model.specs.Tables.{refusal_printed}
use Rattle.output.specs.Append.{Printed}
use Rattle.machine_words.specs.Calls.{Lent, lending}
use Rattle.machine_refinement.specs.Rep.{Fresh}
use Rattle.rehearsal.specs.declared.NotReady.{NotReady}

-- The most bytes that the line of a refused text has.
abbrev pub refusal_most : ℕ
refusal_most = 30

-- The values are the library's starting values, and the machine is started on them; what lies past the machine's words stays.
pub record Started (x : Lent) (l : Library) (y : Lent) : Type 0 where
  pub starting : y.values ≡ starting_values l
  pub fresh : Fresh y (program l)
  pub past : drop state_words y.words ≡ drop state_words x.words

-- A list with room for just the starting values of an accepted text.
abbrev pub StartsOn : Lent → Lent → Type 0
StartsOn x y = (l : Library) → read x.text ≡ accepted l → length x.values ≡ length (starting_values l) → Started x l y

-- The same with the first `count` of its values.
abbrev pub with_first : ℕ → Lent → Lent
with_first count x = lending x.text x.words (take count x.values)

-- The first `count` values are those that the machine is started on; the others stay.
pub record Readied (x : Lent) (l : Library) (count : ℕ) (y : Lent) : Type 0 where
  pub within : count ≤ length y.values
  pub started : Started x l (with_first count y)
  pub rest : drop count y.values ≡ drop count x.values

-- What `prepare` answers: the number of values, or a refused text.
abbrev pub Prepared : Type 0
Prepared = Result ℕ NotReady

-- A refused text's line is written, and nothing else; an accepted text is started on, and nothing is written.
abbrev pub PreparesOn : Lent → List ℕ → Reading → Prepared → Lent → List ℕ → Type 0
PreparesOn x out (refused fault line) (Err e) y out' = Printed (refusal_printed fault line) out e.size out' × (y ≡ x)
PreparesOn x out (refused fault line) (Ok count) y out' = ⊥
PreparesOn x out (accepted l) (Err e) y out' = ⊥
PreparesOn x out (accepted l) (Ok count) y out' = Readied x l count y × (out' ≡ out)

-- The start of a rehearsal, by the reading of the text, on what is lent and a buffer.
pub record Prepares (x : Lent) (out : List ℕ) (r : Prepared) (y : Lent) (out' : List ℕ) : Type 0 where
  pub by_reading : PreparesOn x out (read x.text) r y out'
