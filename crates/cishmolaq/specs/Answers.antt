-- What the entries over a whole text answer, in the model's terms, and what they leave in the lent memory.
use Rattle.std.specs.Prelude.{Result, Ok, Err, ℕ, ◌+◌, ◌≤◌, ◌≡◌, List, length, drop}
use Rattle.layout.specs.Layout.{state_words}
use Rattle.model.specs.Read.{library}
use Rattle.model.specs.Told.{Told, done, refusal, fitted, into}
use Rattle.model.specs.Image.{compile_answer, compiled_into, statement_place, values_answer, starting_values_into}
use Rattle.model.specs.Tables.{print_answer, printed_into}
use Rattle.model.specs.Vector.{program}
use Rattle.model.specs.Machine.{start_answer}
use Rattle.machine_words.specs.Calls.{Lent, with_words}
use Rattle.machine_refinement.specs.Rep.{Fresh}
use Rattle.cishmolaq.specs.declared.Place.{Place}
use Rattle.refusals.specs.Numbers.{fault_number, refusal_number}
use Rattle.cishmolaq.specs.declared.Error.{Error}
use Rattle.cishmolaq.specs.declared.Error.TheVariants.{Text, Lent as Unfit}

-- The number of an error, and its line; 0 where it has none.
abbrev pub error_number : Error → ℕ
error_number (Text r) = fault_number r.fault
error_number (Unfit r) = refusal_number r

abbrev pub error_line : Error → ℕ
error_line (Text r) = r.line
error_line (Unfit r) = 0

-- What `start`, and another entry with no length, answers.
abbrev pub Done : Type 0
Done = Result (Unit {0}) Error

-- Done, with a length where one is asked for; or refused.
abbrev pub said : Result ℕ Error → Told
said (Ok n) = done n
said (Err e) = refusal (error_number e) (error_line e)

abbrev pub said_done : Done → Told
said_done (Ok x) = done 0
said_done (Err e) = refusal (error_number e) (error_line e)

-- Where the answer is a number, what was lent is unchanged.
abbrev pub Kept : Told → List ℕ → List ℕ → Type 0
Kept (done n) before after = Unit {0}
Kept (refusal number line) before after = after ≡ before

-- The answer of writing a run into a buffer, and the buffer after it.
pub record Fits (run buffer : List ℕ) (r : Result ℕ Error) (after : List ℕ) : Type 0 where
  pub says : said r ≡ fitted run (length buffer)
  pub bytes : after ≡ into run buffer
  pub kept : Kept (said r) buffer after

-- The answer of `compile`, and the buffer after it.
pub record Compiles (text buffer : List ℕ) (r : Result ℕ Error) (after : List ℕ) : Type 0 where
  pub says : said r ≡ compile_answer text (length buffer)
  pub bytes : after ≡ compiled_into text buffer
  pub kept : Kept (said r) buffer after

-- The answer of `print_tables`, and the buffer after it.
pub record Prints (text buffer : List ℕ) (r : Result ℕ Error) (after : List ℕ) : Type 0 where
  pub says : said r ≡ print_answer text (length buffer)
  pub bytes : after ≡ printed_into text buffer
  pub kept : Kept (said r) buffer after

-- The place that `statement_place` answers, which is within the text.
pub record Stands (text : List ℕ) (count : ℕ) (r : Place) : Type 0 where
  pub place : statement_place text count ≡ (r.at, r.size)
  pub within : r.at + r.size ≤ length text

-- The answer of `starting_values`, and the list after it.
pub record Starts (text list : List ℕ) (r : Done) (after : List ℕ) : Type 0 where
  pub says : said_done r ≡ values_answer text (length list)
  pub values : after ≡ starting_values_into text list
  pub kept : Kept (said_done r) list after

-- What a start leaves: the words of a fresh start, and what lies past them and beside them unchanged; where it gives a number, all
-- unchanged.
abbrev pub StartLeaves : Lent → Told → Lent → Type 0
StartLeaves x (done n) y =
    Fresh y (program (library y.text)) × (drop state_words y.words ≡ drop state_words x.words) × (y ≡ with_words x y.words)
StartLeaves x (refusal number line) y = y ≡ x

-- The answer of `start`, and what it leaves of what is lent.
pub record Begins (x : Lent) (r : Done) (y : Lent) : Type 0 where
  pub says : said_done r ≡ start_answer state_words x.text (length x.values) (length x.words)
  pub leaves : StartLeaves x (said_done r) y
