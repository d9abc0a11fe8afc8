-- The plain course of a text, with which demand 3 compares the machine (01, "The plain course").
use Rattle.std.specs.Prelude.{ℕ, List}
pub use Rattle.model.specs.Alone.{Ran, then_run, go_on, finished, object_by_object, alone}
use Rattle.model.specs.Read.{library}
use Rattle.model.specs.Vector.{program}
pub use Rattle.model.specs.Service.{Course, Compared}
use Rattle.model.specs.Service.{Answer, start_course, fed_all}
use Rattle.model.specs.Machine.{Call, service}

-- "The plain course .. is fed the text, the starting fields, and the list's calls with their answers".
unfoldable pub course : (text : List ℕ) → List ℕ → List Call → List Answer → Course (service (program (library text)))
unfolding library program fed_all alone service
course text values cs answers = let p = program (library text) in fed_all (service p) (start_course (service p) values) cs answers
