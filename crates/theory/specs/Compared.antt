-- Which answers demand 3 and Ticket 4 compare, for any text: the law of twophase/Compared for this machine. It needs nothing of the text.
use Rattle.std.specs.Prelude.{ℕ, ◌≡◌, List, [], map}
use Rattle.model.specs.Read.{library}
use Rattle.model.specs.Vector.{Program, program}
use Rattle.model.specs.Service.{compared_in}
use Rattle.model.specs.Machine.{Call, service}
use Rattle.model.specs.Course.{course}
use Rattle.twophase.specs.Compared.{got_by, committed_answers, history, all_compared}
use Rattle.theory.specs.CommitOrder.{answers, plain}

module _ (p : Program) (values : List ℕ) (cs : List Call) where
  -- "Compared are .. each answer in a slot's list at its commit": every answer that a committed transaction got.
  pub committed_compared : map (λ y. y.got) (plain p values cs).compared ≡ committed_answers (service p) [] cs (answers p values cs)
  committed_compared = (all_compared (service p) values cs).committed

  -- "The answers that any transaction got, .. still open" (02, Ticket 4), run on any fields.
  pub open_compared : (s : ℕ) (fields : List ℕ)
      → map (λ y. y.got) (compared_in (service p) ((plain p values cs).slots s).list fields) ≡ got_by (service p) s (history (service p) [] cs (answers p values cs))
  open_compared = (all_compared (service p) values cs).so_far

-- So in the model's course of a text.
pub course_compares : (text values : List ℕ) (cs : List Call) → let p = program (library text) in
    map (λ y. y.got) (course text values cs (answers p values cs)).compared ≡ committed_answers (service p) [] cs (answers p values cs)
unfolding course
course_compares text values cs = committed_compared (program (library text)) values cs
