-- Ticket 5 over what the entries left: the count of steps after any list of calls, and the step by 16 and by 64 bits.
use Rattle.std.specs.Prelude.{ℕ, ◌<◌, ◌≡◌, List, get_or}
use Rattle.layout.specs.Layout.{steps_at}
use Rattle.model.specs.Machine.{Call}
use Rattle.model.specs.Told as Entry
use Rattle.theory.specs.CommitOrder.{left}
use Rattle.machine_words.specs.Calls.{Lent, row_of}
use Rattle.guarantees.specs.Counts.{step_narrow, step_wide, count_early, same_step}
use Rattle.machine_words.specs.Said.{CallResult}
use Rattle.cishmolaq.specs.Answers.{Done, said_done, Begins}
use Rattle.guarantees.specs.Made.{Made}
use Rattle.guarantees.specs.Open.{RunningIn, running_phase}
use Rattle.guarantees.specs.PlainCourse.{program_of, made_rep}

-- Where a message runs in slot s: "in a state that start and the calls left, the count never passes 1,024", and counting it in 16
-- bits gives "the same answers, numbers and fields" as in 64.
pub record Counted (x : Lent) (s : ℕ) : Type 0 where
  pub early : get_or (row_of x.words s) steps_at 0 < 1024
  pub same : step_narrow x s ≡ step_wide x s

-- After any list of calls.
pub steps_counted : (x : Lent) (r : Done) (y : Lent) → Begins x r y → said_done r ≡ Entry.done 0 → {cs : List Call} {rs : List CallResult} {z : Lent} → Made y cs rs z
    → (s : ℕ) → s < 8 → RunningIn z s → Counted z s
steps_counted x r y begins e {cs} {rs} {z} made s h run =
    let p = program_of y.text in
    let w = left p y.values cs in
    let rep = made_rep x r y begins e made in
    let two = running_phase z p w rep s h run in
    record { early = count_early z p w rep s h two; same = same_step z p w rep s h two }
