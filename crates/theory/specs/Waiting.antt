-- What is promised of the line (02, Tickets 7 and 8), for any text: the theorems of twophase/Waiting and twophase/InTime for this machine.
use Rattle.std.specs.Prelude.{ℕ, List}
use Rattle.std.proofs.Common.{ap, subst}
use Rattle.model.specs.Read.{library}
use Rattle.model.specs.Vector.{Program, program}
use Rattle.model.specs.Service.{fresh, start_course}
use Rattle.model.specs.Machine.{Call, service}
use Rattle.twophase.specs.Waiting.{Promised, line_kept}
use Rattle.twophase.specs.InTime.{StartsInTime, starts_in_time}
use Rattle.vector_theory.specs.VectorLaws.{Compiled, program_compiled}
use Rattle.theory.specs.ServiceLaws.{laws}
use Rattle.theory.specs.CommitOrder.{left, both_is}

-- After any list of calls, under any rule of resolution whose vectors are compiled.
pub line_promises_by : (p : Program) (values : List ℕ) (cs : List Call) → Compiled p → Promised (service p) (left p values cs)
unfolding laws
line_promises_by p values cs compiled =
    subst (Promised (service p)) (ap (λ y. y.0) (both_is (service p) (fresh (service p) values) (start_course (service p) values) cs))
    (line_kept (service p) (laws p compiled) values tt cs)

-- So under 01's rule, for any text and any values.
pub line_promises : (text values : List ℕ) (cs : List Call) → let p = program (library text) in Promised (service p) (left p values cs)
line_promises text values cs = line_promises_by (program (library text)) values cs (program_compiled (library text))

-- "A waiting send starts no later than the call that ends the last transaction it clashes with" (02, Ticket 7): after any list of calls,
-- under any such rule ..
pub starts_promise_by : (p : Program) (values : List ℕ) (cs : List Call) → Compiled p → StartsInTime (service p) (left p values cs)
unfolding laws
starts_promise_by p values cs compiled =
    subst (StartsInTime (service p)) (ap (λ y. y.0) (both_is (service p) (fresh (service p) values) (start_course (service p) values) cs))
    (starts_in_time (service p) (laws p compiled) values tt cs)

-- .. and so under 01's, for any text and any values.
pub starts_promise : (text values : List ℕ) (cs : List Call) → let p = program (library text) in StartsInTime (service p) (left p values cs)
starts_promise text values cs = starts_promise_by (program (library text)) values cs (program_compiled (library text))
