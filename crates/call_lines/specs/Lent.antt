-- Call lines over what is lent: each makes its call there, whatever is lent.
use Rattle.std.specs.Prelude.{ℕ, List}
use Rattle.std.proofs.Math.Option.{Option, none, some}
use Rattle.model.specs.Base.{bytes}
use Rattle.model.specs.Text.{words}
use Rattle.model.specs.Library.{Library}
use Rattle.model.specs.Rehearsal.{Reply, Lines, CallLine, call_line, request_for, call_for, answer_printed, objects_printed}
use Rattle.catalog.specs.View.{library_of}
use Rattle.machine_words.specs.Calls.{Lent, After, tables_of, called}

-- The library that the lent words hold.
abbrev pub lent_library : List ℕ → List ℕ → Library
lent_library text ws = library_of text (tables_of ws)

-- The line printed for a call, and what the call leaves.
abbrev pub replied : After → Reply Lent
replied x = record { printed = answer_printed x.answered; machine = x.lent }

abbrev pub lent_reply : Lent → Option CallLine → Reply Lent
lent_reply x none = record { printed = bytes "51\n"; machine = x }
lent_reply x (some c) = replied (called x (call_for (lent_library x.text x.words) c))

-- The lines of the objects.
abbrev pub lent_last : Lent → List ℕ
lent_last x = let l = lent_library x.text x.words in objects_printed l l.objects x.values

-- The machine in lent memory, whatever is lent: what the code's contracts cite.
unfoldable pub on_lent : Lines Lent
unfolding call_line request_for called library_of objects_printed
on_lent = record { reply = λ x line. lent_reply x (call_line (words line)); last = lent_last }
