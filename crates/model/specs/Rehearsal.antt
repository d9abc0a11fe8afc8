-- What the program `rehearse` prints for the bytes of `lib.txt` and of standard input (02, Ticket 2).
use Rattle.std.specs.Prelude.{ℕ, cond, ◌&&◌, length, get_or, take, drop}
use Rattle.std.proofs.Math.Option.{Option, none, some}
use mathlib.Core.List.{List, [], ◌∷◌, ◌++◌, map, flat_map}
use Rattle.model.specs.Base.{bytes, same, any, keep, first_at, put, least, leads}
use Rattle.model.specs.Text.{pieces, words}
use Rattle.model.specs.Word.{Name, is_name, is_number, decimal}
use Rattle.model.specs.Library.{Library, Object, class_at, class_number, member_place}
use Rattle.model.specs.Read.{Reading, accepted, refused, read}
use Rattle.model.specs.Vector.{Program, program}
use Rattle.model.specs.Image.{starting_values}
use Rattle.model.specs.Tables.{digits, refusal_printed}
use Rattle.model.specs.Message.{visited, turn}
use Rattle.model.specs.Lock.{domain_of, locks_clash, locks_held}
use Rattle.model.specs.Undo.{put_back}
use Rattle.model.specs.Service.{World, fresh}
use Rattle.model.specs.Machine.{object, class, domain, Call, Request, to, send, step, commit, abort, Answer, done, going, answer, refuse, held, stopped, service, call}

-- ---- lines to any machine that answers them

-- What is printed for a line, and the machine after it.
pub record Reply (Machine : Type 0) : Type 0 where
  pub printed : List ℕ
  pub machine : Machine

-- A machine that answers lines: its reply to each, and what is printed at the end.
pub record Lines (Machine : Type 0) : Type 0 where
  pub reply : Machine → List ℕ → Reply Machine
  pub last : Machine → List ℕ

-- A last line that no LF ends is a call line of another form; there is none where the input ends with LF.
abbrev pub unended : List ℕ → List ℕ
unended [] = []
unended (b ∷ l) = bytes "51\n"

module _ {Machine : Type 0} (m : Lines Machine) where
  -- The replies to the pieces between LFs, one after another; the last piece is what follows the last LF.
  abbrev pub by_lines : Machine → List (List ℕ) → List ℕ
  by_lines w [] = m.last w
  by_lines w (rest ∷ []) = unended rest ++ m.last w
  by_lines w (line ∷ next ∷ lines) = (m.reply w line).printed ++ by_lines (m.reply w line).machine (next ∷ lines)

  -- What is printed for an input.
  unfoldable pub printed_for : Machine → List ℕ → List ℕ
  unfolding pieces
  printed_for w input = by_lines w (pieces 10 input)

-- ---- the form of a call line

-- Whom a send names: an object, a class's own objects, or a class's domain.
pub data Aim : Type 0 where
  at_object at_class at_domain : Name → Aim

pub data CallLine : Type 0 where
  step_line commit_line abort_line : ℕ → CallLine
  send_line : ℕ → Aim → Name → ℕ → CallLine

-- "`step S`, `commit S` and `abort S`"
abbrev pub slot_form : List ℕ → ℕ → Option CallLine
slot_form k s =
    cond (same k (bytes "step")) (some (step_line s))
    (cond (same k (bytes "commit")) (some (commit_line s))
    (cond (same k (bytes "abort")) (some (abort_line s)) none))

-- "`send S OBJECT M A`, `all S CLASS M A`, `tree S CLASS M A`"
abbrev pub send_form : List ℕ → ℕ → Name → Name → ℕ → Option CallLine
send_form k s n m a =
    cond (same k (bytes "send")) (some (send_line s (at_object n) m a))
    (cond (same k (bytes "all")) (some (send_line s (at_class n) m a))
    (cond (same k (bytes "tree")) (some (send_line s (at_domain n) m a)) none))

-- "S and A are numbers, the rest names; spaces and LF as in the class text"; none for "a call line of another form".
unfoldable pub call_line : List (List ℕ) → Option CallLine
unfolding same is_name is_number decimal
call_line [] = none
call_line (k ∷ []) = none
call_line (k ∷ s ∷ []) = cond (is_number s) (slot_form k (decimal 0 s)) none
call_line (k ∷ s ∷ n ∷ []) = none
call_line (k ∷ s ∷ n ∷ m ∷ []) = none
call_line (k ∷ s ∷ n ∷ m ∷ a ∷ []) = cond (is_number s && is_name n && is_name m && is_number a) (send_form k (decimal 0 s) n m (decimal 0 a)) none
call_line (k ∷ s ∷ n ∷ m ∷ a ∷ b ∷ ws) = none

-- ---- the call

-- The class of an object; a number past the last class where there is no such object.
abbrev pub class_of_number : Library → ℕ → ℕ
class_of_number l o = get_or (map (λ x. x.class) l.objects) o (length l.classes)

-- A method of the target's class, with an argument. "An unknown name is 36": it is looked up as a number past the last, which no
-- object, class or method has, so that the machine gives 36 in its order.
unfoldable pub request_for : Library → Aim → Name → ℕ → Request
unfolding member_place class_number first_at same
request_for l (at_object n) m a =
    let o = first_at (λ x. same x.name n) l.objects in
    to (object o) (member_place (class_at l (class_of_number l o)).methods m) a
request_for l (at_class n) m a = let c = class_number l n in to (class c) (member_place (class_at l c).methods m) a
request_for l (at_domain n) m a = let c = class_number l n in to (domain c) (member_place (class_at l c).methods m) a

abbrev pub call_for : Library → CallLine → Call
call_for l (step_line s) = step s
call_for l (commit_line s) = commit s
call_for l (abort_line s) = abort s
call_for l (send_line s n m a) = send s (request_for l n m a)

-- ---- what is printed

-- "the number given (for 40 also the slot), `going`, `ok`, or `answer V`"
abbrev pub answer_printed : Answer → List ℕ
answer_printed done = bytes "ok\n"
answer_printed going = bytes "going\n"
answer_printed (answer v) = bytes "answer " ++ digits 10 v ++ bytes "\n"
answer_printed (refuse n) = digits 10 n ++ bytes "\n"
answer_printed (held s) = bytes "40 " ++ digits 10 s ++ bytes "\n"
answer_printed stopped = bytes "41\n"

-- "51, a call line of another form, is tested first in its line and has no other effect"
abbrev pub reply_to : (p : Program) → World (service p) → Option CallLine → Reply (World (service p))
reply_to p w none = record { printed = bytes "51\n"; machine = w }
reply_to p w (some c) = let (a, next) = call p w (call_for p.library c) in record { printed = answer_printed a; machine = next }

-- "a line for each object, name and values, single spaces": the values of the objects one after another.
unfoldable pub objects_printed : Library → List Object → List ℕ → List ℕ
unfolding flat_map digits
objects_printed l [] values = []
objects_printed l (x ∷ xs) values =
    let n = length (class_at l x.class).fields in
    x.name ++ flat_map (λ v. bytes " " ++ digits 10 v) (take n values) ++ bytes "\n" ++ objects_printed l xs (drop n values)

-- The machine of a program, which answers call lines.
unfoldable pub on_program : (p : Program) → Lines (World (service p))
unfolding call_line request_for words any keep put least leads visited domain_of locks_clash locks_held turn put_back objects_printed
on_program p = record { reply = λ w line. reply_to p w (call_line (words line)); last = λ w. objects_printed p.library p.library.objects w.fields }

-- "a faulty text prints as in `tables`, and no call is run"; else the machine is started on the text's starting values.
abbrev pub rehearsed_on : Reading → List ℕ → List ℕ
rehearsed_on (refused fault line) calls = refusal_printed fault line
rehearsed_on (accepted l) calls = printed_for (on_program (program l)) (fresh (service (program l)) (starting_values l)) calls

-- "What it prints is a definition applied to both inputs."
unfoldable pub rehearsed : List ℕ → List ℕ → List ℕ
unfolding read program starting_values refusal_printed on_program printed_for
rehearsed text calls = rehearsed_on (read text) calls
