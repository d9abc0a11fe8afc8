-- The machine of a text: 01's messages, locks and undo notes in the slots and calls of Service.
use Rattle.std.specs.Prelude.{ℕ, cond, List, [], ◌++◌, length, get_or, eqb, ltb}
use Rattle.std.proofs.Math.Option.{Option, none, some}
use Rattle.model.specs.Library.{method_names}
use Rattle.model.specs.Read.{Reading, accepted, refused, read}
use Rattle.model.specs.Told.{Told, refusal, or_fault}
use Rattle.model.specs.Image.{starting_values, counted}
use Rattle.model.specs.Vector.{Program, program}
pub use Rattle.model.specs.Message.{Target, object, class, domain}
use Rattle.model.specs.Message.{Message, class_of, visited, Effect, act, Run, begun, turn}
use Rattle.model.specs.Lock.{Lock, domain_of, locks_for, locks_clash, locks_held}
pub use Rattle.model.specs.Undo.{Note, sum_added, old_value, Undo, renoted, noted, restored, put_back}
use Rattle.model.specs.Alone.{alone}
use Rattle.model.specs.Service as Calls
pub use Rattle.model.specs.Service.{send, step, commit, abort, Answer, done, going, answer, refuse, held, stopped, World, Slot, closed, opened, Transaction, Waiter}
use Rattle.model.specs.Service.{Service, fresh, run_calls}

-- "A send names slot, method place, argument and one target".
pub data Request : Type 0 where
  to : Target → ℕ → ℕ → Request

abbrev pub Call : Type 0
Call = Calls.Call Request

-- A message to the target, for a method place that its class has.
abbrev pub method_at : Program → Target → ℕ → ℕ → ℕ → Option Message
method_at p t c k a =
    let names = method_names p.library c in
    cond (ltb k (length names)) (some (record { target = t; method = get_or names k []; argument = a })) none

-- "36 no such object, class or method": none.
abbrev pub message_to : Program → Target → ℕ → ℕ → Option Message
message_to p (object o) k a = cond (ltb o (length p.library.objects)) (method_at p (object o) (class_of p o) k a) none
message_to p (class c) k a = cond (ltb c (length p.library.classes)) (method_at p (class c) c k a) none
message_to p (domain c) k a = cond (ltb c (length p.library.classes)) (method_at p (domain c) c k a) none

abbrev pub find : Program → Request → Option Message
find p (to t k a) = message_to p t k a

-- The machine's parts as a Service.
abbrev pub service : Program → Service
service p =
    record {
      Fields = List ℕ;
      Request = Request;
      Message = Message;
      Run = Run;
      Effect = Effect;
      Undo = Undo;
      Locks = List Lock;
      find = find p;
      begun = begun p;
      turn = turn p;
      act = act;
      clean = λ k. sum_added 0;
      noted = noted;
      put_back = put_back;
      unlocked = [];
      lock = λ m held. locks_for p m.target m.method ++ held;
      clash = λ m held. locks_clash p (locks_for p m.target m.method) held;
      meets = λ m n. locks_clash p (locks_for p m.target m.method) (locks_for p n.target n.method);
      holds = λ m held. locks_held (locks_for p m.target m.method) held;
      alone = alone p;
    }

-- One call of the machine: its answer, and the world after it.
abbrev pub call : (p : Program) → World (service p) → Call → Answer × World (service p)
call p w c = Calls.call (service p) w c

-- The answer of a start on a text, that many values and a state of `size` words: the text's fault, 21, 22. `one` is the state's "one
-- length, the same for every text, named in docs/".
unfoldable pub start_answer : ℕ → List ℕ → ℕ → ℕ → Told
unfolding read starting_values
start_answer one text count size = or_fault (read text) (λ l. cond (ltb size one) (refusal 21 0) (counted l count))

-- The answers of a list of calls made after a start on these values, and the fields after it.
unfoldable pub played_by : Program → List ℕ → List Call → List Answer × List ℕ
unfolding run_calls visited domain_of locks_clash locks_held turn put_back
played_by p values cs = let (answers, last) = run_calls (service p) (fresh (service p) values) cs in (answers, last.fields)

abbrev pub played_on : Reading → List ℕ → List Call → List Answer × List ℕ
played_on (refused fault line) values cs = ([], values)
played_on (accepted l) values cs = cond (eqb (length values) (length (starting_values l))) (played_by (program l) values cs) ([], values)

-- The answers and the fields after a list of calls made after a start on a text and values; a refused start answers no call.
unfoldable pub played : List ℕ → List ℕ → List Call → List Answer × List ℕ
unfolding read played_by program starting_values
played text values cs = played_on (read text) values cs
