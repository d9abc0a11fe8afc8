-- When lent words represent a world of the model: what a slot's row represents, when the tables fit a program, and both together.
use Rattle.std.specs.Prelude.{ℕ, zero, suc, ◌+◌, ◌-◌, ◌/◌, ◌%◌, ◌≤◌, ◌<◌, ◌≡◌, Bool, true, false, cond, ◌&&◌, length, get_or, take, drop, eqb, ltb}
use Rattle.std.proofs.Math.Option.{Option, none, some}
use mathlib.Core.List.{List, [], ◌∷◌, map, Memᴰ}
use Rattle.layout.specs.Layout.{values_most, value_count_at, domain_at, commuting_at, object_class_at, object_values_at, depth_at, steps_at, sum_at, object_at, kind_at, number_at, name_at, argument_at, changed_at, lock_marks_at, called_at, next_at, end_at, arg_at, got_at, reply_at, shallow_at, object_locks_at, class_locks_at, whole_locks_at, marks_at, waiting_at, notes_at}
use Rattle.model.specs.Base.{any}
use Rattle.model.specs.Text.{words}
use Rattle.model.specs.Word.{Name}
use Rattle.model.specs.Expression as Expression
use Rattle.model.specs.Form.{Statement, reply, statement_line, form_of}
use Rattle.model.specs.Library.{Library, no_member, class_at, member_place, as_recorded, method_names}
use Rattle.model.specs.Vector.{Program}
use Rattle.model.specs.Image.{commute_mask}
use Rattle.model.specs.Message.{Target, object, class, domain, Message, Activation, Run, base_of}
use Rattle.model.specs.Message as Model
use Rattle.model.specs.Lock.{Lock, on_object, on_class, locks_for, lock_method, same_lock}
use Rattle.model.specs.Service.{Slot, closed, opened, Transaction, Waiter, World}
use Rattle.model.specs.Machine.{service}
use Rattle.twophase.specs.Line.{Once}
use Rattle.text_theory.specs.Copies.{Copied}
use Rattle.text_theory.specs.Named.{Names}
use Rattle.text_theory.specs.NamedRuns.{NamedRun}
use Rattle.catalog.specs.View.{name_of, part_of, class_word, object_word, statement_word, class_count, object_count, statement_count, member_count, library_of}
use Rattle.laws.specs.Bits.{bit}
use Rattle.machine_words.specs.Row.{act, note_at, blank}
use Rattle.machine_words.specs.Turn.{target_there}
use Rattle.machine_words.specs.Line.{waiting_in, wanted_in, withdrawn, count_in, first_in_line}
use Rattle.machine_words.specs.Calls.{Lent, tables_of, row_of, phase_of, misfit_of}
use Rattle.machine_words.specs.Request.{wanted}

-- ---- what a row represents

-- A target by its kind and number.
abbrev pub target_by : ℕ → ℕ → Target
target_by kind n = cond (eqb kind 0) (object n) (cond (eqb kind 1) (class n) (domain n))

-- The message that a row represents.
abbrev pub message_of : List ℕ → List ℕ → Message
message_of text row =
    record { target = target_by (get_or row kind_at 0) (get_or row number_at 0); method = name_of text (get_or row name_at 0); argument = get_or row argument_at 0 }

-- The statements from number `from` up to `end`.
unfoldable pub between : Library → ℕ → ℕ → List Statement
between l from end = map (λ s. s.statement) (take (end - from) (drop from l.statements))

-- Activation k: what is left of its body, its arg, its got, its reply.
unfoldable pub activation_of : Library → List ℕ → ℕ → Activation
unfolding act between
activation_of l row k = record { rest = between l (act row k next_at) (act row k end_at); arg = act row k arg_at; got = act row k got_at; reply = act row k reply_at }

-- The activations, the latest first.
unfoldable pub stack_of : Library → List ℕ → ℕ → List Activation
unfolding activation_of
stack_of l row zero = []
stack_of l row (suc d) = activation_of l row d ∷ stack_of l row d

-- Those of the n numbers from `from` on that pass the test.
unfoldable pub passing : (ℕ → Bool) → ℕ → ℕ → List ℕ
passing q from zero = []
passing q from (suc n) = cond (q from) (from ∷ passing q (suc from) n) (passing q (suc from) n)

-- The objects of a target from number `from` on.
unfoldable pub objects_from : Program → Target → ℕ → List ℕ
unfolding passing
objects_from p t from = passing (Model.in_target p t) from (length p.library.objects - from)

-- The running message that a row represents.
unfoldable pub run_of : List ℕ → Program → List ℕ → Run
unfolding objects_from stack_of name_of
run_of text p row =
    record {
      message = message_of text row;
      objects = objects_from p (message_of text row).target (get_or row object_at 0);
      activations = stack_of p.library row (get_or row depth_at 0);
      steps = get_or row steps_at 0;
      sum = get_or row sum_at 0;
    }

-- The row's word for a lock. Its bit there is the method's place in its class.
abbrev pub lock_word : Lock → ℕ
lock_word (on_object o m) = object_locks_at + o
lock_word (on_class c m false) = class_locks_at + c
lock_word (on_class c m true) = whole_locks_at + c

-- The class that has the lock's method.
abbrev pub lock_class : Program → Lock → ℕ
lock_class p (on_object o m) = Model.class_of p o
lock_class p (on_class c m w) = c

unfoldable pub lock_bit : Program → Lock → ℕ
unfolding member_place
lock_bit p x = member_place (class_at p.library (lock_class p x)).methods (lock_method x)

-- A lock on an object or a class that exists. The words can hold it where its class has the method.
abbrev pub on_known : Program → Lock → Bool
on_known p (on_object o m) = ltb o (length p.library.objects) && ltb (Model.class_of p o) (length p.library.classes)
on_known p (on_class c m w) = ltb c (length p.library.classes)

abbrev pub Holdable : Program → Lock → Type 0
Holdable p x = (on_known p x ≡ true) × (lock_bit p x < length (class_at p.library (lock_class p x)).methods)

-- Whether the row has the lock's bit.
unfoldable pub held_in : Program → List ℕ → Lock → Bool
unfolding lock_bit bit
held_in p row x = bit (get_or row (lock_word x) 0) (lock_bit p x)

-- The row's lock words hold the locks of the list; a bit of no method is 0.
pub record Holds (p : Program) (row : List ℕ) (held : List Lock) : Type 0 where
  pub known : (x : Lock) → Holdable p x → held_in p row x ≡ any (same_lock x) held
  pub spare : (x : Lock) → on_known p x ≡ true → (k : ℕ) → length (class_at p.library (lock_class p x)).methods ≤ k
      → bit (get_or row (lock_word x) 0) k ≡ false

-- ---- when tables fit a program

-- A statement of the text by its number; past the last, one that replies 0.
abbrev pub statement_at : Library → ℕ → Statement
statement_at l s = get_or (map (λ x. x.statement) l.statements) s (record { guard = none; action = reply (Expression.number 0) })

-- The names of a class's methods are all different: the name at a place is found there.
abbrev pub Distinct : Program → ℕ → Type 0
Distinct p c = (j : ℕ) → j < length (class_at p.library c).methods → member_place (class_at p.library c).methods (get_or (method_names p.library c) j []) ≡ j

-- The tables represent the program's library and hold what a start works out from it; the rest is what accepting a text gives.
pub record Fits (text tables : List ℕ) (p : Program) : Type 0 where
  pub library : library_of text tables ≡ p.library
  pub resolve : p.resolve ≡ as_recorded p.library
  pub commuting : (c j : ℕ) → c < class_count tables → j < member_count tables c 1
      → class_word tables c (commuting_at + j) ≡ commute_mask (get_or p.vectors c []) (get_or (get_or p.vectors c []) j [])
  pub rows : (c : ℕ) → c < class_count tables → length (get_or p.vectors c []) ≡ member_count tables c 1
  pub domains : (c d : ℕ) → c < class_count tables → bit (class_word tables c domain_at) d ≡ (ltb d (class_count tables) && Model.in_domain p c d)
  pub bases : (o : ℕ) → o < object_count tables → object_word tables o object_values_at ≡ base_of p o
  pub total : get_or tables value_count_at 0 ≡ base_of p (object_count tables)
  pub known : (o : ℕ) → o < object_count tables → object_word tables o object_class_at < class_count tables
  pub distinct : (c : ℕ) → c < class_count tables → Distinct p c
  pub bodies : (c j : ℕ) → c < class_count tables → j < member_count tables c 1
      → let b = get_or (class_at p.library c).methods j no_member in b.first + b.count ≤ statement_count tables
  pub copies : (c j : ℕ) → c < class_count tables → j < member_count tables c 1 → Copied p.library (get_or (class_at p.library c).methods j no_member)
  pub lines : (s : ℕ) → s < statement_count tables → form_of (words (part_of text (statement_word tables s))) ≡ statement_line (statement_at p.library s)
  pub places : (s : ℕ) → s < statement_count tables → let w = statement_word tables s in w / 65536 + w % 65536 ≤ length text
  pub names : Names p.library

-- ---- slots and worlds

-- What holds of a row whose message runs: its target exists; it is on an object of the target, with 1 to 8 activations, each
-- within the text's statements, or past the last object; and fewer than 1,024 steps were taken on its object.
pub record Running (tables : List ℕ) (p : Program) (row : List ℕ) : Type 0 where
  pub depth : get_or row depth_at 0 ≤ 8
  pub within : get_or row object_at 0 ≤ object_count tables
  pub active : get_or row object_at 0 < object_count tables → 0 < get_or row depth_at 0
  pub visiting : get_or row object_at 0 < object_count tables → Model.in_target p (target_by (get_or row kind_at 0) (get_or row number_at 0)) (get_or row object_at 0) ≡ true
  pub starts : (k : ℕ) → k < get_or row depth_at 0 → act row k next_at ≤ act row k end_at
  pub ends : (k : ℕ) → k < get_or row depth_at 0 → act row k end_at ≤ statement_count tables
  pub target : target_there tables (get_or row kind_at 0) (get_or row number_at 0) ≡ true
  pub early : get_or row steps_at 0 < 1024

-- What runs in an open slot: nothing (phase 1), or the run that the row represents (phase 2), whose names are known.
abbrev pub NowRep : List ℕ → List ℕ → Program → List ℕ → Option Run → Type 0
NowRep text tables p row none = phase_of row ≡ 1
NowRep text tables p row (some r) = (phase_of row ≡ 2) × (r ≡ run_of text p row) × Running tables p row × NamedRun p r

-- At most one activation is open, and the words of the others are 0.
abbrev pub Shallow : List ℕ → Type 0
Shallow row = (get_or row depth_at 0 ≤ 1) × ((i : ℕ) → shallow_at ≤ i → i < object_locks_at → get_or row i 0 ≡ 0)

-- What the row has not marked as written is 0: a note without its mark, the marks where no value was changed, the words where no
-- lock was taken, the activations past the first where no self-call was made.
pub record Clean (row : List ℕ) : Type 0 where
  pub notes : (k : ℕ) → k < values_most → bit (get_or row (marks_at + k / 32) 0) (k % 32) ≡ false → get_or row (notes_at + k) 0 ≡ 0
  pub marks : get_or row changed_at 0 ≡ 0 → (i : ℕ) → marks_at ≤ i → i < waiting_at → get_or row i 0 ≡ 0
  pub spare : (i : ℕ) → waiting_at ≤ i → i < notes_at → get_or row i 0 ≡ 0
  pub locks : (i : ℕ) → object_locks_at ≤ i → i < marks_at → bit (get_or row lock_marks_at 0) (i / 8) ≡ false → get_or row i 0 ≡ 0
  pub calls : get_or row called_at 0 ≡ 0 → Shallow row

pub record OpenRep (text tables : List ℕ) (p : Program) (row : List ℕ) (t : Transaction (service p)) : Type 0 where
  pub undo : (k : ℕ) → note_at row k ≡ t.undo k
  pub clean : Clean row
  pub locks : Holds p row t.locks
  pub now : NowRep text tables p row t.running

-- A closed slot's row is blank.
abbrev pub SlotRep : List ℕ → List ℕ → (p : Program) → List ℕ → Slot (service p) → Type 0
SlotRep text tables p row closed = row ≡ blank
SlotRep text tables p row (opened t) = OpenRep text tables p row t

-- ---- the line

-- The name of the method at place k of class c.
abbrev pub method_of : Program → ℕ → ℕ → Name
method_of p c k = get_or (method_names p.library c) k []

-- A target by its kind and number, with the class that has its methods.
pub data Aims (tables : List ℕ) (c : ℕ) : ℕ → ℕ → Target → Type 0 where
  one : (o : ℕ) → o < object_count tables → object_word tables o object_class_at ≡ c → Aims tables c 0 o (object o)
  each : Aims tables c 1 c (class c)
  whole : Aims tables c 2 c (domain c)

-- The message to a target, for the method at place k of class c.
abbrev pub message_for : Program → Target → ℕ → ℕ → ℕ → Message
message_for p t c k a = record { target = t; method = method_of p c k; argument = a }

-- The row's slot waits, and the words of its waiting send represent the message and hold its locks.
pub record Waits (text tables : List ℕ) (p : Program) (row : List ℕ) (m : Message) : Type 0 where
  pub phase : phase_of row ≡ 3
  pub class : ℕ
  pub place : ℕ
  pub argument : ℕ
  pub kind : ℕ
  pub number : ℕ
  pub target : Target
  pub known : class < class_count tables
  pub has : place < member_count tables class 1
  pub aims : Aims tables class kind number target
  pub wants : wanted_in tables (waiting_in row) ≡ wanted tables kind number class place argument
  pub sends : m ≡ message_for p target class place argument
  pub locks : Holds p (waiting_in row) (locks_for p target (method_of p class place))

-- The row of a slot, without its waiting send where it waits.
abbrev pub settled : List ℕ → List ℕ
settled row = cond (eqb (phase_of row) 3) (withdrawn row) row

-- ---- worlds

-- What is lent represents a world of the program, where the first n places of the line are the world's, and `all` are those who wait: in
-- the middle of waking they are more than the world's line.
pub record RepAt (x : Lent) (p : Program) (w : World (service p)) (n : ℕ) (all : List (Waiter (service p))) : Type 0 where
  pub fit : misfit_of x ≡ 0
  pub fits : Fits x.text (tables_of x.words) p
  pub fields : w.fields ≡ x.values
  pub slots : (t : ℕ) → t < 8 → SlotRep x.text (tables_of x.words) p (settled (row_of x.words t)) (w.slots t)
  pub places : first_in_line x.words n ≡ map (λ v. v.slot) w.line
  pub below : (v : Waiter (service p)) → Memᴰ v all → v.slot < 8
  pub waits : (v : Waiter (service p)) → Memᴰ v all → Waits x.text (tables_of x.words) p (row_of x.words v.slot) v.message
  pub waiting : (t : ℕ) → t < 8 → phase_of (row_of x.words t) ≡ 3 → (v : Waiter (service p)) × Memᴰ v all × (v.slot ≡ t)
  pub once : Once (service p) all

abbrev pub Rep : Lent → (p : Program) → World (service p) → Type 0
Rep x p w = RepAt x p w (count_in x.words) w.line

-- The words of a fresh start: they fit, the tables fit the program, the eight rows are blank, and nobody waits.
pub record Fresh (x : Lent) (p : Program) : Type 0 where
  pub fit : misfit_of x ≡ 0
  pub fits : Fits x.text (tables_of x.words) p
  pub rows : (t : ℕ) → t < 8 → row_of x.words t ≡ blank
  pub line : count_in x.words ≡ 0
