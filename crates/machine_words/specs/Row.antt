-- A slot's row of the state, and what a turn does to it. crates/layout/specs/Layout.antt has the places of its words. A closed
-- slot's row is all zero.
-- - phase: 0 closed, 1 open, 2 a message runs, 3 a send waits; kind of the target: 0 an object, 1 a class, 2 a domain
-- - the method's name: place * 32 + length
-- - class c's locks (M, false) are at `class_locks_at` + c, its locks (M, true) at `whole_locks_at` + c
-- - value k was set or added to where bit k % 32 of the word at `marks_at` + k / 32 is 1, and set where that at `set_marks_at` + k / 32
--   is 1; the word of its undo note is at `notes_at` + k
use Rattle.std.specs.Prelude.{ℕ, zero, suc, ◌+◌, ◌*◌, ◌-◌, ◌/◌, ◌%◌, ◌^◌, Bool, true, false, cond, List, [], ◌∷◌, ◌++◌, get_or, set, drop, replicate, eqb, ltb}
use Rattle.std.specs.Int.Bits.{bit_or}
use Rattle.layout.specs.Layout.{values_most, phase_at, depth_at, steps_at, sum_at, object_at, argument_at, changed_at, lock_marks_at, called_at, activations_at, next_at, end_at, got_at, reply_at, activation_words, shallow_words, object_locks_at, marks_at, set_marks_at, waiting_at, notes_at, row_words, idle_phase}
use Rattle.model.specs.Base.{digit}
use Rattle.model.specs.Form.{Change, replace, increase}
use Rattle.model.specs.Message.{changed}
use Rattle.model.specs.Undo.{Note, sum_added, old_value, Undo, decreased, put_back}
use Rattle.model.specs.Service.{Answer, going, refuse, stopped}
use Rattle.model.specs.Service as Told
use Rattle.laws.specs.Bits.{bit}

-- The next step of a running message.
pub data Turn : Type 0 where
  -- the state does not fit (24), or the message is stopped (41)
  misfit stop : Turn
  -- a statement that is skipped
  skip : Turn
  -- value k is changed by v
  assign : Change → ℕ → ℕ → Turn
  -- a self-call: the callee's first statement, the one past its last, its argument
  call : ℕ → ℕ → ℕ → Turn
  -- the body's reply
  reply : ℕ → Turn
  -- the end of a callee's body, with its reply
  back : ℕ → Turn
  -- the next object, its method's first statement and the one past its last, and the sum so far
  next : ℕ → ℕ → ℕ → ℕ → Turn
  -- the message's answer
  answer : ℕ → Turn

-- What a step answers and leaves.
pub record Left : Type 0 where
  pub answered : Answer
  pub row : List ℕ
  pub values : List ℕ

-- A word of an activation.
unfoldable pub act : List ℕ → ℕ → ℕ → ℕ
act row k i = get_or row (activations_at + k * activation_words + i) 0

-- The latest activation, where the row has 1 to 8.
abbrev pub top : List ℕ → ℕ
top row = get_or row depth_at 0 - 1

unfoldable pub with_act : List ℕ → ℕ → ℕ → ℕ → List ℕ
with_act row k i v = set row (activations_at + k * activation_words + i) v

unfoldable pub new_act : List ℕ → ℕ → ℕ → ℕ → ℕ → List ℕ
unfolding with_act
new_act row k first end argument = with_act (with_act (with_act (with_act (with_act row k 0 first) k 1 end) k 2 argument) k got_at 0) k 4 0

-- The row with one more step, counted in 16 bits (02, Ticket 5).
unfoldable pub stepped : List ℕ → List ℕ
stepped row = set row steps_at ((get_or row steps_at 0 + 1) % 65536)

-- The row with the latest activation at its next statement.
unfoldable pub passed : List ℕ → List ℕ
unfolding act with_act
passed row = with_act row (top row) next_at ((act row (top row) next_at + 1) % 4294967296)

-- ---- undo notes

-- The note with the word w, of a value that was set or not.
abbrev pub note_by : Bool → ℕ → Note
note_by true w = old_value w
note_by false w = sum_added w

-- The undo notes that a row holds.
unfoldable pub note_at : List ℕ → Undo
unfolding bit
note_at row k = cond (ltb k values_most) (note_by (bit (get_or row (set_marks_at + k / 32) 0) (k % 32)) (get_or row (notes_at + k) 0)) (sum_added 0)

-- Whether a change is a set.
abbrev pub is_set : Change → Bool
is_set replace = true
is_set increase = false

-- The word of the note of a value x that is changed by v, where `sum` was added to it so far.
abbrev pub note_word : Change → ℕ → ℕ → ℕ → ℕ
note_word replace sum x v = decreased x sum
note_word increase sum x v = (sum + v) % 4294967296

-- The row with bit k % 32 of the word at `at` + k / 32 set where the test passes.
abbrev pub with_mark : List ℕ → ℕ → ℕ → Bool → List ℕ
with_mark row at k test = set row (at + k / 32) (bit_or (get_or row (at + k / 32) 0) (digit test * 2 ^ (k % 32)))

-- The row with the undo note of value k, which is x and is changed by v: made or added to, unless the value was set already or the
-- row has no room for it.
unfoldable pub noted_row : List ℕ → Change → ℕ → ℕ → ℕ → List ℕ
unfolding bit
noted_row row how k x v =
    let new =
    set (with_mark (with_mark (set row changed_at 1) marks_at k true) set_marks_at k (is_set how)) (notes_at + k) (note_word how (get_or row (notes_at + k) 0) x v) in
    cond (ltb k values_most) (cond (bit (get_or row (set_marks_at + k / 32) 0) (k % 32)) row new) row

-- ---- locks

-- The row with word i marked as one where locks were taken.
abbrev pub lock_marked : List ℕ → ℕ → List ℕ
lock_marked row i = set row lock_marks_at (bit_or (get_or row lock_marks_at 0) (2 ^ (i / 8 % 32)))

-- The row with bits added to lock word i.
abbrev pub with_bits : List ℕ → ℕ → ℕ → List ℕ
with_bits row i bits = set (lock_marked row i) i (bit_or (get_or row i 0) bits)

-- ---- what each turn leaves

unfoldable pub skip_row : List ℕ → List ℕ
unfolding passed stepped
skip_row row = stepped (passed row)

unfoldable pub call_row : ℕ → ℕ → ℕ → List ℕ → List ℕ
unfolding passed new_act stepped
call_row first end argument row =
    let d = get_or row depth_at 0 in
    stepped (set (set (new_act (passed row) d first end argument) called_at 1) depth_at ((d + 1) % 4294967296))

unfoldable pub reply_row : ℕ → List ℕ → List ℕ
unfolding act with_act stepped
reply_row v row = stepped (with_act (with_act row (top row) 0 (act row (top row) end_at)) (top row) reply_at v)

unfoldable pub back_row : ℕ → List ℕ → List ℕ
unfolding with_act stepped
back_row v row =
    let d = get_or row depth_at 0 in
    stepped (with_act (set row depth_at (d - 1)) (d - 2) got_at v)

-- The row with the message on an object: its first activation, with the send's argument.
unfoldable pub object_row : ℕ → ℕ → ℕ → ℕ → List ℕ → List ℕ
unfolding new_act
object_row o first end sum row =
    new_act (set (set (set (set row object_at o) depth_at 1) steps_at 0) sum_at sum) 0 first end (get_or row argument_at 0)

-- The row of a closed slot.
abbrev pub blank : List ℕ
blank = replicate row_words 0

-- The row with the words that pass the test cleared.
unfoldable pub zeroed : (ℕ → Bool) → List ℕ → List ℕ
zeroed p [] = []
zeroed p (w ∷ row) = cond (p zero) 0 w ∷ zeroed (λ i. p (suc i)) row

-- The row with the undo notes that were made cleared.
unfoldable pub unnoted : List ℕ → List ℕ
unfolding zeroed bit
unnoted row = zeroed (λ i. cond (ltb i notes_at) false (bit (get_or row (marks_at + (i - notes_at) / 32) 0) ((i - notes_at) % 32))) row

-- The row with the words cleared where locks were taken.
unfoldable pub unlocked : List ℕ → List ℕ
unfolding zeroed bit
unlocked row = zeroed (λ i. bit (get_or row lock_marks_at 0) (i / 8)) row

-- The row with what a transaction that changed no value has written cleared: its locks, its message, the first activation, and the
-- others where it made a self-call.
unfoldable pub released : List ℕ → List ℕ
unfolding unlocked
released row =
    let rest = unlocked row in
    cond (eqb (get_or row called_at 0) 0) (replicate shallow_words 0 ++ drop shallow_words rest) (replicate object_locks_at 0 ++ drop object_locks_at rest)

-- "frees the slot": the row is released; where a value was changed, the words before `waiting_at` and the notes that were made are
-- cleared. Every other word of a row that represents an open slot is 0, so that the row is blank then
-- (crates/machine_refinement/specs/Freeing.antt), and not every note needs to be written.
unfoldable pub freed : List ℕ → List ℕ
unfolding unnoted released
freed row = cond (eqb (get_or row changed_at 0) 0) (released row) (replicate waiting_at 0 ++ drop waiting_at (unnoted row))

-- The transaction undone: "puts back .. and frees the slot".
abbrev pub undone_to : Answer → List ℕ → List ℕ → Left
undone_to a row values = record { answered = a; row = freed row; values = put_back (note_at row) values }

abbrev pub going_to : List ℕ → List ℕ → Left
going_to row values = record { answered = going; row = row; values = values }

-- What carrying out a turn answers and leaves. A row without activations fits no turn that needs one.
unfoldable pub carried : List ℕ → List ℕ → Turn → Left
unfolding put_back note_at freed noted_row skip_row call_row reply_row back_row object_row
carried row values misfit = record { answered = refuse 24; row = row; values = values }
carried row values stop = undone_to stopped row values
carried row values skip = going_to (skip_row row) values
carried row values (assign how k v) =
    let x = get_or values k 0 in
    going_to (skip_row (noted_row row how k x v)) (set values k (changed how x v))
carried row values (call first end argument) = going_to (call_row first end argument row) values
carried row values (reply v) = going_to (reply_row v row) values
carried row values (back v) = going_to (back_row v row) values
carried row values (next o first end sum) = going_to (object_row o first end sum row) values
carried row values (answer v) = record { answered = Told.answer v; row = set row phase_at idle_phase; values = values }
