-- The machine's slots and calls, and the plain course, over any kind of messages, locks and undo notes (01, "The machine", "The
-- plain course", the numbers 31, 32, 34 to 37 and 40 to 42). 01's own messages, locks and undo notes are in Message, Lock, Undo and
-- Alone; Machine puts the two together.
use Rattle.std.specs.Prelude.{ℕ, Bool, true, false, not, ◌&&◌, ◌||◌, eqb, ltb}
use Rattle.std.proofs.Math.Option.{Option, none, some}
use mathlib.Core.List.{List, [], ◌∷◌, ◌++◌}
use Rattle.model.specs.Base.{any, keep, put, least, leads}

-- The outcome of a step: the message goes on, or ends with its answer, or is stopped.
pub data Outcome (Run Effect : Type 0) : Type 0 where
  goes : Run → Effect → Outcome Run Effect
  ends : ℕ → Effect → Outcome Run Effect
  stops : Outcome Run Effect

-- What slots and calls need of messages, locks and undo notes. A step does not change the fields itself: it has an effect, and
-- the effect acts on them.
pub record Service : Type 1 where
  -- the fields' values
  pub Fields : Type 0
  -- what a send names
  pub Request : Type 0
  -- a send whose target and method exist
  pub Message : Type 0
  -- a running message
  pub Run : Type 0
  -- what a step does to the fields
  pub Effect : Type 0
  -- a transaction's undo notes
  pub Undo : Type 0
  -- the locks that a transaction holds
  pub Locks : Type 0
  -- the message of a send; none where its target or method does not exist
  pub find : Request → Option Message
  -- a message at its start
  pub begun : Message → Run
  -- one step of a running message
  pub turn : Run → Fields → Outcome Run Effect
  -- the fields after an effect
  pub act : Effect → Fields → Fields
  -- the undo notes of a new transaction
  pub clean : Undo
  -- the undo notes after an effect on the fields
  pub noted : Undo → Effect → Fields → Undo
  -- the fields with all noted values put back
  pub put_back : Undo → Fields → Fields
  -- the locks of a new transaction
  pub unlocked : Locks
  -- the locks with those of a message added
  pub lock : Message → Locks → Locks
  -- whether a lock of the message clashes with one of these
  pub clash : Message → Locks → Bool
  -- whether a lock of the one message clashes with one of the other
  pub meets : Message → Message → Bool
  -- whether each lock of the message is one of these
  pub holds : Message → Locks → Bool
  -- the course's run of one send: its answer and the fields after it; none where it would be stopped
  pub alone : Message → Fields → Option (ℕ × Fields)

-- The calls (01, "The machine"; 02, Ticket 3). Each names a slot.
pub data Call (Request : Type 0) : Type 0 where
  send : ℕ → Request → Call Request
  step commit abort : ℕ → Call Request

-- The answer of a call: done (a send: granted), "going", or the message's answer; or a number. `refuse` has the tablet's 31, 32 and 34 to
-- 37, and 42, which like 40 comes from another transaction; `held` is 40 with the lowest clashing slot; `stopped` is 41.
pub data Answer : Type 0 where
  done going : Answer
  answer : ℕ → Answer
  refuse : ℕ → Answer
  held : ℕ → Answer
  stopped : Answer

-- The number of an answer: 01's where it has one; else 0 for done, 1 for going, 2 for the message's answer.
abbrev pub call_number : Answer → ℕ
call_number done = 0
call_number going = 1
call_number (answer v) = 2
call_number (refuse n) = n
call_number (held s) = 40
call_number stopped = 41

-- The detail of an answer: the message's answer, or the lowest clashing slot; 0 where there is neither.
abbrev pub call_detail : Answer → ℕ
call_detail done = 0
call_detail going = 0
call_detail (answer v) = v
call_detail (refuse n) = 0
call_detail (held s) = s
call_detail stopped = 0

-- An answer in a slot's list at its commit, beside the one that its run gives.
pub record Compared : Type 0 where
  pub got : ℕ
  pub run : Option ℕ

module _ (𝓢 : Service) where
  open 𝓢 use {Fields, Request, Message, Run, Effect, Undo, Locks, find, begun, turn, act, clean, noted, put_back, unlocked, lock, clash, meets, holds, alone}

  -- ---- the machine

  -- An open transaction: its locks, "held until commit or abort", its undo notes, and its running message, if any.
  pub record Transaction : Type 0 where
    pub locks : Locks
    pub undo : Undo
    pub running : Option Run

  -- "Slots 0 to 7 each hold at most one open transaction"
  pub data Slot : Type 0 where
    closed : Slot
    opened : Transaction → Slot

  -- A waiting send and its slot (02, Ticket 7).
  pub record Waiter : Type 0 where
    pub slot : ℕ
    pub message : Message

  -- The whole state of the machine. "The line is in order of arrival" (02, Ticket 7), the first to arrive first.
  pub record World : Type 0 where
    pub fields : Fields
    pub slots : ℕ → Slot
    pub line : List Waiter

  -- The machine after a start: "Start takes the list as it is".
  abbrev pub fresh : Fields → World
  fresh fields = record { fields = fields; slots = λ s. closed; line = [] }

  -- The machine with other fields, and with one slot changed.
  abbrev pub with_fields : World → Fields → World
  with_fields w fields = record { fields = fields; slots = w.slots; line = w.line }

  abbrev pub with_slot : World → ℕ → Slot → World
  with_slot w s x = record { fields = w.fields; slots = put w.slots s x; line = w.line }

  -- A transaction before its first granted send.
  abbrev pub new_transaction : Transaction
  new_transaction = record { locks = unlocked; undo = clean; running = none }

  -- The transaction that a send to the slot belongs to: a new one where the slot is closed.
  abbrev pub standing : Slot → Transaction
  standing closed = new_transaction
  standing (opened t) = t

  -- The transaction with a message's locks added and the message started.
  abbrev pub starting : Transaction → Message → Transaction
  starting t m = record { locks = lock m t.locks; undo = t.undo; running = some (begun m) }

  -- "the first granted send to a closed slot opens it" (02, Ticket 3)
  abbrev pub started : World → ℕ → Message → World
  started w s m = with_slot w s (opened (starting (standing (w.slots s)) m))

  -- The transaction with the note of an effect on the fields, and with what runs next.
  abbrev pub advanced : Transaction → Effect → Fields → Option Run → Transaction
  advanced t e fields r = record { locks = t.locks; undo = noted t.undo e fields; running = r }

  -- The locks of a slot.
  abbrev pub held_by : Slot → Locks
  held_by x = (standing x).locks

  -- Whether the slot waits: it has a send in the line.
  abbrev pub waits : List Waiter → ℕ → Bool
  waits line s = any (λ v. eqb v.slot s) line

  -- Whether a send by slot s clashes with slot t, "holder or earlier waiter": t is another slot, and holds a lock or has a send in
  -- this line that clashes with the message.
  abbrev pub in_the_way : (ℕ → Slot) → List Waiter → ℕ → Message → ℕ → Bool
  in_the_way slots line s m t =
      not (eqb t s) && (clash m (held_by (slots t)) || any (λ v. eqb v.slot t && meets m v.message) line)

  -- "the lowest slot it clashes with", the line being those ahead of the send
  abbrev pub obstacle : World → ℕ → Message → Option ℕ
  obstacle w s m = least (in_the_way w.slots w.line s m) 8

  -- The machine with one more waiter, the last in line.
  abbrev pub queued : World → Waiter → World
  queued w v = record { fields = w.fields; slots = w.slots; line = w.line ++ (v ∷ []) }

  -- "A send that meets 40 now keeps its place, opens its slot if closed"
  abbrev pub joined : World → ℕ → Message → World
  joined w s m = queued (with_slot w s (opened (standing (w.slots s)))) (record { slot = s; message = m })

  -- "one starts if it clashes neither with locks held nor with an earlier waiting send of another slot"
  abbrev pub woken_or : World → Waiter → Option ℕ → World
  woken_or w v (some k) = queued w v
  woken_or w v none = started w v.slot v.message

  -- "waiting sends are looked at from the front": each arrives again, behind those that still wait.
  abbrev pub wake : World → List Waiter → World
  wake w [] = w
  wake w (v ∷ vs) = wake (woken_or w v (obstacle w v.slot v.message)) vs

  -- The machine with one slot closed, these fields and nobody in line.
  abbrev pub closed_over : World → ℕ → Fields → World
  closed_over w s fields = record { fields = fields; slots = put w.slots s closed; line = [] }

  -- The line without a slot's send.
  abbrev pub without : ℕ → List Waiter → List Waiter
  without s line = keep (λ v. not (eqb v.slot s)) line

  -- "When a transaction ends", with these fields: its slot closes, its send in line is withdrawn, and the others are woken.
  abbrev pub ended : World → ℕ → Fields → World
  ended w s fields = wake (closed_over w s fields) (without s w.line)

  -- "a slot waits for each clashing holder and each clashing earlier waiter" (02, Ticket 8): whether slot s has a send in the rest of
  -- the line that clashes with slot t, where `ahead` are those before the rest.
  abbrev pub waits_in : (ℕ → Slot) → List Waiter → List Waiter → ℕ → ℕ → Bool
  waits_in slots ahead [] s t = false
  waits_in slots ahead (v ∷ vs) s t = (eqb v.slot s && in_the_way slots ahead s v.message t) || waits_in slots (ahead ++ (v ∷ [])) vs s t

  abbrev pub waits_for : World → ℕ → ℕ → Bool
  waits_for w s t = waits_in w.slots [] w.line s t

  -- "a circle of waits": the slot waits, by one or more steps, for itself.
  abbrev pub in_circle : World → ℕ → Bool
  in_circle w s = leads (waits_for w) 8 s s

  -- "42, tested in place of joining the line, for such a circle only"; "Such a send changes nothing." (02, Ticket 8)
  abbrev pub admitted : World → ℕ → Message → ℕ → Bool → Answer × World
  admitted w s m k true = (refuse 42, w)
  admitted w s m k false = (held k, joined w s m)

  -- A send that needs a new lock. "A send clashing with no other slot gets all its locks and starts"; else "still answers 40 with
  -- the lowest slot it clashes with" (02, Ticket 7).
  abbrev pub arrived : World → ℕ → Message → Option ℕ → Answer × World
  arrived w s m (some k) = admitted w s m k (in_circle (joined w s m) s)
  arrived w s m none = (done, started w s m)

  -- "except that a send whose locks its slot already holds starts regardless"
  abbrev pub granted : World → ℕ → Message → Bool → Answer × World
  granted w s m true = (done, started w s m)
  granted w s m false = arrived w s m (obstacle w s m)

  -- "36 no such object, class or method"; "40, after 36".
  abbrev pub sent : World → ℕ → Option Message → Answer × World
  sent w s none = (refuse 36, w)
  sent w s (some m) = granted w s m (holds m (held_by (w.slots s)))

  -- "Abort puts back .. and frees the slot."
  abbrev pub undone : World → ℕ → Transaction → World
  undone w s t = ended w s (put_back t.undo w.fields)

  -- The world after a step's effect, with what runs next.
  abbrev pub after : World → ℕ → Transaction → Effect → Option Run → World
  after w s t e r = with_slot (with_fields w (act e w.fields)) s (opened (advanced t e w.fields r))

  -- "A step answers "going" or the message's answer."; "41 .. That step does the work of abort."
  abbrev pub stepped : World → ℕ → Transaction → Outcome Run Effect → Answer × World
  stepped w s t (goes r e) = (going, after w s t e (some r))
  stepped w s t (ends v e) = (answer v, after w s t e none)
  stepped w s t stops = (stopped, undone w s t)

  -- On a closed slot: "32 remains for step, commit and abort" (02, Ticket 3).
  abbrev pub on_closed : World → Call Request → Answer × World
  on_closed w (send s q) = sent w s (find q)
  on_closed w (step s) = (refuse 32, w)
  on_closed w (commit s) = (refuse 32, w)
  on_closed w (abort s) = (refuse 32, w)

  -- On an open slot where no message runs: "35 no message running (step)"; "Commit frees the slot and leaves the fields."
  abbrev pub on_idle : World → Transaction → Call Request → Answer × World
  on_idle w t (send s q) = sent w s (find q)
  on_idle w t (step s) = (refuse 35, w)
  on_idle w t (commit s) = (done, ended w s w.fields)
  on_idle w t (abort s) = (done, undone w s t)

  -- On an open slot where a message runs: "34 message running (send, commit)"
  abbrev pub on_running : World → Transaction → Run → Call Request → Answer × World
  on_running w t r (send s q) = (refuse 34, w)
  on_running w t r (step s) = stepped w s t (turn r w.fields)
  on_running w t r (commit s) = (refuse 34, w)
  on_running w t r (abort s) = (done, undone w s t)

  -- On a waiting slot: "37, the slot is waiting, for send, step and commit"; "Abort of a waiting slot withdraws it." (02, Ticket 7)
  abbrev pub on_waiting : World → Transaction → Call Request → Answer × World
  on_waiting w t (send s q) = (refuse 37, w)
  on_waiting w t (step s) = (refuse 37, w)
  on_waiting w t (commit s) = (refuse 37, w)
  on_waiting w t (abort s) = (done, undone w s t)

  -- A call on an open slot that does not wait, by its running message, if any.
  abbrev pub on_ready : World → Call Request → Transaction → Option Run → Answer × World
  on_ready w c t none = on_idle w t c
  on_ready w c t (some r) = on_running w t r c

  -- A call on an open slot, by whether it waits: 37 is "tested after 32".
  abbrev pub on_open : World → Call Request → Transaction → Bool → Answer × World
  on_open w c t true = on_waiting w t c
  on_open w c t false = on_ready w c t t.running

  -- The slot that a call names.
  abbrev pub slot_of : Call Request → ℕ
  slot_of (send s q) = s
  slot_of (step s) = s
  slot_of (commit s) = s
  slot_of (abort s) = s

  -- A call, by the state of its slot.
  abbrev pub on_slot : World → Call Request → Slot → Answer × World
  on_slot w c closed = on_closed w c
  on_slot w c (opened t) = on_open w c t (waits w.line (slot_of c))

  -- "31 slot above 7"
  abbrev pub in_range : World → Call Request → Bool → Answer × World
  in_range w c false = (refuse 31, w)
  in_range w c true = on_slot w c (w.slots (slot_of c))

  -- One call: its answer, and the world after it.
  abbrev pub call : World → Call Request → Answer × World
  call w c = in_range w c (ltb (slot_of c) 8)

  -- The answers of a list of calls, and the world after it.
  unfoldable pub run_calls : World → List (Call Request) → List Answer × World
  unfolding any keep put least leads
  run_calls w [] = ([], w)
  run_calls w (c ∷ cs) =
      let (a, next) = call w c in
      let (answers, last) = run_calls next cs in
      (a ∷ answers, last)

  -- ---- the plain course

  -- A send with its answer.
  pub record Answered : Type 0 where
    pub message : Message
    pub answer : ℕ

  -- "for each slot a list of sends with answers, empty at first", and the slot's latest send
  pub record Sends : Type 0 where
    pub latest : Option Message
    pub list : List Answered

  -- "It has no locks. It holds fields, and for each slot a list of sends"; also the answers compared so far.
  pub record Course : Type 0 where
    pub fields : Fields
    pub slots : ℕ → Sends
    pub compared : List Compared

  -- A slot's sends at first.
  abbrev pub no_sends : Sends
  no_sends = record { latest = none; list = [] }

  -- The course after a start.
  abbrev pub start_course : Fields → Course
  start_course fields = record { fields = fields; slots = λ s. no_sends; compared = [] }

  -- The course with one slot's sends changed.
  abbrev pub with_sends : Course → ℕ → Sends → Course
  with_sends x s l = record { fields = x.fields; slots = put x.slots s l; compared = x.compared }

  -- The fields after a run; unchanged by one that would be stopped.
  abbrev pub fields_after : Option (ℕ × Fields) → Fields → Fields
  fields_after none fields = fields
  fields_after (some y) fields = y.1

  -- The answer of a run.
  abbrev pub answer_of : Option (ℕ × Fields) → Option ℕ
  answer_of none = none
  answer_of (some y) = some y.0

  -- The fields after the sends of a list, run in order.
  abbrev pub replayed : List Answered → Fields → Fields
  replayed [] fields = fields
  replayed (y ∷ ys) fields = replayed ys (fields_after (alone y.message fields) fields)

  -- Each answer of a list beside the one that its run gives.
  abbrev pub compared_in : List Answered → Fields → List Compared
  compared_in [] fields = []
  compared_in (y ∷ ys) fields =
      let r = alone y.message fields in
      record { got = y.answer; run = answer_of r } ∷ compared_in ys (fields_after r fields)

  -- "A commit runs the slot's sends in order on the course's fields"
  abbrev pub committed : Course → ℕ → Course
  committed x s =
      record {
        fields = replayed (x.slots s).list x.fields;
        slots = put x.slots s no_sends;
        compared = x.compared ++ compared_in (x.slots s).list x.fields;
      }

  -- "A granted send becomes its slot's latest send."; "counts a transaction from its first granted send" (02, Ticket 3).
  abbrev pub named : Course → ℕ → Option Message → Course
  named x s none = x
  named x s (some m) = with_sends x s (record { latest = some m; list = (x.slots s).list })

  -- "A step that gives the message's answer adds the latest send and that answer to the slot's list"
  abbrev pub add_answer : Course → ℕ → ℕ → Option Message → Course
  add_answer x s v none = x
  add_answer x s v (some m) = with_sends x s (record { latest = some m; list = (x.slots s).list ++ (record { message = m; answer = v } ∷ []) })

  -- "in the plain course a send that joins the line becomes its slot's latest too" (02, Ticket 7)
  abbrev pub if_taken : Answer → Course → Course → Course
  if_taken done x y = y
  if_taken going x y = x
  if_taken (answer v) x y = x
  if_taken (refuse n) x y = x
  if_taken (held s) x y = y
  if_taken stopped x y = x

  -- "Any other refused call does nothing."
  abbrev pub if_done : Answer → Course → Course → Course
  if_done done x y = y
  if_done going x y = x
  if_done (answer v) x y = x
  if_done (refuse n) x y = x
  if_done (held s) x y = x
  if_done stopped x y = x

  -- ""going" does nothing"; "Commit, abort and 41 empty the list and close the slot."
  abbrev pub after_step : Answer → Course → ℕ → Course
  after_step done x s = x
  after_step going x s = x
  after_step (answer v) x s = add_answer x s v (x.slots s).latest
  after_step (refuse n) x s = x
  after_step (held t) x s = x
  after_step stopped x s = with_sends x s no_sends

  -- The course, fed one call with its answer.
  abbrev pub fed : Course → Call Request → Answer → Course
  fed x (send s q) a = if_taken a x (named x s (find q))
  fed x (step s) a = after_step a x s
  fed x (commit s) a = if_done a x (committed x s)
  fed x (abort s) a = if_done a x (with_sends x s no_sends)

  -- "is fed .. the list's calls with their answers"
  unfoldable pub fed_all : Course → List (Call Request) → List Answer → Course
  unfolding put
  fed_all x [] answers = x
  fed_all x (c ∷ cs) [] = x
  fed_all x (c ∷ cs) (a ∷ answers) = fed_all (fed x c a) cs answers
