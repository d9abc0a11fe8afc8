-- The line over the words (02, Tickets 7 and 8): a waiting send in its slot's row, the places of the line, circles of waits, and the
-- waking of those who wait.
use Rattle.std.specs.Prelude.{ℕ, zero, suc, ◌+◌, ◌*◌, Bool, false, not, cond, ◌&&◌, ◌||◌, List, get_or, set, take, drop, replicate, eqb, ltb}
use Rattle.std.proofs.Math.Option.{Option, none, some}
use Rattle.std.proofs.lemmas.List.Edits.{sets}
use Rattle.layout.specs.Layout.{table_words, phase_at, kind_at, number_at, argument_at, place_at, waiting_at, waiting_words, row_words, line_at, first_in_line_at, closed_phase, idle_phase, waiting_phase}
use Rattle.model.specs.Base.{any, least, leads}
use Rattle.catalog.specs.View.{class_word}
use Rattle.machine_words.specs.Request.{Wanted, wanted, class_for, row_meets, locked, First, on, past, nowhere, first_of, named_row, entered}

abbrev pub tables_of : List ℕ → List ℕ
tables_of ws = take table_words ws

abbrev pub row_start : ℕ → ℕ
row_start s = table_words + s * row_words

unfoldable pub row_of : List ℕ → ℕ → List ℕ
row_of ws s = take row_words (drop (row_start s) ws)

abbrev pub with_row : List ℕ → ℕ → List ℕ → List ℕ
with_row ws s row = sets ws (row_start s) row

-- A row's phase.
abbrev pub phase_of : List ℕ → ℕ
phase_of row = get_or row phase_at 0

-- ---- a waiting send

-- The words of a row's waiting send.
unfoldable pub waiting_in : List ℕ → List ℕ
waiting_in row = take waiting_words (drop waiting_at row)

-- The send that such words hold: its target, its method's place and its argument; class and name are those of the tables.
unfoldable pub wanted_in : List ℕ → List ℕ → Wanted
unfolding class_for class_word
wanted_in tables waiting =
    let kind = get_or waiting kind_at 0 in
    let n = get_or waiting number_at 0 in
    wanted tables kind n (class_for tables kind n) (get_or waiting place_at 0) (get_or waiting argument_at 0)

-- The words with a send's target, method and argument.
unfoldable pub requested : Wanted → List ℕ → List ℕ
unfolding named_row
requested q waiting = set (named_row q waiting) place_at q.place

-- The row with a send that waits: the send's words with its locks, and its phase. The locks are not the slot's yet.
unfoldable pub waiting_row : List ℕ → List ℕ → Wanted → List ℕ → List ℕ
unfolding locked requested
waiting_row text tables q row = set (sets row waiting_at (locked text tables q (requested q (replicate waiting_words 0)))) phase_at waiting_phase

-- The row with its waiting send withdrawn: the slot is open, and no message runs.
unfoldable pub withdrawn : List ℕ → List ℕ
withdrawn row = set (sets row waiting_at (replicate waiting_words 0)) phase_at idle_phase

-- ---- the line

-- How many slots wait; never more than the line has places.
unfoldable pub count_in : List ℕ → ℕ
count_in ws = let n = get_or ws line_at 0 in cond (ltb 8 n) 8 n

-- The slots at the first n places of the line.
abbrev pub first_in_line : List ℕ → ℕ → List ℕ
first_in_line ws n = take n (drop first_in_line_at ws)

-- The slot at place n of the line.
abbrev pub slot_at : List ℕ → ℕ → ℕ
slot_at ws n = get_or ws (first_in_line_at + n) 0

-- The words with slot s at place n of the line.
abbrev pub with_place : List ℕ → ℕ → ℕ → List ℕ
with_place ws n s = set ws (first_in_line_at + n) s

-- Whether slot t is open and its locks pass the test.
unfoldable pub holder_at : List ℕ → (List ℕ → Bool) → ℕ → Bool
unfolding row_of
holder_at ws test t = not (eqb (phase_of (row_of ws t)) closed_phase) && test (row_of ws t)

-- Whether slot t exists and waits.
unfoldable pub is_waiting : List ℕ → ℕ → Bool
unfolding row_of
is_waiting ws t = ltb t 8 && eqb (phase_of (row_of ws t)) waiting_phase

-- Whether slot t is one of the first n in line, and waits.
unfoldable pub waits_ahead : List ℕ → ℕ → ℕ → Bool
unfolding is_waiting any
waits_ahead ws n t = any (eqb t) (first_in_line ws n) && is_waiting ws t

-- Whether slot t is one of those, and its waiting send's locks pass the test.
unfoldable pub waiter_at : List ℕ → ℕ → (List ℕ → Bool) → ℕ → Bool
unfolding row_of waiting_in waits_ahead
waiter_at ws n test t = waits_ahead ws n t && test (waiting_in (row_of ws t))

abbrev pub blocks : List ℕ → ℕ → (List ℕ → Bool) → ℕ → Bool
blocks ws n test t = holder_at ws test t || waiter_at ws n test t

-- Whether slot t is another than s and is in the way of its send, as a holder or as one of the first n in line.
unfoldable pub in_the_way : List ℕ → List ℕ → ℕ → ℕ → Wanted → ℕ → Bool
unfolding holder_at waiter_at row_meets
in_the_way text ws n s q t = not (eqb t s) && blocks ws n (row_meets text (tables_of ws) q) t

-- The lowest slot in the way of a send by slot s that has the first n in line ahead of it.
unfoldable pub obstacle : List ℕ → List ℕ → ℕ → ℕ → Wanted → Option ℕ
unfolding in_the_way least
obstacle text ws n s q = least (in_the_way text ws n s q) 8

-- ---- circles

-- The waiting send of slot t.
abbrev pub waiting_send : List ℕ → ℕ → Wanted
waiting_send ws t = wanted_in (tables_of ws) (waiting_in (row_of ws t))

-- Whether slot u stands at one of `left` places of the line, from place i on, and waits, and slot t is in the way of its waiting send.
unfoldable pub waits_from : List ℕ → List ℕ → ℕ → ℕ → ℕ → ℕ → Bool
unfolding is_waiting in_the_way row_of waiting_in wanted_in
waits_from text ws i zero u t = false
waits_from text ws i (suc left) u t =
    (eqb (slot_at ws i) u && (is_waiting ws u && in_the_way text ws i u (waiting_send ws u) t)) || waits_from text ws (suc i) left u t

-- Whether slot u waits for slot t, with a send of slot s as the last in line (02, Ticket 8).
unfoldable pub waits_for : List ℕ → List ℕ → ℕ → Wanted → ℕ → ℕ → Bool
unfolding waits_from in_the_way count_in
waits_for text ws s q u t = waits_from text ws 0 (count_in ws) u t || (eqb s u && in_the_way text ws (count_in ws) u q t)

-- Whether slot s would then wait, by one or more steps, for itself.
unfoldable pub closes_circle : List ℕ → List ℕ → ℕ → Wanted → Bool
unfolding waits_for leads
closes_circle text ws s q = leads (waits_for text ws s q) 8 s s

-- ---- waking

-- The words in the middle of waking, and how many of those before still wait: they have the first places of the line.
pub record Waking : Type 0 where
  pub waiting : ℕ
  pub words : List ℕ

-- Slot t goes on waiting, at place n.
abbrev pub kept_at : List ℕ → ℕ → ℕ → Waking
kept_at ws n t = record { waiting = suc n; words = with_place ws n t }

-- The send of slot t starts at f.
abbrev pub started_from : List ℕ → List ℕ → ℕ → ℕ → Wanted → First → Waking
started_from text ws n t q f = record { waiting = n; words = with_row ws t (entered q f (locked text (tables_of ws) q (withdrawn (row_of ws t)))) }

-- A send that starts nowhere goes on waiting.
abbrev pub started_or_kept : List ℕ → List ℕ → ℕ → ℕ → Wanted → First → Waking
started_or_kept text ws n t q (on o first end) = started_from text ws n t q (on o first end)
started_or_kept text ws n t q (past o) = started_from text ws n t q (past o)
started_or_kept text ws n t q nowhere = kept_at ws n t

-- The waiting send of slot t, with the lowest slot in its way, if any.
abbrev pub woken_or : List ℕ → List ℕ → ℕ → ℕ → Wanted → Option ℕ → Waking
woken_or text ws n t q (some k) = kept_at ws n t
woken_or text ws n t q none = started_or_kept text ws n t q (first_of text (tables_of ws) q)

-- One slot of the line woken; a slot that does not wait leaves the line.
unfoldable pub woken_slot : List ℕ → List ℕ → ℕ → ℕ → Waking
unfolding is_waiting obstacle row_of waiting_in wanted_in withdrawn first_of entered locked
woken_slot text ws n t =
    let q = waiting_send ws t in
    let stays : Waking = record { waiting = n; words = ws } in
    cond (is_waiting ws t) (woken_or text ws n t q (obstacle text ws n t q)) stays

-- The slots at `left` places of the line woken, from place i on.
unfoldable pub woken_from : List ℕ → Waking → ℕ → ℕ → Waking
unfolding woken_slot
woken_from text w i zero = w
woken_from text w i (suc left) = woken_from text (woken_slot text w.words w.waiting (slot_at w.words i)) (suc i) left

-- "waiting sends are looked at from the front": the line woken, and those who still wait counted.
unfoldable pub woken : List ℕ → List ℕ → List ℕ
unfolding woken_from count_in
woken text ws =
    let w = woken_from text (record { waiting = 0; words = ws }) 0 (count_in ws) in
    set w.words line_at w.waiting
