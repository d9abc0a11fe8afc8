-- The four calls over the lent text, words and values. The words are laid out as in crates/layout/specs/Layout.antt; those past the
-- state are not the machine's.
use Rattle.std.specs.Prelude.{ℕ, suc, ◌≡◌, Bool, true, false, not, cond, ◌&&◌, List, length, get_or, set, eqb, leb, ltb}
use Rattle.std.proofs.Math.Option.{Option, none, some}
use Rattle.layout.specs.Layout.{values_most, value_count_at, text_length_at, start_mark_at, object_class_at, line_at, state_words, start_mark, closed_phase, idle_phase, running_phase, waiting_phase, method_kind, object_kind, class_kind, domain_kind, classes_most, statements_most, objects_most, slots_most, class_count_at, statement_count_at, object_count_at}
use Rattle.model.specs.Undo.{put_back}
use Rattle.model.specs.Service.{Call, send, step, commit, abort, Answer, done, going, answer, refuse, held, stopped}
use Rattle.model.specs.Machine.{object, class, domain, Request, to}
use Rattle.catalog.specs.View.{object_word, class_word, class_count, object_count, member_count}
use Rattle.machine_words.specs.Row.{Left, note_at, freed, carried}
use Rattle.machine_words.specs.Turn.{decided}
use Rattle.machine_words.specs.Request.{Wanted, wanted, lacking, owns_locks, locked, First, on, past, nowhere, first_of, entered}
unfoldable pub use Rattle.machine_words.specs.Line.{tables_of, row_start, row_of, with_row, phase_of}
use Rattle.machine_words.specs.Line.{waiting_row, withdrawn, count_in, with_place, obstacle, closes_circle, woken}

-- The mark that a start leaves.
abbrev pub mark : ℕ
mark = start_mark

-- What is lent to a call: the text, the state's words and the values.
pub record Lent : Type 0 where
  pub text : List ℕ
  pub words : List ℕ
  pub values : List ℕ

abbrev pub lending : List ℕ → List ℕ → List ℕ → Lent
lending text ws values = record { text = text; words = ws; values = values }

-- What is lent is the same where each of the lists is.
pub lending_same : {text text' ws ws' values values' : List ℕ} → text ≡ text' → ws ≡ ws' → values ≡ values' → lending text ws values ≡ lending text' ws' values'
lending_same e f g = λ i. lending (e i) (f i) (g i)

-- The same with other words.
abbrev pub with_words : Lent → List ℕ → Lent
with_words x ws = lending x.text ws x.values

-- What a call answers, and what it leaves of what was lent.
pub record After : Type 0 where
  pub answered : Answer
  pub lent : Lent

abbrev pub refused : Lent → ℕ → After
refused x n = record { answered = refuse n; lent = x }

-- ---- whether what is lent fits

-- Whether the counts of classes, statements, objects and waiting slots are within their limits.
unfoldable pub is_counted : List ℕ → Bool
is_counted ws =
    leb (get_or ws class_count_at 0) classes_most && leb (get_or ws statement_count_at 0) statements_most && leb (get_or ws object_count_at 0) objects_most && leb (get_or ws line_at 0) slots_most

-- Whether the words are those of a start on a text of this length and on as many values.
abbrev pub is_started : Lent → Bool
is_started x =
    eqb (get_or x.words start_mark_at 0) mark && eqb (get_or x.words text_length_at 0) (length x.text) && eqb (get_or x.words value_count_at 0) (length x.values)
    && leb (length x.values) values_most

-- 21 for a short state, else 24; 0 where it fits.
unfoldable pub misfit_of : Lent → ℕ
unfolding is_counted
misfit_of x = cond (ltb (length x.words) state_words) 21 (cond (is_started x && is_counted x.words) 0 24)

-- ---- send

-- What a granted send leaves: its slot is open, has its locks, and its message is at its start.
abbrev pub started_at : Lent → ℕ → Wanted → First → After
started_at x s q f =
    let ws = x.words in
    record { answered = done; lent = with_words x (with_row ws s (entered q f (locked x.text (tables_of ws) q (row_of ws s)))) }

-- A message that starts nowhere is refused with 24.
abbrev pub started_or : Lent → ℕ → Wanted → First → After
started_or x s q (on o first end) = started_at x s q (on o first end)
started_or x s q (past o) = started_at x s q (past o)
started_or x s q nowhere = refused x 24

-- A send that joins the line, the last there; 24 where the line has no place for it, 42 where it would close a circle of waits.
abbrev pub joined_at : Lent → ℕ → Wanted → ℕ → After
joined_at x s q t =
    let ws = x.words in
    record {
      answered = held t;
      lent = with_words x (set (with_place (with_row ws s (waiting_row x.text (tables_of ws) q (row_of ws s))) (count_in ws) s) line_at (suc (count_in ws)));
    }

abbrev pub joined_or : Lent → ℕ → Wanted → ℕ → After
joined_or x s q t =
    cond (leb 8 (count_in x.words)) (refused x 24)
    (cond (closes_circle x.text x.words s q) (refused x 42) (joined_at x s q t))

-- Where a send's message starts.
abbrev pub first_in : Lent → Wanted → First
first_in x q = first_of x.text (tables_of x.words) q

-- A send that needs a new lock, with the lowest slot in its way, if any.
abbrev pub arrived_or : Lent → ℕ → Wanted → Option ℕ → After
arrived_or x s q (some t) = joined_or x s q t
arrived_or x s q none = started_or x s q (first_in x q)

-- A send whose locks its slot holds starts, whoever is in line.
abbrev pub granted_or : Lent → ℕ → Wanted → Bool → After
granted_or x s q true = started_or x s q (first_in x q)
granted_or x s q false = arrived_or x s q (obstacle x.text x.words (count_in x.words) s q)

unfoldable pub granted : Lent → ℕ → Wanted → After
unfolding owns_locks obstacle count_in closes_circle row_of waiting_row first_of entered locked
granted x s q = granted_or x s q (owns_locks x.text (tables_of x.words) q (row_of x.words s))

-- A send to an existing target of class c: 24 where there is no such class, 36 where it has no such method, and 24 where some
-- class of the domain lacks the method.
unfoldable pub sent_to : Lent → ℕ → ℕ → ℕ → ℕ → ℕ → ℕ → After
unfolding member_count class_word lacking granted
sent_to x s kind n c k a =
    let tables = tables_of x.words in
    let q = wanted tables kind n c k a in
    cond (leb (class_count tables) c) (refused x 24)
    (cond (leb (member_count tables c method_kind) k) (refused x 36)
    (cond (lacking x.text tables q) (refused x 24)
    (granted x s q)))

abbrev pub sent_by : Lent → ℕ → Request → After
sent_by x s (to (object o) k a) =
    let tables = tables_of x.words in
    cond (ltb o (object_count tables)) (sent_to x s object_kind o (object_word tables o object_class_at) k a) (refused x 36)
sent_by x s (to (class c) k a) = cond (ltb c (class_count (tables_of x.words))) (sent_to x s class_kind c c k a) (refused x 36)
sent_by x s (to (domain c) k a) = cond (ltb c (class_count (tables_of x.words))) (sent_to x s domain_kind c c k a) (refused x 36)

-- ---- step

-- A step that stops its message ends the transaction, and wakes those who wait.
abbrev pub woken_by : Answer → List ℕ → List ℕ → List ℕ
woken_by done text ws = ws
woken_by going text ws = ws
woken_by (answer v) text ws = ws
woken_by (refuse n) text ws = ws
woken_by (held t) text ws = ws
woken_by stopped text ws = woken text ws

abbrev pub laid : Lent → ℕ → Left → After
laid x s l =
    record {
      answered = l.answered;
      lent = lending x.text (woken_by l.answered x.text (with_row x.words s l.row)) l.values;
    }

-- ---- the calls

-- The words with the slot's transaction ended: the row freed, and those who wait woken.
abbrev pub ended_at : List ℕ → List ℕ → ℕ → List ℕ → List ℕ
ended_at text ws s row = woken text (with_row ws s (freed row))

abbrev pub undone_at : Lent → ℕ → List ℕ → After
undone_at x s row =
    record { answered = done; lent = lending x.text (ended_at x.text x.words s row) (put_back (note_at row) x.values) }

-- A call on a slot below 8, by its phase: closed, open, with a message running, or waiting.
abbrev pub on_closed : Lent → Call Request → After
on_closed x (send s q) = sent_by x s q
on_closed x (step s) = refused x 32
on_closed x (commit s) = refused x 32
on_closed x (abort s) = refused x 32

abbrev pub on_idle : Lent → Call Request → After
on_idle x (send s q) = sent_by x s q
on_idle x (step s) = refused x 35
on_idle x (commit s) = record { answered = done; lent = with_words x (ended_at x.text x.words s (row_of x.words s)) }
on_idle x (abort s) = undone_at x s (row_of x.words s)

abbrev pub on_running : Lent → Call Request → After
on_running x (send s q) = refused x 34
on_running x (step s) =
    let row = row_of x.words s in
    laid x s (carried row x.values (decided x.text (tables_of x.words) row x.values))
on_running x (commit s) = refused x 34
on_running x (abort s) = undone_at x s (row_of x.words s)

abbrev pub on_waiting : Lent → Call Request → After
on_waiting x (send s q) = refused x 37
on_waiting x (step s) = refused x 37
on_waiting x (commit s) = refused x 37
on_waiting x (abort s) = undone_at x s (withdrawn (row_of x.words s))

abbrev pub slot_in : Call Request → ℕ
slot_in (send s q) = s
slot_in (step s) = s
slot_in (commit s) = s
slot_in (abort s) = s

-- Any other phase is refused with 24.
abbrev pub by_phase : Lent → Call Request → ℕ → After
by_phase x c phase =
    cond (eqb phase closed_phase) (on_closed x c)
    (cond (eqb phase idle_phase) (on_idle x c)
    (cond (eqb phase running_phase) (on_running x c)
    (cond (eqb phase waiting_phase) (on_waiting x c) (refused x 24))))

-- One call on what is lent, whether that fits or not.
unfoldable pub called : Lent → Call Request → After
unfolding misfit_of row_of sent_to carried decided put_back note_at freed withdrawn woken
called x c =
    let misfit = misfit_of x in
    cond (not (eqb misfit 0)) (refused x misfit)
    (cond (leb 8 (slot_in c)) (refused x 31)
    (by_phase x c (phase_of (row_of x.words (slot_in c)))))
