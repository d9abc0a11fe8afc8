-- What the next step of a running message is, by the text, the tables, the slot's row and the values. Every number that is
-- read from the words and used as a place is tested here, and every name that is looked up; one that does not fit gives 24.
use Rattle.std.specs.Prelude.{ℕ, zero, suc, ◌+◌, ◌-◌, ◌/◌, ◌%◌, Bool, cond, ◌&&◌, ◌||◌, List, length, get_or, take, drop, eqb, leb, ltb}
use Rattle.std.proofs.Math.Option.{Option, none, some}
use Rattle.layout.specs.Layout.{domain_at, object_class_at, object_values_at, depth_at, steps_at, sum_at, object_at, kind_at, number_at, name_at, next_at, end_at, arg_at, got_at, reply_at, object_kind, class_kind, domain_kind, field_kind, part_unit}
use Rattle.model.specs.Text.{words}
use Rattle.model.specs.Word.{Name}
use Rattle.model.specs.Expression.{Expression, value_of}
use Rattle.model.specs.Form.{Change, Action, send, send_prefixed, Statement, Form, class_line, field_line, method_line, statement_line, end_line, object_line, malformed, form_of}
use Rattle.model.specs.Form as Line
use Rattle.model.specs.Library.{Member, member_place, class_number}
use Rattle.model.specs.Fault.{strange}
use Rattle.catalog.specs.Bodies.{body_in}
use Rattle.catalog.specs.View.{name_of, part_of, statement_word, object_word, class_word, class_count, statement_count, object_count, member_count, members_of, class_of, library_of}
use Rattle.laws.specs.Bits.{bit}
use Rattle.machine_words.specs.Row.{Turn, misfit, stop, skip, assign, call, reply, back, next, answer, act, top}

-- ---- objects

-- Whether the target exists: its number is that of an object, or of a class.
unfoldable pub target_there : List ℕ → ℕ → ℕ → Bool
target_there tables kind n = cond (eqb kind object_kind) (ltb n (object_count tables)) (leb kind domain_kind && ltb n (class_count tables))

-- Whether the object is one of those that the row's message visits. An object whose class does not exist counts too: it has no
-- body to run, and so fits no turn.
unfoldable pub in_target : List ℕ → ℕ → ℕ → ℕ → Bool
unfolding object_word class_word bit
in_target tables kind n o =
    let c = object_word tables o object_class_at in
    cond (eqb kind object_kind) (eqb o n) (leb (class_count tables) c || cond (eqb kind class_kind) (eqb c n) (bit (class_word tables n domain_at) c))

-- The first of the m numbers from `from` on for which p holds; the number past them where there is none.
unfoldable pub first_from : (ℕ → Bool) → ℕ → ℕ → ℕ
first_from p from zero = from
first_from p from (suc m) = let later = first_from p (suc from) m in cond (p from) from later

-- The next object to visit, from number `from` on.
unfoldable pub object_from : List ℕ → ℕ → ℕ → ℕ → ℕ
unfolding first_from in_target
object_from tables kind n from = first_from (in_target tables kind n) from (object_count tables - from)

-- The turn to the next object, with the body that it runs there.
abbrev pub next_on : ℕ → ℕ → Option Member → Turn
next_on o sum none = misfit
next_on o sum (some b) = next o b.first (b.first + b.count) sum

-- The same, where the body is that of its own class's method of the name sent.
abbrev pub next_turn : List ℕ → List ℕ → ℕ → ℕ → ℕ → Turn
next_turn text tables name o sum = next_on o sum (body_in text tables (object_word tables o object_class_at) (name_of text name))

-- ---- a statement

-- The values of an object whose class has `size` fields.
abbrev pub values_at : List ℕ → List ℕ → ℕ → ℕ → List ℕ
values_at tables values o size = take size (drop (object_word tables o object_values_at) values)

-- The value of an object's field by name, from the object's own values.
unfoldable pub field_in : List ℕ → List ℕ → ℕ → List ℕ → Name → ℕ
unfolding members_of member_place
field_in text tables c own f = get_or own (member_place (members_of text tables c field_kind) f) 0

-- The value of an expression in an activation on an object of class c with the values `own`; none where it names a field that
-- the class does not have.
unfoldable pub value_in : List ℕ → List ℕ → ℕ → List ℕ → ℕ → ℕ → Expression → Option ℕ
unfolding strange class_of field_in value_of
value_in text tables c own arg got e =
    cond (strange (class_of text tables c) e) none (some (value_of (field_in text tables c own) arg got e))

-- The turn for a value; a misfit where there is none.
abbrev pub with_value : Option ℕ → (ℕ → Turn) → Turn
with_value none turn = misfit
with_value (some v) turn = turn v

-- The turn that changes field f of an object of class c, whose values begin at `base`, by v.
unfoldable pub assign_turn : List ℕ → List ℕ → ℕ → ℕ → Change → Name → ℕ → Turn
unfolding member_place members_of member_count
assign_turn text tables c base how f v =
    let k = member_place (members_of text tables c field_kind) f in
    cond (ltb k (member_count tables c field_kind)) (assign how (base + k) v) misfit

-- A self-call to a body, unless it would be the ninth activation.
abbrev pub call_turn : ℕ → Option Member → ℕ → Turn
call_turn depth none v = misfit
call_turn depth (some b) v = cond (leb 8 depth) stop (call b.first (b.first + b.count) v)

-- The turn of an action on an object of class c, with `depth` activations.
unfoldable pub action_turn : List ℕ → List ℕ → ℕ → ℕ → ℕ → (Expression → Option ℕ) → Action → Turn
unfolding assign_turn body_in class_number library_of
action_turn text tables c base depth value (Line.assign how f e) = with_value (value e) (assign_turn text tables c base how f)
action_turn text tables c base depth value (send m e) = with_value (value e) (call_turn depth (body_in text tables c m))
action_turn text tables c base depth value (send_prefixed d m e) =
    with_value (value e) (call_turn depth (body_in text tables (class_number (library_of text tables) d) m))
action_turn text tables c base depth value (Line.reply e) = with_value (value e) reply

-- "a `when` of value 0 skips it"
abbrev pub guard_turn : Option Expression → (Expression → Option ℕ) → Turn → Turn
guard_turn none value turn = turn
guard_turn (some e) value turn = with_value (value e) (λ v. cond (eqb v 0) skip turn)

abbrev pub statement_turn : List ℕ → List ℕ → ℕ → ℕ → ℕ → (Expression → Option ℕ) → Statement → Turn
statement_turn text tables c base depth value s = guard_turn s.guard value (action_turn text tables c base depth value s.action)

abbrev pub form_turn : Form → (Statement → Turn) → Turn
form_turn (statement_line s) turn = turn s
form_turn (class_line n ps) turn = misfit
form_turn (field_line n) turn = misfit
form_turn (method_line n) turn = misfit
form_turn end_line turn = misfit
form_turn (object_line n c vs) turn = misfit
form_turn malformed turn = misfit

-- The turn of statement s on object o: the object's class and values must exist, and so must the statement's place in the text.
unfoldable pub line_turn : List ℕ → List ℕ → List ℕ → ℕ → ℕ → ℕ → ℕ → ℕ → Turn
unfolding object_word statement_word member_count part_of form_of value_in action_turn
line_turn text tables values o depth s arg got =
    let c = object_word tables o object_class_at in
    let base = object_word tables o object_values_at in
    let size = member_count tables c field_kind in
    let own = values_at tables values o size in
    let w = statement_word tables s in
    cond (leb (class_count tables) c || ltb (length values) (base + size) || ltb (length text) (w / part_unit + w % part_unit)) misfit
    (form_turn (form_of (words (part_of text w))) (statement_turn text tables c base depth (value_in text tables c own arg got)))

-- ---- the turn

-- The turn where an object has ended: to the next object of the target, which must exist, or the answer.
unfoldable pub end_turn : List ℕ → List ℕ → List ℕ → ℕ → Turn
unfolding target_there object_from body_in object_word name_of
end_turn text tables row v =
    let sum = (get_or row sum_at 0 + v) % 4294967296 in
    let o = object_from tables (get_or row kind_at 0) (get_or row number_at 0) (get_or row object_at 0 + 1) in
    cond (target_there tables (get_or row kind_at 0) (get_or row number_at 0))
    (cond (ltb o (object_count tables)) (next_turn text tables (get_or row name_at 0) o sum) (answer sum)) misfit

-- The latest activation must be within the text's statements, with one left or none. "an object's 1,024th step .. if it doesn't end
-- that object"
unfoldable pub activation_turn : List ℕ → List ℕ → List ℕ → List ℕ → Turn
unfolding act line_turn end_turn
activation_turn text tables row values =
    let k = top row in
    let late = leb 1024 (get_or row steps_at 0 + 1) in
    cond (ltb (act row k end_at) (act row k next_at) || ltb (statement_count tables) (act row k end_at)) misfit
    (cond (eqb (act row k next_at) (act row k end_at))
    (cond (eqb k 0) (end_turn text tables row (act row k reply_at)) (cond late stop (back (act row k reply_at))))
    (cond late stop (line_turn text tables values (get_or row object_at 0) (get_or row depth_at 0) (act row k next_at) (act row k arg_at) (act row k got_at))))

-- "With no objects the first step answers 0": the message is past the last object. This is the turn where steps are counted in 64
-- bits, which hold any word.
unfoldable pub decided_wide : List ℕ → List ℕ → List ℕ → List ℕ → Turn
unfolding activation_turn
decided_wide text tables row values =
    let d = get_or row depth_at 0 in
    let o = get_or row object_at 0 in
    cond (eqb o (object_count tables)) (answer (get_or row sum_at 0))
    (cond (ltb (object_count tables) o || eqb d 0 || ltb 8 d) misfit (activation_turn text tables row values))

-- What 16 bits hold at most.
abbrev pub steps_most : ℕ
steps_most = 65535

-- Steps are counted in 16 bits (02, Ticket 5): a count that they do not hold is 24.
unfoldable pub decided : List ℕ → List ℕ → List ℕ → List ℕ → Turn
unfolding decided_wide
decided text tables row values = cond (ltb steps_most (get_or row steps_at 0)) misfit (decided_wide text tables row values)
