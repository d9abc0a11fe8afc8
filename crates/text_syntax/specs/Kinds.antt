-- The kind of a form as a number, and what the words after a keyword must be for the line to have its kind, as tests of the first
-- word and the others; a missing word counts as empty.
use Rattle.std.specs.Prelude.{ℕ, ◌+◌, ◌≡◌, refl, Bool, true, false, not, cond, ◌&&◌, ◌||◌, List, [], ◌∷◌, take, drop}
use Rattle.std.proofs.Common.{sym, ap, ◌∙◌}
use Rattle.std.specs.Prelude as rust
use Rattle.std.specs.Prelude.{Some, None}
use Rattle.std.proofs.Math.Option.{Option, none, some}
use Rattle.model.specs.Base.{bytes, same, every}
use Rattle.model.specs.Text.{pieces, words}
use Rattle.model.specs.Word.{is_name, is_number}
use Rattle.model.specs.Expression.{Expression, Parsed, parsed, unread, expression, read_levels}
use Rattle.model.specs.Form.{Change, Action, Form, class_line, field_line, method_line, statement_line, end_line, object_line, malformed}
use Rattle.model.specs.Form.{Keyword, class_word, field_word, method_word, end_word, object_word, set_word, add_word, send_word, reply_word, when_word, other_word}
use Rattle.model.specs.Form.{keyword_of, whole, given, send_to, assign_action, action_of, statement_form, when_form, form_if, class_form, name_form, end_form, object_form, form_as, form_of}
use Rattle.text_lex.specs.Tests.{and_false}
use Rattle.text_lex.specs.Scan.{is_byte, before}
use Rattle.text_lex.specs.Piece.{words_after, first, others, is_empty, first_piece}
use Rattle.text_syntax.specs.declared.form.Kind.{Kind}
use Rattle.text_syntax.specs.declared.form.Kind.TheVariants.{Class, Field, Method, Statement, End, Object}

abbrev pub kind_of : Form → ℕ
kind_of (class_line n ps) = 0
kind_of (field_line n) = 1
kind_of (method_line n) = 2
kind_of (statement_line s) = 3
kind_of end_line = 4
kind_of (object_line n c vs) = 5
kind_of malformed = 6

abbrev pub said : rust.Option Kind → ℕ
said (Some Class) = 0
said (Some Field) = 1
said (Some Method) = 2
said (Some Statement) = 3
said (Some End) = 4
said (Some Object) = 5
said None = 6

abbrev pub is_action : Option Action → Bool
is_action none = false
is_action (some a) = true

-- Whether the words are one expression.
abbrev pub is_whole : Parsed → Bool
is_whole (parsed e ws) = is_empty ws
is_whole unread = false

unfoldable pub is_named : List (List ℕ) → Bool
unfolding is_name
is_named ws = is_name (first ws) && is_empty (others ws)

-- Whether there is at least one word, and each is a name.
unfoldable pub are_names : List (List ℕ) → Bool
unfolding every is_name
are_names ws = not (is_empty ws) && every is_name ws

unfoldable pub is_class : List (List ℕ) → Bool
unfolding is_name same are_names
is_class ws = is_name (first ws) && (is_empty (others ws) || same (first (others ws)) (bytes ":") && are_names (others (others ws)))

unfoldable pub is_object : List (List ℕ) → Bool
unfolding every is_name is_number
is_object ws = is_name (first ws) && is_name (first (others ws)) && every is_number (others (others ws))

unfoldable pub is_assign : List (List ℕ) → Bool
unfolding is_name read_levels
is_assign ws = is_name (first ws) && is_whole (expression (others ws))

-- Whether the pieces are those of `M` or `C.M`, split at the points.
unfoldable pub is_target : List (List ℕ) → Bool
unfolding is_name
is_target ps = is_name (first ps) && (is_empty (others ps) || is_name (first (others ps)) && is_empty (others (others ps)))

unfoldable pub is_send : List (List ℕ) → Bool
unfolding same pieces is_target read_levels
is_send ws =
    same (first (others ws)) (bytes "to") && same (first (others (others ws))) (bytes "self")
    && (is_target (pieces 46 (first ws)) && is_whole (expression (others (others (others ws)))))

-- Whether an action follows the expression of a `when`.
unfoldable pub is_guarded : Parsed → Bool
unfolding keyword_of action_of
is_guarded (parsed e ws) = is_action (action_of (keyword_of (first ws)) (others ws))
is_guarded unread = false

-- What the words after each keyword must be, and the kind of line that they make.
unfoldable pub fits : Keyword → List (List ℕ) → Bool
unfolding is_class is_named is_object action_of is_guarded read_levels
fits class_word ws = is_class ws
fits field_word ws = is_named ws
fits method_word ws = is_named ws
fits end_word ws = is_empty ws
fits object_word ws = is_object ws
fits set_word ws = is_action (action_of set_word ws)
fits add_word ws = is_action (action_of add_word ws)
fits send_word ws = is_action (action_of send_word ws)
fits reply_word ws = is_action (action_of reply_word ws)
fits when_word ws = is_guarded (expression ws)
fits other_word ws = false

abbrev pub kind_by : Keyword → ℕ
kind_by class_word = 0
kind_by field_word = 1
kind_by method_word = 2
kind_by end_word = 4
kind_by object_word = 5
kind_by set_word = 3
kind_by add_word = 3
kind_by send_word = 3
kind_by reply_word = 3
kind_by when_word = 3
kind_by other_word = 6

pub and_yes : (t : Bool) → (t && true) ≡ t
and_yes true = refl
and_yes false = refl

and_assoc : (t u v : Bool) → (t && u && v) ≡ (t && (u && v))
and_assoc true u v = refl
and_assoc false u v = refl

given_action : (t : Bool) (a : Option Action) → is_action (given t a) ≡ (t && is_action a)
given_action true a = refl
given_action false a = refl

whole_action : (act : Expression → Action) (p : Parsed) → is_action (whole act p) ≡ is_whole p
whole_action act (parsed e []) = refl
whole_action act (parsed e (w ∷ ws)) = refl
whole_action act unread = refl

given_whole : (t : Bool) (act : Expression → Action) (p : Parsed) → is_action (given t (whole act p)) ≡ (t && is_whole p)
given_whole t act p = given_action t (whole act p) ∙ ap (λ (u : Bool). t && u) (whole_action act p)

target_action : (ps ws : List (List ℕ)) → is_action (send_to ps ws) ≡ (is_target ps && is_whole (expression ws))
unfolding is_target is_name
target_action [] ws = refl
target_action (m ∷ []) ws = given_whole (is_name m) _ (expression ws) ∙ ap (λ (t : Bool). t && is_whole (expression ws)) (sym (and_yes (is_name m)))
target_action (c ∷ m ∷ []) ws =
    given_whole (is_name c && is_name m) _ (expression ws)
    ∙ ap (λ (t : Bool). (is_name c && t) && is_whole (expression ws)) (sym (and_yes (is_name m)))
target_action (c ∷ m ∷ n ∷ ns) ws = rw (and_false (is_name m) refl, and_false (is_name c) refl)

pub assign_action_law : (how : Change) (ws : List (List ℕ)) → is_action (assign_action how ws) ≡ is_assign ws
unfolding is_assign is_name
assign_action_law how [] = refl
assign_action_law how (f ∷ ws) = given_whole (is_name f) _ (expression ws)

pub send_action : (ws : List (List ℕ)) → is_action (action_of send_word ws) ≡ is_send ws
unfolding action_of is_send same
send_action [] = refl
send_action (m ∷ []) = refl
send_action (m ∷ t ∷ []) = rw (and_false (same t (bytes "to")) refl)
send_action (m ∷ t ∷ s ∷ ws) =
    let u = same t (bytes "to") && same s (bytes "self") in
    given_action u (send_to (pieces 46 m) ws) ∙ ap (λ (v : Bool). u && v) (target_action (pieces 46 m) ws)

pub reply_action : (ws : List (List ℕ)) → is_action (action_of reply_word ws) ≡ is_whole (expression ws)
unfolding action_of
reply_action ws = whole_action _ (expression ws)

statement_kind : (g : Option Expression) (a : Option Action) → kind_of (statement_form g a) ≡ cond (is_action a) 3 6
statement_kind g none = refl
statement_kind g (some a) = refl

if_kind : (t : Bool) (f : Form) → kind_of (form_if t f) ≡ cond t (kind_of f) 6
if_kind true f = refl
if_kind false f = refl

when_kind : (p : Parsed) → kind_of (when_form p) ≡ cond (is_guarded p) 3 6
unfolding is_guarded keyword_of action_of
when_kind unread = refl
when_kind (parsed e []) = refl
when_kind (parsed e (w ∷ ws)) = statement_kind (some e) (action_of (keyword_of w) ws)

class_kind : (ws : List (List ℕ)) → kind_of (class_form ws) ≡ cond (is_class ws) 0 6
unfolding is_class are_names is_name
class_kind [] = refl
class_kind (n ∷ []) = rw (and_yes (is_name n)) (if_kind (is_name n) (class_line n []))
class_kind (n ∷ c ∷ []) = rw (and_false (same c (bytes ":")) refl, and_false (is_name n) refl)
class_kind (n ∷ c ∷ p ∷ ps) =
    let t = same c (bytes ":") in
    if_kind (is_name n && t && every is_name (p ∷ ps)) (class_line n (p ∷ ps))
    ∙ ap (λ (u : Bool). cond u 0 6) (and_assoc (is_name n) t (every is_name (p ∷ ps)))

named_kind : (f : List ℕ → Form) (k : ℕ) → ((n : List ℕ) → kind_of (f n) ≡ k) → (ws : List (List ℕ)) → kind_of (name_form f ws) ≡ cond (is_named ws) k 6
unfolding is_named is_name
named_kind f k h [] = refl
named_kind f k h (n ∷ []) = rw (and_yes (is_name n)) (if_kind (is_name n) (f n) ∙ ap (λ (j : ℕ). cond (is_name n) j 6) (h n))
named_kind f k h (n ∷ w ∷ ws) = rw (and_false (is_name n) refl)

end_kind : (ws : List (List ℕ)) → kind_of (end_form ws) ≡ cond (is_empty ws) 4 6
end_kind [] = refl
end_kind (w ∷ ws) = refl

object_kind : (ws : List (List ℕ)) → kind_of (object_form ws) ≡ cond (is_object ws) 5 6
unfolding is_object is_name
object_kind [] = refl
object_kind (n ∷ []) = rw (and_false (is_name n) refl)
object_kind (n ∷ c ∷ vs) = if_kind (is_name n && is_name c && every is_number vs) _

-- A line has the kind of its keyword where its words fit, else it is malformed.
pub kind_as : (k : Keyword) (ws : List (List ℕ)) → kind_of (form_as k ws) ≡ cond (fits k ws) (kind_by k) 6
unfolding form_as fits
kind_as class_word ws = class_kind ws
kind_as field_word ws = named_kind field_line 1 (λ n. refl) ws
kind_as method_word ws = named_kind method_line 2 (λ n. refl) ws
kind_as end_word ws = end_kind ws
kind_as object_word ws = object_kind ws
kind_as set_word ws = statement_kind none (action_of set_word ws)
kind_as add_word ws = statement_kind none (action_of add_word ws)
kind_as send_word ws = statement_kind none (action_of send_word ws)
kind_as reply_word ws = statement_kind none (action_of reply_word ws)
kind_as when_word ws = when_kind (expression ws)
kind_as other_word ws = refl

-- The kind of a line whose first word ends at e.
pub kind_line : (s : List ℕ) (e : ℕ) → e ≡ 0 + before (is_byte 32) s
    → kind_of (form_of (words s)) ≡ cond (fits (keyword_of (take e s)) (words_after (drop e s))) (kind_by (keyword_of (take e s))) 6
unfolding form_of
kind_line s e h = rw (first_piece 32 s e h) (kind_as (keyword_of (take e s)) (words_after (drop e s)))

-- A line whose first word is no keyword is malformed.
pub no_kind : (s : List ℕ) (e : ℕ) → e ≡ 0 + before (is_byte 32) s → other_word ≡ keyword_of (take e s) → 6 ≡ kind_of (form_of (words s))
unfolding fits
no_kind s e h k = sym (kind_line s e h ∙ ap (λ (w : Keyword). cond (fits w (words_after (drop e s))) (kind_by w) 6) (sym k))
