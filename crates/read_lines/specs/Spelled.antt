-- The words after the keyword of a method line and of an object line.
use Rattle.std.specs.Prelude.{ℕ, ◌+◌, ◌≡◌, refl, Bool, true, false, ◌&&◌, List, [], ◌∷◌, map, drop, take}
use Rattle.std.proofs.Common.{sym, ap, subst, ◌∙◌, arith}
use Rattle.std.proofs.Math.Option.{Option, none, some}
use Rattle.model.specs.Base.{bytes, same, every, digit}
use Rattle.model.specs.Text.{words}
use Rattle.model.specs.Word.{Name, is_name, is_number, decimal}
use Rattle.model.specs.Expression.{Expression, Parsed, parsed, unread, expression}
use Rattle.model.specs.Form.{Action, Form, class_line, field_line, method_line, statement_line, end_line, object_line, malformed}
use Rattle.model.specs.Form.{Keyword, class_word, field_word, method_word, end_word, object_word, set_word, add_word, send_word, reply_word, when_word, other_word}
use Rattle.model.specs.Form.{keyword_of, action_of, statement_form, when_form, form_if, class_form, name_form, end_form, object_form, form_as, form_of}
use Rattle.text_lex.specs.Tests.{and_true}
use Rattle.text_lex.specs.Scan.{is_byte, before}
use Rattle.text_lex.specs.Piece.{words_after, first, first_piece}
use Rattle.text_syntax.specs.Kinds.{kind_of}
use Rattle.read_lines.specs.Below.{look_at}

-- An object's name, its class and its values.
pub record ObjectWords (ws : List (List ℕ)) (n c : Name) (vs : List ℕ) : Type 0 where
  pub values : List (List ℕ)
  pub line : ws ≡ n ∷ c ∷ values
  pub name : is_name n ≡ true
  pub all_numbers : every is_number values ≡ true
  pub numbers : vs ≡ map (decimal 0) values

-- The words ws after the keyword are those of the form.
abbrev pub Spelled : List (List ℕ) → Form → Type 0
Spelled ws (class_line n ps) = Unit {0}
Spelled ws (field_line n) = Unit {0}
Spelled ws (method_line n) = ws ≡ n ∷ []
Spelled ws (statement_line s) = Unit {0}
Spelled ws end_line = Unit {0}
Spelled ws (object_line n c vs) = ObjectWords ws n c vs
Spelled ws malformed = Unit {0}

if_spelled : (ws : List (List ℕ)) (t : Bool) (f : Form) → (t ≡ true → Spelled ws f) → Spelled ws (form_if t f)
if_spelled ws true f h = h refl
if_spelled ws false f h = tt

class_spelled : (ws : List (List ℕ)) → Spelled ws (class_form ws)
class_spelled [] = tt
class_spelled (n ∷ []) = if_spelled (n ∷ []) (is_name n) (class_line n []) (λ e. tt)
class_spelled (n ∷ c ∷ []) = tt
class_spelled (n ∷ c ∷ p ∷ ps) =
    if_spelled (n ∷ c ∷ p ∷ ps) (is_name n && same c (bytes ":") && every is_name (p ∷ ps)) (class_line n (p ∷ ps)) (λ e. tt)

name_spelled : (f : Name → Form) → ((n : Name) → Spelled (n ∷ []) (f n)) → (ws : List (List ℕ)) → Spelled ws (name_form f ws)
name_spelled f h [] = tt
name_spelled f h (n ∷ []) = if_spelled (n ∷ []) (is_name n) (f n) (λ e. h n)
name_spelled f h (n ∷ w ∷ ws) = tt

end_spelled : (ws : List (List ℕ)) → Spelled ws (end_form ws)
end_spelled [] = tt
end_spelled (w ∷ ws) = tt

object_spelled : (ws : List (List ℕ)) → Spelled ws (object_form ws)
object_spelled [] = tt
object_spelled (n ∷ []) = tt
object_spelled (n ∷ c ∷ vs) =
    let t = is_name n && is_name c in
    if_spelled (n ∷ c ∷ vs) (t && every is_number vs) (object_line n c (map (decimal 0) vs))
    (λ e. record { values = vs; line = refl; name = (and_true (is_name n) (and_true t e).0).0; all_numbers = (and_true t e).1; numbers = refl })

statement_spelled : (ws : List (List ℕ)) (g : Option Expression) (a : Option Action) → Spelled ws (statement_form g a)
statement_spelled ws g none = tt
statement_spelled ws g (some a) = tt

when_spelled : (ws : List (List ℕ)) (p : Parsed) → Spelled ws (when_form p)
when_spelled ws unread = tt
when_spelled ws (parsed e []) = tt
when_spelled ws (parsed e (v ∷ vs)) = statement_spelled ws (some e) (action_of (keyword_of v) vs)

by_keyword : (k : Keyword) (ws : List (List ℕ)) → Spelled ws (form_as k ws)
unfolding form_as
by_keyword class_word ws = class_spelled ws
by_keyword field_word ws = name_spelled field_line (λ n. tt) ws
by_keyword method_word ws = name_spelled method_line (λ n. refl) ws
by_keyword end_word ws = end_spelled ws
by_keyword object_word ws = object_spelled ws
by_keyword set_word ws = statement_spelled ws none (action_of set_word ws)
by_keyword add_word ws = statement_spelled ws none (action_of add_word ws)
by_keyword send_word ws = statement_spelled ws none (action_of send_word ws)
by_keyword reply_word ws = statement_spelled ws none (action_of reply_word ws)
by_keyword when_word ws = when_spelled ws (expression ws)
by_keyword other_word ws = tt

-- A line whose first word ends at e.
pub spelled : (line : List ℕ) (e : ℕ) → e ≡ 0 + before (is_byte 32) line → (f : Form) → form_of (words line) ≡ f → Spelled (words_after (drop e line)) f
unfolding form_of
spelled line e h f q =
    let ws = words_after (drop e line) in
    subst (Spelled ws) (ap form_of (sym (first_piece 32 line e h)) ∙ q) (by_keyword (keyword_of (take e line)) ws)

-- What a method line means for the method m.
pub method_look : (line : List ℕ) (e : ℕ) → e ≡ 0 + before (is_byte 32) line → (m : Name) → kind_of (form_of (words line)) ≡ 2
    → digit (same m (first (words_after (drop e line)))) ≡ look_at m (form_of (words line))
method_look line e h m = go (form_of (words line)) refl
  where
    go : (f : Form) → form_of (words line) ≡ f → kind_of f ≡ 2 → digit (same m (first (words_after (drop e line)))) ≡ look_at m f
    go (class_line n ps) q k = absurd (omega arith)
    go (field_line n) q k = absurd (omega arith)
    go (method_line n) q k = ap (λ (ws : List (List ℕ)). digit (same m (first ws))) (spelled line e h (method_line n) q)
    go (statement_line s) q k = absurd (omega arith)
    go end_line q k = absurd (omega arith)
    go (object_line n c vs) q k = absurd (omega arith)
    go malformed q k = absurd (omega arith)
