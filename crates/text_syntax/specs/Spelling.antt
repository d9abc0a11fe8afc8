-- How a statement is spelled: the words of its line, with expressions as the reader reads them.
use Rattle.std.specs.Prelude.{ℕ, ◌≡◌, refl, Bool, true, false, cond, ◌&&◌, List, [], ◌∷◌, map}
use Rattle.std.proofs.Common.{sym, subst}
use Rattle.std.proofs.Math.Option.{Option, none, some}
use Rattle.model.specs.Base.{bytes, same, every}
use Rattle.model.specs.Text.{pieces}
use Rattle.model.specs.Word.{Name, is_name, is_number, decimal}
use Rattle.model.specs.Expression.{Expression, Parsed, parsed, unread, expression}
use Rattle.model.specs.Form.{Change, replace, increase, Action, assign, send, send_prefixed, reply, Statement, Form, class_line, field_line, method_line, statement_line, end_line, object_line, malformed}
use Rattle.model.specs.Form.{Keyword, class_word, field_word, method_word, end_word, object_word, set_word, add_word, send_word, reply_word, when_word, other_word}
use Rattle.model.specs.Form.{keyword_of, whole, given, send_to, assign_action, action_of, statement_form, when_form, form_if, class_form, name_form, end_form, object_form, form_as, form_of}
use Rattle.laws.specs.Lists.{same_sound, both_left, both_right}

-- The keyword of a change.
abbrev pub change_word : Change → List ℕ
change_word replace = bytes "set"
change_word increase = bytes "add"

-- It is no name and not `send`.
pub change_no_name : (how : Change) → is_name (change_word how) ≡ false
unfolding is_name
change_no_name replace = refl
change_no_name increase = refl

pub change_no_send : (how : Change) → same (change_word how) (bytes "send") ≡ false
unfolding same
change_no_send replace = refl
change_no_send increase = refl

-- "set F E" and "add F E", "send M to self E", "send C.M to self E", "reply E"
pub data ActionWords : List (List ℕ) → Action → Type 0 where
  assigns : (how : Change) (g : Name) (ws : List (List ℕ)) (e : Expression) → is_name g ≡ true → expression ws ≡ parsed e []
      → ActionWords (change_word how ∷ g ∷ ws) (assign how g e)
  sends : (target : List ℕ) (m : Name) (ws : List (List ℕ)) (e : Expression) → pieces 46 target ≡ m ∷ [] → expression ws ≡ parsed e []
      → ActionWords (bytes "send" ∷ target ∷ bytes "to" ∷ bytes "self" ∷ ws) (send m e)
  sends_prefixed : (target : List ℕ) (c m : Name) (ws : List (List ℕ)) (e : Expression) → pieces 46 target ≡ c ∷ m ∷ [] → expression ws ≡ parsed e []
      → ActionWords (bytes "send" ∷ target ∷ bytes "to" ∷ bytes "self" ∷ ws) (send_prefixed c m e)
  replies : (ws : List (List ℕ)) (e : Expression) → expression ws ≡ parsed e [] → ActionWords (bytes "reply" ∷ ws) (reply e)

-- "each with an optional `when E` before it"
pub data StatementWords : List (List ℕ) → Statement → Type 0 where
  bare : {ws : List (List ℕ)} {a : Action} → ActionWords ws a → StatementWords ws (record { guard = none; action = a })
  guarded : {ws rest : List (List ℕ)} {e : Expression} {a : Action} → expression ws ≡ parsed e rest → ActionWords rest a
      → StatementWords (bytes "when" ∷ ws) (record { guard = some e; action = a })

-- ---- the words of an action

abbrev Acting : List (List ℕ) → Option Action → Type 0
Acting ws none = Unit {0}
Acting ws (some a) = ActionWords ws a

whole_acting : (all ws : List (List ℕ)) (act : Expression → Action) → ((e : Expression) → expression ws ≡ parsed e [] → ActionWords all (act e))
    → Acting all (whole act (expression ws))
whole_acting all ws act f = go (expression ws) refl
  where
    go : (p : Parsed) → expression ws ≡ p → Acting all (whole act p)
    go (parsed e []) q = f e q
    go (parsed e (v ∷ vs)) q = tt
    go unread q = tt

given_acting : (all : List (List ℕ)) (t : Bool) (a : Option Action) → (t ≡ true → Acting all a) → Acting all (given t a)
given_acting all true a f = f refl
given_acting all false a f = tt

assign_acting : (how : Change) (ws : List (List ℕ)) → Acting (change_word how ∷ ws) (assign_action how ws)
assign_acting how [] = tt
assign_acting how (g ∷ ws) =
    let all = change_word how ∷ g ∷ ws in
    given_acting all (is_name g) (whole (assign how g) (expression ws)) (λ n. whole_acting all ws (assign how g) (λ e q. assigns how g ws e n q))

target_acting : (target : List ℕ) (ws ps : List (List ℕ)) → pieces 46 target ≡ ps
    → Acting (bytes "send" ∷ target ∷ bytes "to" ∷ bytes "self" ∷ ws) (send_to ps ws)
target_acting target ws [] h = tt
target_acting target ws (m ∷ []) h =
    let all = bytes "send" ∷ target ∷ bytes "to" ∷ bytes "self" ∷ ws in
    given_acting all (is_name m) (whole (send m) (expression ws)) (λ n. whole_acting all ws (send m) (λ e q. sends target m ws e h q))
target_acting target ws (c ∷ m ∷ []) h =
    let all = bytes "send" ∷ target ∷ bytes "to" ∷ bytes "self" ∷ ws in
    given_acting all (is_name c && is_name m) (whole (send_prefixed c m) (expression ws))
    (λ n. whole_acting all ws (send_prefixed c m) (λ e q. sends_prefixed target c m ws e h q))
target_acting target ws (c ∷ m ∷ n ∷ ns) h = tt

send_acting : (ws : List (List ℕ)) → Acting (bytes "send" ∷ ws) (action_of send_word ws)
unfolding action_of
send_acting [] = tt
send_acting (m ∷ []) = tt
send_acting (m ∷ t ∷ []) = tt
send_acting (m ∷ t ∷ s ∷ ws) =
    given_acting (bytes "send" ∷ m ∷ t ∷ s ∷ ws) (same t (bytes "to") && same s (bytes "self")) (send_to (pieces 46 m) ws) found
  where
    found : same t (bytes "to") && same s (bytes "self") ≡ true → Acting (bytes "send" ∷ m ∷ t ∷ s ∷ ws) (send_to (pieces 46 m) ws)
    found e =
        let p : t ≡ bytes "to" = same_sound t (bytes "to") (both_left (same t (bytes "to")) (same s (bytes "self")) e) in
        let q : s ≡ bytes "self" = same_sound s (bytes "self") (both_right (same t (bytes "to")) (same s (bytes "self")) e) in
        subst (λ (v : List ℕ). Acting (bytes "send" ∷ m ∷ v ∷ s ∷ ws) (send_to (pieces 46 m) ws)) (sym p)
        (subst (λ (v : List ℕ). Acting (bytes "send" ∷ m ∷ bytes "to" ∷ v ∷ ws) (send_to (pieces 46 m) ws)) (sym q)
        (target_acting m ws (pieces 46 m) refl))

reply_acting : (ws : List (List ℕ)) → Acting (bytes "reply" ∷ ws) (action_of reply_word ws)
unfolding action_of
reply_acting ws = whole_acting (bytes "reply" ∷ ws) ws reply (λ e q. replies ws e q)

-- The word of a keyword that a statement begins with.
abbrev Keyed : List ℕ → Keyword → Type 0
Keyed w class_word = Unit {0}
Keyed w field_word = Unit {0}
Keyed w method_word = Unit {0}
Keyed w end_word = Unit {0}
Keyed w object_word = Unit {0}
Keyed w set_word = w ≡ bytes "set"
Keyed w add_word = w ≡ bytes "add"
Keyed w send_word = w ≡ bytes "send"
Keyed w reply_word = w ≡ bytes "reply"
Keyed w when_word = w ≡ bytes "when"
Keyed w other_word = Unit {0}

keyed : (w : List ℕ) → Keyed w (keyword_of w)
unfolding keyword_of
keyed w =
    choice (bytes "class") class_word _ (λ e. tt) (choice (bytes "field") field_word _ (λ e. tt) (choice (bytes "method") method_word _ (λ e. tt)
    (choice (bytes "end") end_word _ (λ e. tt) (choice (bytes "object") object_word _ (λ e. tt) (choice (bytes "set") set_word _ (λ e. e)
    (choice (bytes "add") add_word _ (λ e. e) (choice (bytes "send") send_word _ (λ e. e) (choice (bytes "reply") reply_word _ (λ e. e)
    (choice (bytes "when") when_word other_word (λ e. e) tt)))))))))
  where
    choice : (k : List ℕ) (x y : Keyword) → (w ≡ k → Keyed w x) → Keyed w y → Keyed w (cond (same w k) x y)
    choice k x y f h = go (same w k) refl
      where
        go : (t : Bool) → same w k ≡ t → Keyed w (cond t x y)
        go true e = f (same_sound w k e)
        go false e = h

action_acting : (w : List ℕ) (ws : List (List ℕ)) (k : Keyword) → Keyed w k → Acting (w ∷ ws) (action_of k ws)
unfolding action_of
action_acting w ws class_word e = tt
action_acting w ws field_word e = tt
action_acting w ws method_word e = tt
action_acting w ws end_word e = tt
action_acting w ws object_word e = tt
action_acting w ws set_word e = rw e (assign_acting replace ws)
action_acting w ws add_word e = rw e (assign_acting increase ws)
action_acting w ws send_word e = rw e (send_acting ws)
action_acting w ws reply_word e = rw e (reply_acting ws)
action_acting w ws when_word e = tt
action_acting w ws other_word e = tt

-- ---- the words of a line

abbrev Stating : List (List ℕ) → Form → Type 0
Stating ws (class_line n ps) = Unit {0}
Stating ws (field_line n) = Unit {0}
Stating ws (method_line n) = Unit {0}
Stating ws (statement_line s) = StatementWords ws s
Stating ws end_line = Unit {0}
Stating ws (object_line n c vs) = Unit {0}
Stating ws malformed = Unit {0}

bare_stating : (all : List (List ℕ)) (a : Option Action) → Acting all a → Stating all (statement_form none a)
bare_stating all none h = tt
bare_stating all (some a) h = bare h

guarded_stating : (ws rest : List (List ℕ)) (e : Expression) (a : Option Action) → expression ws ≡ parsed e rest → Acting rest a
    → Stating (bytes "when" ∷ ws) (statement_form (some e) a)
guarded_stating ws rest e none q h = tt
guarded_stating ws rest e (some a) q h = guarded q h

when_stating : (ws : List (List ℕ)) → Stating (bytes "when" ∷ ws) (when_form (expression ws))
when_stating ws = go (expression ws) refl
  where
    go : (p : Parsed) → expression ws ≡ p → Stating (bytes "when" ∷ ws) (when_form p)
    go unread q = tt
    go (parsed e []) q = tt
    go (parsed e (v ∷ vs)) q = guarded_stating ws (v ∷ vs) e (action_of (keyword_of v) vs) q (action_acting v vs (keyword_of v) (keyed v))

if_stating : (all : List (List ℕ)) (t : Bool) (f : Form) → Stating all f → Stating all (form_if t f)
if_stating all true f h = h
if_stating all false f h = tt

class_stating : (all ws : List (List ℕ)) → Stating all (class_form ws)
class_stating all [] = tt
class_stating all (n ∷ []) = if_stating all (is_name n) (class_line n []) tt
class_stating all (n ∷ c ∷ []) = tt
class_stating all (n ∷ c ∷ p ∷ ps) = if_stating all (is_name n && same c (bytes ":") && every is_name (p ∷ ps)) (class_line n (p ∷ ps)) tt

name_stating : (all : List (List ℕ)) (f : Name → Form) → ((n : Name) → Stating all (f n)) → (ws : List (List ℕ)) → Stating all (name_form f ws)
name_stating all f h [] = tt
name_stating all f h (n ∷ []) = if_stating all (is_name n) (f n) (h n)
name_stating all f h (n ∷ v ∷ vs) = tt

end_stating : (all ws : List (List ℕ)) → Stating all (end_form ws)
end_stating all [] = tt
end_stating all (v ∷ vs) = tt

object_stating : (all ws : List (List ℕ)) → Stating all (object_form ws)
object_stating all [] = tt
object_stating all (n ∷ []) = tt
object_stating all (n ∷ c ∷ vs) = if_stating all (is_name n && is_name c && every is_number vs) (object_line n c (map (decimal 0) vs)) tt

stating : (w : List ℕ) (ws : List (List ℕ)) (k : Keyword) → Keyed w k → Stating (w ∷ ws) (form_as k ws)
unfolding form_as
stating w ws class_word e = class_stating (w ∷ ws) ws
stating w ws field_word e = name_stating (w ∷ ws) field_line (λ n. tt) ws
stating w ws method_word e = name_stating (w ∷ ws) method_line (λ n. tt) ws
stating w ws end_word e = end_stating (w ∷ ws) ws
stating w ws object_word e = object_stating (w ∷ ws) ws
stating w ws set_word e = bare_stating (w ∷ ws) (action_of set_word ws) (action_acting w ws set_word e)
stating w ws add_word e = bare_stating (w ∷ ws) (action_of add_word ws) (action_acting w ws add_word e)
stating w ws send_word e = bare_stating (w ∷ ws) (action_of send_word ws) (action_acting w ws send_word e)
stating w ws reply_word e = bare_stating (w ∷ ws) (action_of reply_word ws) (action_acting w ws reply_word e)
stating w ws when_word e = rw e (when_stating ws)
stating w ws other_word e = tt

-- The line of a statement has the statement's words.
pub spelled : (ws : List (List ℕ)) (s : Statement) → form_of ws ≡ statement_line s → StatementWords ws s
unfolding form_of
spelled ws s e = subst (Stating ws) e (go ws)
  where
    go : (ws : List (List ℕ)) → Stating ws (form_of ws)
    go [] = tt
    go (w ∷ ws) = stating w ws (keyword_of w) (keyed w)
