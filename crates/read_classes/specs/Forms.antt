-- The words of a class, field or method line: the first word determines the form, and the names follow it.
use Rattle.std.specs.Prelude.{ℕ, zero, suc, ◌<◌, ◌≡◌, refl, ◌≢◌, Bool, true, false, ◌&&◌, List, [], ◌∷◌, map}
use Rattle.std.proofs.Math.Path.{sym}
use Rattle.std.proofs.Common.{ap, ◌∙◌, arith}
use Rattle.std.proofs.Math.Option.{Option, none, some}
use Rattle.model.specs.Base.{bytes, same, every}
use Rattle.model.specs.Word.{Name, is_name, is_number, decimal}
use Rattle.model.specs.Expression.{Expression, Parsed, parsed, unread, expression}
use Rattle.text_lex.specs.Piece.{others}
use Rattle.model.specs.Form.{Action, Form, class_line, field_line, method_line, statement_line, end_line, object_line, malformed, Keyword, class_word, field_word, method_word, end_word, object_word, set_word, add_word, send_word, reply_word, when_word, other_word, keyword_of, action_of, statement_form, when_form, form_if, class_form, name_form, end_form, object_form, form_as, form_of}

-- ---- the keyword

abbrev shape : Form → ℕ
shape (class_line n ps) = 1
shape (field_line n) = 2
shape (method_line n) = 3
shape (statement_line s) = 4
shape end_line = 5
shape (object_line n c vs) = 6
shape malformed = 0

-- Unless the form is malformed, its shape is k.
abbrev Of : ℕ → Form → Type 0
Of k f = (m : ℕ) → m ≢ 0 → shape f ≡ m → m ≡ k

of_malformed : (k : ℕ) → Of k malformed
of_malformed k m h e = absurd (h (sym e))

of_if : (t : Bool) (f : Form) → Of (shape f) (form_if t f)
of_if true f m h e = sym e
of_if false f m h e = absurd (h (sym e))

of_statement : (g : Option Expression) (a : Option Action) → Of 4 (statement_form g a)
of_statement g none m h e = absurd (h (sym e))
of_statement g (some a) m h e = sym e

of_class : (ws : List (List ℕ)) → Of 1 (class_form ws)
of_class [] = of_malformed 1
of_class (n ∷ []) = of_if (is_name n) (class_line n [])
of_class (n ∷ c ∷ []) = of_malformed 1
of_class (n ∷ c ∷ p ∷ ps) = of_if (is_name n && same c (bytes ":") && every is_name (p ∷ ps)) (class_line n (p ∷ ps))

module _ (f : Name → Form) (k : ℕ) (h : (n : Name) → shape (f n) ≡ k) where
  of_name : (ws : List (List ℕ)) → Of k (name_form f ws)
  of_name [] = of_malformed k
  of_name (n ∷ []) = λ m l e. of_if (is_name n) (f n) m l e ∙ h n
  of_name (n ∷ w ∷ ws) = of_malformed k

of_end : (ws : List (List ℕ)) → Of 5 (end_form ws)
of_end [] = λ m h e. sym e
of_end (w ∷ ws) = of_malformed 5

of_object : (ws : List (List ℕ)) → Of 6 (object_form ws)
of_object [] = of_malformed 6
of_object (n ∷ []) = of_malformed 6
of_object (n ∷ c ∷ vs) = of_if (is_name n && is_name c && every is_number vs) (object_line n c (map (decimal 0) vs))

of_when : (p : Parsed) → Of 4 (when_form p)
of_when unread = of_malformed 4
of_when (parsed e []) = of_malformed 4
of_when (parsed e (w ∷ ws)) = of_statement (some e) (action_of (keyword_of w) ws)

-- The form of that shape which the words after a keyword make.
abbrev behind : ℕ → List (List ℕ) → Form
behind zero ws = malformed
behind (suc zero) ws = class_form ws
behind (suc (suc zero)) ws = name_form field_line ws
behind (suc (suc (suc n))) ws = name_form method_line ws

module _ (m : ℕ) (h : m ≢ 0) (k : m < 4) where
  by_keyword : (w : Keyword) (ws : List (List ℕ)) → shape (form_as w ws) ≡ m → form_as w ws ≡ behind m ws
  unfolding form_as
  by_keyword class_word ws e = rw (of_class ws m h e)
  by_keyword field_word ws e = rw (of_name field_line 2 (λ n. refl) ws m h e)
  by_keyword method_word ws e = rw (of_name method_line 3 (λ n. refl) ws m h e)
  by_keyword end_word ws e = absurd (omega (arith, of_end ws m h e))
  by_keyword object_word ws e = absurd (omega (arith, of_object ws m h e))
  by_keyword set_word ws e = absurd (omega (arith, of_statement none (action_of set_word ws) m h e))
  by_keyword add_word ws e = absurd (omega (arith, of_statement none (action_of add_word ws) m h e))
  by_keyword send_word ws e = absurd (omega (arith, of_statement none (action_of send_word ws) m h e))
  by_keyword reply_word ws e = absurd (omega (arith, of_statement none (action_of reply_word ws) m h e))
  by_keyword when_word ws e = absurd (omega (arith, of_when (expression ws) m h e))
  by_keyword other_word ws e = absurd (h (sym e))

-- ---- the names

-- The name n is the first of the words, and the rest follow it.
pub record Names (n : Name) (rest ws : List (List ℕ)) : Type 0 where
  pub line : ws ≡ n ∷ rest
  pub name : is_name n ≡ true

form_if_law : (t : Bool) (f g : Form) → shape g ≢ 0 → form_if t f ≡ g → (t ≡ true) × (f ≡ g)
form_if_law true f g h e = (refl, e)
form_if_law false f g h e = absurd (h (sym (ap shape e)))

pub and_left : (a b : Bool) → (a && b) ≡ true → a ≡ true
and_left true b e = refl
and_left false b e = e

nowhere : {A : Type 0} (f : Form) → shape f ≢ 0 → malformed ≡ f → A
nowhere f h e = absurd (h (sym (ap shape e)))

class_names : (ws : List (List ℕ)) (n : Name) (ps : List Name) → class_form ws ≡ class_line n ps → Names n (others ws) ws × (ps ≡ others (others ws))
class_names [] n ps e = nowhere (class_line n ps) (λ z. omega arith) e
class_names (m ∷ []) n ps e =
    let r = form_if_law (is_name m) (class_line m []) (class_line n ps) (λ z. omega arith) e in
    let q : m ≡ n = cc in
    (record { line = ap (λ (x : Name). x ∷ []) q; name = ap is_name (sym q) ∙ r.0 }, (cc))
class_names (m ∷ c ∷ []) n ps e = nowhere (class_line n ps) (λ z. omega arith) e
class_names (m ∷ c ∷ p ∷ qs) n ps e =
    let b = every is_name (p ∷ qs) in
    let r = form_if_law (is_name m && same c (bytes ":") && b) (class_line m (p ∷ qs)) (class_line n ps) (λ z. omega arith) e in
    let q : m ≡ n = cc in (
      record {
        line = ap (λ (x : Name). x ∷ c ∷ p ∷ qs) q;
        name = ap is_name (sym q) ∙ and_left (is_name m) (same c (bytes ":")) (and_left (is_name m && same c (bytes ":")) b r.0);
      },
      (cc),
    )

module _ (f : Name → Form) (h : (n : Name) → shape (f n) ≢ 0) (k : (m n : Name) → f m ≡ f n → m ≡ n) where
  name_names : (ws : List (List ℕ)) (n : Name) → name_form f ws ≡ f n → Names n (others ws) ws
  name_names [] n e = nowhere (f n) (h n) e
  name_names (m ∷ []) n e =
      let r = form_if_law (is_name m) (f m) (f n) (h n) e in
      let q = k m n r.1 in
      record { line = ap (λ (x : Name). x ∷ []) q; name = ap is_name (sym q) ∙ r.0 }
  name_names (m ∷ w ∷ ws) n e = nowhere (f n) (h n) e

-- ---- from a line's words

module _ (w : List ℕ) (ws : List (List ℕ)) (n : Name) where
  keyword : (m : ℕ) → m ≢ 0 → m < 4 → (f : Form) → shape f ≡ m → form_of (w ∷ ws) ≡ f → behind m ws ≡ f
  unfolding form_of
  keyword m z k f r e = sym (by_keyword m z k (keyword_of w) ws (ap shape e ∙ r)) ∙ e

  pub class_line_law : (ps : List Name) → form_of (w ∷ ws) ≡ class_line n ps → Names n (others ws) ws × (ps ≡ others (others ws))
  class_line_law ps e = class_names ws n ps (keyword 1 (λ z. omega arith) (omega arith) (class_line n ps) refl e)

  pub field_line_law : form_of (w ∷ ws) ≡ field_line n → Names n (others ws) ws
  field_line_law e = name_names field_line (λ m z. omega arith) (λ m k q. cc) ws n (keyword 2 (λ z. omega arith) (omega arith) (field_line n) refl e)

  pub method_line_law : form_of (w ∷ ws) ≡ method_line n → Names n (others ws) ws
  method_line_law e = name_names method_line (λ m z. omega arith) (λ m k q. cc) ws n (keyword 3 (λ z. omega arith) (omega arith) (method_line n) refl e)
