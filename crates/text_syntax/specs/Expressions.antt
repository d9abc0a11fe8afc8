-- What a walk over words finds in an expression: which of its words are names, and that a walk word by word is a walk expression
-- by expression.
use Prim.Native.Nat.{ℕ, zero, suc}
use Rattle.std.specs.Prelude.{◌≡◌, refl, Bool, true, false, cond}
use Rattle.std.proofs.Common.{sym, ap, subst, ◌∙◌}
use mathlib.Core.List.{List, [], ◌∷◌}
use Rattle.model.specs.Base.{bytes, same}
use Rattle.model.specs.Word.{is_name, is_number, decimal}
use Rattle.model.specs.Expression.{Operator, plus, minus, times, less, equal, Expression, number, field, argument, got, apply}
use Rattle.model.specs.Expression.{Token, operator, leaf, neither, token_of, Parsed, parsed, unread, and_then, from, read_levels}
use Rattle.laws.specs.Lists.{same_sound}

-- A word is a name exactly where it is a field.
abbrev pub Named : List ℕ → Token → Type 0
Named w (operator o) = is_name w ≡ false
Named w (leaf (number n)) = is_name w ≡ false
Named w (leaf (field g)) = (is_name w ≡ true) × (g ≡ w)
Named w (leaf argument) = is_name w ≡ false
Named w (leaf got) = is_name w ≡ false
Named w (leaf (apply o a b)) = ⊥
Named w neither = Unit {0}

pub named : (w : List ℕ) → Named w (token_of w)
unfolding token_of is_name
named w =
    choice (bytes "+") (operator plus) _ (ap is_name) (choice (bytes "-") (operator minus) _ (ap is_name)
    (choice (bytes "*") (operator times) _ (ap is_name) (choice (bytes "<") (operator less) _ (ap is_name)
    (choice (bytes "=") (operator equal) _ (ap is_name) (choice (bytes "arg") (leaf argument) _ (ap is_name)
    (choice (bytes "got") (leaf got) _ (ap is_name) (name (is_name w) refl)))))))
  where
    choice : (k : List ℕ) (x y : Token) → (w ≡ k → Named w x) → Named w y → Named w (cond (same w k) x y)
    choice k x y f h = go (same w k) refl
      where
        go : (t : Bool) → same w k ≡ t → Named w (cond t x y)
        go true e = f (same_sound w k e)
        go false e = h

    digits : is_name w ≡ false → (t : Bool) → Named w (cond t (leaf (number (decimal 0 w))) neither)
    digits e true = e
    digits e false = tt

    name : (t : Bool) → is_name w ≡ t → Named w (cond t (leaf (field w)) (cond (is_number w) (leaf (number (decimal 0 w))) neither))
    name true e = (e, refl)
    name false e = digits e (is_number w)

abbrev pub IsToken : Token → Type 0
IsToken (operator o) = Unit {0}
IsToken (leaf e) = Unit {0}
IsToken neither = ⊥

-- A word of an expression differs from any word that is no token.
pub no_token : (k : List ℕ) → token_of k ≡ neither → (w : List ℕ) (t : Token) → token_of w ≡ t → IsToken t → same w k ≡ false
no_token k e w t q h = go (same w k) refl
  where
    go : (b : Bool) → same w k ≡ b → same w k ≡ false
    go true r = absurd (subst IsToken (sym q ∙ ap token_of (same_sound w k r) ∙ e) h)
    go false r = r

-- A walk over words that handles each token correctly; `found` is its effect on an expression.
module _ {X : Type 0} (walk : List (List ℕ) → X) (found : Expression → X → X) where
  abbrev pub Taken : List ℕ → Token → Type 0
  Taken w (operator o) = (ws : List (List ℕ)) → walk (w ∷ ws) ≡ walk ws
  Taken w (leaf e) = (ws : List (List ℕ)) → walk (w ∷ ws) ≡ found e (walk ws)
  Taken w neither = Unit {0}

  abbrev pub Walked : List (List ℕ) → Parsed → Type 0
  Walked ws (parsed e rest) = walk ws ≡ found e (walk rest)
  Walked ws unread = Unit {0}

  module _ (taken : (w : List ℕ) → Taken w (token_of w)) (both : (o : Operator) (a b : Expression) (x : X) → found (apply o a b) x ≡ found a (found b x)) where
    walked_from : (read : List (List ℕ) → Parsed) → ((ws : List (List ℕ)) → Walked ws (read ws)) → (w : List ℕ) (t : Token) → Taken w t
        → (ws : List (List ℕ)) → Walked (w ∷ ws) (from read t ws)
    walked_from read h w (operator o) k ws = first (read ws) (h ws)
      where
        second : (a : Expression) (rest : List (List ℕ)) → walk (w ∷ ws) ≡ found a (walk rest) → (p : Parsed) → Walked rest p
            → Walked (w ∷ ws) (and_then p (λ b behind. parsed (apply o a b) behind))
        second a rest e unread q = tt
        second a rest e (parsed b behind) q = e ∙ ap (found a) q ∙ sym (both o a b (walk behind))

        first : (p : Parsed) → Walked ws p → Walked (w ∷ ws) (and_then p (λ a rest. and_then (read rest) (λ b behind. parsed (apply o a b) behind)))
        first unread q = tt
        first (parsed a rest) q = second a rest (k ws ∙ q) (read rest) (h rest)
    walked_from read h w (leaf e) k ws = k ws
    walked_from read h w neither k ws = tt

    -- The walk handles the expression and then the words after it.
    pub walked : (n : ℕ) (ws : List (List ℕ)) → Walked ws (read_levels n ws)
    unfolding read_levels
    walked zero ws = tt
    walked (suc n) [] = tt
    walked (suc n) (w ∷ ws) = walked_from (read_levels n) (walked n) w (token_of w) (taken w) ws
