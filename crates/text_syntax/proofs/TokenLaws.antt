-- The token of a word by its first byte: of a single byte, of a word that begins with a letter, and of any other.
use Prim.Native.Nat.{ℕ, ◌+◌, ◌-◌, ◌≤◌, ◌<◌}
use mathlib.Core.Path.{◌≡◌, refl, sym, ap, ◌∙◌}
use mathlib.Core.Bool.{Bool, true, false, cond, ◌&&◌, ◌||◌, false≢true}
use mathlib.Core.List.{List, [], ◌∷◌}
use native.Mathlib.Omega.{arith}
use lib.ListN.{length, get_or}
use lib.Dec.{eqb, leb}
use borrow.Author.Tests.{ne_eqb, le-leb, lt-leb, leb-true}
use Rattle.model.specs.Base.{bytes, same, any, every}
use Rattle.model.specs.Word.{is_letter, is_digit, is_reserved, reserved, is_name, is_number, decimal}
use Rattle.model.specs.Expression.{Token, operator, leaf, neither, plus, minus, times, less, equal, number, field, argument, got, token_of}
use Rattle.text_lex.specs.Tests.{and_false, and_true}
use Rattle.text_lex.specs.Among.{by_length}
use Rattle.std.specs.Prelude.{Option}
use Rattle.text_syntax.specs.declared.token.Token.{Token as Answer}
use Rattle.text_syntax.specs.Tokens.{said_token, named_or, numeral}

-- A byte from `low` to `high`, and one outside that range.
module _ (low high b : ℕ) where
  pub inside : low ≤ b → b ≤ high → (leb low b && leb b high) ≡ true
  inside h k = rw (le-leb low b h, le-leb b high k)

  pub below : b < low → (leb low b && leb b high) ≡ false
  below h = rw (lt-leb low b h)

  pub above : high < b → (leb low b && leb b high) ≡ false
  above h = and_false (leb low b) (lt-leb b high h)

-- A word that is no operator.
unsigned : (w : List ℕ) → same w (bytes "+") ≡ false → same w (bytes "-") ≡ false → same w (bytes "*") ≡ false → same w (bytes "<") ≡ false
    → same w (bytes "=") ≡ false → named_or w (numeral w) ≡ token_of w
unfolding token_of named_or
unsigned w p m x l e =
    sym
    (λ i.
    cond (p i) (operator plus)
    (cond (m i) (operator minus)
    (cond (x i) (operator times)
    (cond (l i) (operator less)
    (cond (e i) (operator equal)
    (named_or w (numeral w)))))))

-- The token of a single byte that is no operator: a field, a number or neither.
abbrev pub byte_leaf : ℕ → Token
byte_leaf b = cond (is_letter b) (leaf (field (b ∷ []))) (cond (is_digit b) (leaf (number (b - 48))) neither)

module _ (b : ℕ) where
  no_reserved : is_reserved (b ∷ []) ≡ false
  unfolding is_reserved any
  no_reserved = by_length (λ v. v) (λ v t u. t || u) false (λ v u. refl) reserved (b ∷ [])

  name_alone : is_name (b ∷ []) ≡ is_letter b
  unfolding is_name every
  name_alone = rw no_reserved (go (is_letter b))
    where
      go : (t : Bool) → (t && true && ((t || is_digit b || eqb b 95) && true) && true) ≡ t
      go true = refl
      go false = refl

  number_alone : is_number (b ∷ []) ≡ is_digit b
  unfolding is_number every decimal
  number_alone = go (is_digit b) refl
    where
      go : (t : Bool) → is_digit b ≡ t → (t && true && leb (0 + b - 48) 4294967295) ≡ t
      go true e = let r = leb-true b 57 (and_true (leb 48 b) e).1 in le-leb (0 + b - 48) 4294967295 (omega arith)
      go false e = refl

  said_alone : decimal 0 (b ∷ []) ≡ b - 48
  unfolding decimal
  said_alone = omega arith

  leaf_alone : named_or (b ∷ []) (numeral (b ∷ [])) ≡ byte_leaf b
  unfolding named_or same
  leaf_alone = λ i.
      cond (and_false (eqb b 97) refl i) (leaf argument)
      (cond (and_false (eqb b 103) refl i) (leaf got)
      (cond (name_alone i) (leaf (field (b ∷ [])))
      (cond (number_alone i) (leaf (number (said_alone i))) neither)))

  differs : (k : ℕ) → (b ≡ k → ⊥) → same (b ∷ []) (k ∷ []) ≡ false
  unfolding same
  differs k h = rw (ne_eqb b k h)

  pub alone : (b ≡ 43 → ⊥) → (b ≡ 45 → ⊥) → (b ≡ 42 → ⊥) → (b ≡ 60 → ⊥) → (b ≡ 61 → ⊥) → byte_leaf b ≡ token_of (b ∷ [])
  alone p m x l e = sym leaf_alone ∙ unsigned (b ∷ []) (differs 43 p) (differs 45 m) (differs 42 x) (differs 60 l) (differs 61 e)

-- A word of two bytes or more.
module _ (b c : ℕ) (w : List ℕ) where
  leaf_long : named_or (b ∷ c ∷ w) (numeral (b ∷ c ∷ w)) ≡ token_of (b ∷ c ∷ w)
  unfolding same
  leaf_long =
      let short : (k : ℕ) → same (b ∷ c ∷ w) (k ∷ []) ≡ false = λ k. and_false (eqb b k) refl in
      unsigned (b ∷ c ∷ w) (short 43) (short 45) (short 42) (short 60) (short 61)

  -- No number begins with a letter, and no name with another byte.
  no_number : is_letter b ≡ true → is_number (b ∷ c ∷ w) ≡ false
  unfolding is_number every
  no_number e =
      let l = leb-true 97 b (and_true (leb 97 b) e).0 in
      rw (ne_eqb b 48 (λ q. omega arith), above 48 57 b (omega arith))

  no_name : is_letter b ≡ false → is_name (b ∷ c ∷ w) ≡ false
  unfolding is_name
  no_name e = rw e

  no_word : (k : ℕ) (v : List ℕ) → is_letter k ≡ true → is_letter b ≡ false → same (b ∷ c ∷ w) (k ∷ v) ≡ false
  unfolding same
  no_word k v t e = rw (ne_eqb b k (λ q. false≢true (sym e ∙ ap is_letter q ∙ t)))

  long_named : is_letter b ≡ true → named_or (b ∷ c ∷ w) neither ≡ token_of (b ∷ c ∷ w)
  long_named e = rw (no_number e) at leaf_long

  long_number : is_letter b ≡ false → numeral (b ∷ c ∷ w) ≡ token_of (b ∷ c ∷ w)
  unfolding named_or
  long_number e = rw (no_word 97 (bytes "rg") refl e, no_word 103 (bytes "ot") refl e, no_name e) at leaf_long

-- The same for a word as the code reads it: by its length and its first byte.
pub empty : (w : List ℕ) → length w ≡ 0 → neither ≡ token_of w
unfolding token_of
empty [] h = refl
empty (b ∷ w) h = absurd (omega arith)

pub one_byte : (w : List ℕ) (t : Option Answer) → length w ≡ 1 → said_token (get_or w 0 0 ∷ []) t ≡ token_of (get_or w 0 0 ∷ []) → said_token w t ≡ token_of w
one_byte [] t h e = absurd (omega arith)
one_byte (b ∷ []) t h e = e
one_byte (b ∷ c ∷ w) t h e = absurd (omega arith)

pub named : (w : List ℕ) → (length w ≡ 0 → ⊥) → (length w ≡ 1 → ⊥) → is_letter (get_or w 0 0) ≡ true → named_or w neither ≡ token_of w
named [] h k e = absurd (h refl)
named (b ∷ []) h k e = absurd (k refl)
named (b ∷ c ∷ w) h k e = long_named b c w e

pub numbered : (w : List ℕ) → (length w ≡ 0 → ⊥) → (length w ≡ 1 → ⊥) → is_letter (get_or w 0 0) ≡ false → numeral w ≡ token_of w
numbered [] h k e = absurd (h refl)
numbered (b ∷ []) h k e = absurd (k refl)
numbered (b ∷ c ∷ w) h k e = long_number b c w e
