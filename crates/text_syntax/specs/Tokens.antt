-- The meaning of an answer of `token_of`: the model's token of the word.
use Rattle.std.specs.Prelude.{ℕ, ◌≡◌, refl, Bool, true, false, cond, List}
use Rattle.std.proofs.Common.{ap, ◌∙◌}
use Rattle.std.proofs.Math.Option.{Option, none, some}
use Rattle.model.specs.Base.{bytes, same}
use Rattle.model.specs.Word.{is_name, is_number, decimal}
use Rattle.model.specs.Expression.{plus, minus, times, less, equal, number, field, argument, got, operator, leaf, neither}
use Rattle.model.specs.Expression as model
use Rattle.std.specs.Prelude as rust
use Rattle.std.specs.Prelude.{Some, None}
use Rattle.text_lex.specs.Number.{number_of, said}
use Rattle.text_syntax.specs.declared.token.Operator.{Operator}
use Rattle.text_syntax.specs.declared.token.Operator.TheVariants.{Plus, Minus, Times, Less, Equal}
use Rattle.text_syntax.specs.declared.token.Leaf.{Leaf}
use Rattle.text_syntax.specs.declared.token.Leaf.TheVariants.{Literal, Field, Argument, Got}
use Rattle.text_syntax.specs.declared.token.Token.{Token}
use Rattle.text_syntax.specs.declared.token.Token.TheVariants.{Sign, Single}

abbrev pub said_operator : Operator → model.Operator
said_operator Plus = plus
said_operator Minus = minus
said_operator Times = times
said_operator Less = less
said_operator Equal = equal

-- A leaf of the word w.
abbrev pub said_leaf : List ℕ → Leaf → model.Expression
said_leaf w (Literal n) = number n
said_leaf w Field = field w
said_leaf w Argument = argument
said_leaf w Got = got

abbrev pub said_token : List ℕ → rust.Option Token → model.Token
said_token w (Some (Sign o)) = operator (said_operator o)
said_token w (Some (Single l)) = leaf (said_leaf w l)
said_token w None = neither

-- The token of a number.
abbrev pub literal : rust.Option ℕ → rust.Option Token
literal (Some n) = Some (Single (Literal n))
literal None = None

abbrev literal_of : Option ℕ → model.Token
literal_of (some n) = leaf (number n)
literal_of none = neither

-- The token of a word that is `arg`, `got` or a name; else the other.
unfoldable pub named_or : List ℕ → model.Token → model.Token
named_or w other = cond (same w (bytes "arg")) (leaf argument) (cond (same w (bytes "got")) (leaf got) (cond (is_name w) (leaf (field w)) other))

-- The token of a word that is a number; else neither.
abbrev pub numeral : List ℕ → model.Token
numeral w = cond (is_number w) (leaf (number (decimal 0 w))) neither

pub literal_said : (w : List ℕ) (n : rust.Option ℕ) → said n ≡ number_of w → said_token w (literal n) ≡ numeral w
unfolding number_of
literal_said w n e = by n ∙ ap literal_of e ∙ through (is_number w)
  where
    by : (n : rust.Option ℕ) → said_token w (literal n) ≡ literal_of (said n)
    by (Some n) = refl
    by None = refl

    through : (t : Bool) → literal_of (cond t (some (decimal 0 w)) none) ≡ cond t (leaf (number (decimal 0 w))) neither
    through true = refl
    through false = refl
