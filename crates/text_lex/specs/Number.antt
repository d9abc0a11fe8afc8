-- The value of a word, and the meaning of an answer of `number_of` (01, "A number is 0 to 4,294,967,295 ..").
use Rattle.std.specs.Prelude.{ℕ, ◌≡◌, refl, Bool, true, false, cond, List}
use Rattle.std.specs.Prelude.{Some, None, is_some}
use Rattle.std.specs.Prelude as rust
use Rattle.std.proofs.Math.Option.{Option, none, some}
use Rattle.std.proofs.Common.{sym, ap, ◌∙◌}
use Rattle.model.specs.Word.{is_number, decimal}

unfoldable pub number_of : List ℕ → Option ℕ
unfolding is_number decimal
number_of w = cond (is_number w) (some (decimal 0 w)) none

abbrev pub said : rust.Option ℕ → Option ℕ
said (Some n) = some n
said None = none

abbrev is_value : Option ℕ → Bool
is_value none = false
is_value (some n) = true

said_value : (r : rust.Option ℕ) → is_value (said r) ≡ is_some r
said_value (Some n) = refl
said_value None = refl

-- A word is a number where there is a value.
pub number_some : (r : rust.Option ℕ) (w : List ℕ) → said r ≡ number_of w → is_some r ≡ is_number w
unfolding number_of
number_some r w e = sym (said_value r) ∙ ap is_value e ∙ go (is_number w)
  where
    go : (t : Bool) → is_value (cond t (some (decimal 0 w)) none) ≡ t
    go true = refl
    go false = refl
