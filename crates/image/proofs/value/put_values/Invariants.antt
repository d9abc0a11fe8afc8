use Prim.Native.Nat.{ℕ, ◌+◌}
use mathlib.Core.Path.{◌≡◌}
use mathlib.Core.List.{List, []}
use lib.ListN.{drop, get_or}
use Rattle.model.specs.Base.{upto}
use Rattle.text_lex.specs.Words.{left}
use Rattle.catalog.specs.View.{value_of}
use Rattle.output.specs.Append.{Appended}
use Rattle.image.proofs.value.put_values.Given as goal

-- The value of field j, by the words of the line.
abbrev pub saidIn : List (List ℕ) → ℕ → ℕ
saidIn ws j = value_of (get_or ws j [])

abbrev pub invariant-loop-field : goal.invariant-loop-field
invariant-loop-field l =
    (left l.words ≡ drop l.field (left l.initial.words)) × Appended (upto (saidIn (left l.initial.words)) l.field) l.initial.values l.at (l.at + l.field) l.values
