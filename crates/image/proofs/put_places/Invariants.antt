use Prim.Native.Nat.{ℕ}
use mathlib.Core.List.{List, flat_map}
use Rattle.catalog.specs.View.{statement_word}
use Rattle.output.specs.Each.{numbers}
use Rattle.image.specs.Written.{place_bytes}
use Rattle.output.specs.Append.{Appended}
use Rattle.image.proofs.put_places.Given as goal

abbrev pub place_at : List ℕ → ℕ → List ℕ
place_at ws s = place_bytes (statement_word ws s)

abbrev pub invariant-loop-statement : goal.invariant-loop-statement
invariant-loop-statement l =
    Appended (flat_map (place_at l.tables) (numbers l.statement)) l.initial.image l.at l.end l.image
