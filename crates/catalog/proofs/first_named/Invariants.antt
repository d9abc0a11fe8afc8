use Prim.Native.Nat.{ℕ, ◌+◌, ◌*◌, ◌≤◌}
use mathlib.Core.Path.{◌≡◌}
use mathlib.Core.Bool.{Bool}
use mathlib.Core.List.{List}
use lib.ListN.{get_or}
use Rattle.layout.specs.Layout.{class_words}
use Rattle.model.specs.Base.{same, first_at, upto}
use Rattle.catalog.specs.View.{name_of}
use Rattle.catalog.proofs.first_named.Given as goal

abbrev pub named : List ℕ → List ℕ → ℕ → Bool
named text name w = same (name_of text w) name

abbrev pub word : List ℕ → ℕ → ℕ → ℕ → ℕ
word tables from step i = get_or tables (from + i * step) 0

abbrev pub invariant-loop-i : goal.invariant-loop-i
invariant-loop-i l =
    (l.i ≤ l.count) × (l.place ≤ l.from + l.i * class_words) × (l.place ≡ l.from + l.i * l.step) × (first_at (named l.text l.name) (upto (word l.tables l.from l.step) l.i) ≡ l.i)
