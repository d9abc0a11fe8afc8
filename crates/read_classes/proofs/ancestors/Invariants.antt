use mathlib.Core.Path.{◌≡◌}
use mathlib.Core.Bool.{◌||◌}
use Prim.Native.Nat.{ℕ}
use Rattle.model.specs.Library.{above}
use Rattle.text_lex.specs.Piece.{words_after}
use Rattle.text_lex.specs.Words.{left}
use Rattle.laws.specs.Bits.{bit}
use Rattle.catalog.specs.View.{library_of}
use Rattle.read_classes.proofs.ancestors.Given as goal

abbrev pub invariant-loop-name : goal.invariant-loop-name
invariant-loop-name l = record {
  can : (goal.iterator-loop-name).can_next l.name-iterator;
  ends : (goal.iterator-loop-name).is_finite l.name-iterator;
  same : (d : ℕ) → (bit l.mask d || above (library_of l.text l.tables) (left l.name-iterator) d) ≡ above (library_of l.text l.tables) (words_after l.names) d;
}
