use mathlib.Core.Path.{◌≡◌}
use Rattle.text_lex.specs.Piece.{words_after}
use Rattle.text_lex.specs.Words.{left}
use Rattle.catalog.specs.View.{members_of, library_of}
use Rattle.catalog.specs.Frames.{Kept}
use Rattle.read_classes.specs.Joins.{inherited_behind}
use Rattle.read_classes.proofs.inherit.Given as goal

abbrev pub invariant-loop-name : goal.invariant-loop-name
invariant-loop-name l = record {
  can : (goal.iterator-loop-name).can_next l.name-iterator;
  ends : (goal.iterator-loop-name).is_finite l.name-iterator;
  kept : Kept l.initial.tables l.class l.kind l.tables;
  same :
      inherited_behind l.kind (library_of l.text l.initial.tables) (members_of l.text l.tables l.class l.kind) (left l.name-iterator)
      ≡ inherited_behind l.kind (library_of l.text l.initial.tables) (members_of l.text l.initial.tables l.class l.kind) (words_after l.parents);
}
