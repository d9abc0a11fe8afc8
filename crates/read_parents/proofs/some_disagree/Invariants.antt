use Rattle.std.proofs.Common.{◌≡◌}
use Rattle.model.specs.Base.{some_pair}
use Rattle.text_lex.specs.Piece.{words_after}
use Rattle.text_lex.specs.Words.{left}
use Rattle.catalog.specs.View.{library_of}
use Rattle.read_parents.specs.Parents.{apart}
use Rattle.read_parents.proofs.some_disagree.Given as goal

abbrev pub invariant-loop-word : goal.invariant-loop-word
invariant-loop-word l = record {
  can : (goal.iterator-loop-word).can_next l.words;
  ends : (goal.iterator-loop-word).is_finite l.words;
  same : some_pair (apart (library_of l.text l.tables)) (left l.words) ≡ some_pair (apart (library_of l.text l.tables)) (words_after l.names);
}
