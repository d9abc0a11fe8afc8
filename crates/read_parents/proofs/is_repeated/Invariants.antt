use Rattle.std.proofs.Common.{◌≡◌}
use Rattle.model.specs.Base.{same, some_pair}
use Rattle.text_lex.specs.Piece.{words_after}
use Rattle.text_lex.specs.Words.{left}
use Rattle.read_parents.proofs.is_repeated.Given as goal

abbrev pub invariant-loop-word : goal.invariant-loop-word
invariant-loop-word l = record {
  can : (goal.iterator-loop-word).can_next l.words;
  ends : (goal.iterator-loop-word).is_finite l.words;
  same : some_pair same (left l.words) ≡ some_pair same (words_after l.names);
}
