use mathlib.Core.Path.{◌≡◌}
use Rattle.model.specs.Text.{words}
use Rattle.text_lex.specs.Words.{left}
use Rattle.vector_direct.specs.Calls.{behind_send}
use Rattle.vector_direct.proofs.behind_send.Given as goal

abbrev pub invariant-loop-word : goal.invariant-loop-word
invariant-loop-word l = record {
  can : (goal.iterator-loop-word).can_next l.words;
  ends : (goal.iterator-loop-word).is_finite l.words;
  same : behind_send (left l.words) ≡ behind_send (words l.line);
}
