use mathlib.Core.Path.{◌≡◌}
use Rattle.refusals.specs.Numbers.{fault_in}
use Rattle.model.specs.Text.{words}
use Rattle.text_lex.specs.Words.{left}
use Rattle.catalog.specs.View.{library_of}
use Rattle.read_lines.specs.Below.{lines_at}
use Rattle.read_lines.specs.Lower.{lower}
use Rattle.read_lines.specs.Mentioned.{fault_from, fault_behind}
use Rattle.read_lines.proofs.Scope.words_fault.Given as goal

abbrev pub invariant-loop-word : goal.invariant-loop-word
invariant-loop-word l = record {
  can : (goal.iterator-loop-word).can_next l.word-iterator;
  ends : (goal.iterator-loop-word).is_finite l.word-iterator;
  same :
      lower (fault_in l.fault) (fault_from (library_of l.self.text.now l.self.tables.now) (lines_at l.self.text.now l.self.below) l.sent (left l.word-iterator))
      ≡ fault_behind (library_of l.self.text.now l.self.tables.now) (lines_at l.self.text.now l.self.below) (words l.line);
}
