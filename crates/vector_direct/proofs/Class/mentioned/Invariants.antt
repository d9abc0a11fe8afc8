use Rattle.model.specs.Text.{words}
use Rattle.text_lex.specs.Words.{left}
use Rattle.vector_direct.specs.Fields.{fields_in}
use Rattle.vector_direct.specs.Mentions.{mentions_behind}
use Rattle.vector_direct.specs.Gathering.{Gathered}
use Rattle.vector_direct.proofs.Class.mentioned.Given as goal

abbrev pub invariant-loop-word : goal.invariant-loop-word
invariant-loop-word l = record {
  can : (goal.iterator-loop-word).can_next l.word-iterator;
  ends : (goal.iterator-loop-word).is_finite l.word-iterator;
  gathered :
      Gathered (fields_in l.self.text.now l.self.tables.now l.self.number) l.keyword l.usual (mentions_behind l.keyword l.usual (words l.line)) l.mask l.on (left l.word-iterator);
}
