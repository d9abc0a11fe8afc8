-- `target_word` meets its contract, by the target's kind.
use Rattle.machine_words.specs.Said.{asked}
use Rattle.machine_conflicts.specs.Holders.{word_of_object, word_of_class}
use Rattle.machine_conflicts.proofs.clash.target_word.Goals as goal

pub returns-then-wanted-eq-OBJECT_KIND : goal.returns-then-wanted-eq-OBJECT_KIND
returns-then-wanted-eq-OBJECT_KIND c = word_of_object (asked c.args.wanted) c.if-wanted-eq-OBJECT_KIND.true

pub returns-else-wanted-eq-OBJECT_KIND : goal.returns-else-wanted-eq-OBJECT_KIND
returns-else-wanted-eq-OBJECT_KIND c = word_of_class (asked c.args.wanted) c.if-wanted-eq-OBJECT_KIND.false
