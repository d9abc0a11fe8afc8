-- `catalog::class_word` meets its contract: it gets the word that the definition names.
use Rattle.catalog.specs.View.{class_word}
use Rattle.catalog.proofs.class_word.Goals as goal

pub returns : goal.returns
unfolding class_word
returns c = c.get.ensures
