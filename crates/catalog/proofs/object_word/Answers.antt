-- `catalog::object_word` meets its contract: it gets the word that the definition names.
use Rattle.catalog.specs.View.{object_word}
use Rattle.catalog.proofs.object_word.Goals as goal

pub returns : goal.returns
unfolding object_word
returns c = c.get.ensures
