-- `body_of` meets its contract: a body's word holds its first statement and its number of statements.
use Rattle.catalog.specs.Bodies.{word_bounds}
use Rattle.catalog.proofs.body.body_of.Goals as goal

pub returns : goal.returns
returns c text = word_bounds text _ _ _ _ c.body_word-word.ensures
