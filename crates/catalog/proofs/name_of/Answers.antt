-- `catalog::name_of` meets its contract: a name is a part of the text.
use Rattle.catalog.specs.View.{name_of}
use Rattle.catalog.proofs.name_of.Goals as goal

pub returns : goal.returns
unfolding name_of
returns c = c.part.ensures
