-- `catalog::part_of` meets its contract: it takes the part that the definition names.
use Rattle.catalog.specs.View.{part_of}
use Rattle.catalog.proofs.part_of.Goals as goal

pub returns : goal.returns
unfolding part_of
returns c = c.part.ensures
