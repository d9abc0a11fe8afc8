-- The part of the text at the statement's place.
use mathlib.Core.Path.{◌∙◌}
use Rattle.cishmolaq.specs.Laws.{part_at}
use Rattle.cishmolaq.proofs.statement.Goals as goal

pub returns : goal.returns
returns c = c.part.ensures ∙ part_at _ _ _ _ c.statement_place-place.ensures.place
