-- `value_of` meets its contract: the value is what `number_of` answers, and 0 where that is no number.
use mathlib.Core.Path.{◌∙◌}
use Rattle.image.specs.Values.{value_unwrapped}
use Rattle.image.proofs.value.value_of.Goals as goal

pub returns : goal.returns
returns c = c.unwrap_or.ensures ∙ value_unwrapped _ _ c.number_of.ensures
