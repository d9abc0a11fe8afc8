-- `text_lex::is_number` meets its contract: a word is a number iff `number_of` answers a value.
use mathlib.Core.Path.{◌∙◌}
use Rattle.text_lex.specs.Number.{number_some}
use Rattle.text_lex.proofs.is_number.Goals as goal

pub returns : goal.returns
returns c = c.is_some.ensures ∙ number_some _ _ c.number_of.ensures
