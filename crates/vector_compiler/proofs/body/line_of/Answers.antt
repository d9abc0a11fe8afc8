-- `line_of` meets its contract: the line is the part of the text that the statement's word gives.
use mathlib.Core.Path.{ap, ◌∙◌}
use Rattle.catalog.specs.View.{part_of, statement_word}
use Rattle.vector_compiler.proofs.body.line_of.Goals as goal

pub returns : goal.returns
unfolding statement_word
returns c = c.part_of.ensures ∙ ap (part_of c.args.text.now) c.get.ensures
