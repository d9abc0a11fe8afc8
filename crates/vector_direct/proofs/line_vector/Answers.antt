-- `line_vector` meets its contract: the fields that a statement's words mention are those of its modes.
use mathlib.Core.Path.{sym, ◌∙◌}
use Rattle.vector_direct.specs.Fields.{fields_in}
use Rattle.vector_direct.specs.Lines.{line_says, line_idle}
use Rattle.vector_direct.proofs.line_vector.Goals as goal

pub returns-then-is_statement : goal.returns-then-is_statement
returns-then-is_statement c =
    let a = c.args in
    line_says a.line.now (fields_in a.text.now a.tables.now a.class) _ (sym c.is_statement.ensures ∙ c.if-is_statement.true)
    c.mentioned.ensures c.mentioned-then-is_statement.ensures

pub returns-else-is_statement : goal.returns-else-is_statement
returns-else-is_statement c =
    let a = c.args in
    line_idle a.line.now (fields_in a.text.now a.tables.now a.class) (sym c.is_statement.ensures ∙ c.if-is_statement.false)
