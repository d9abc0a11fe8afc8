-- `statement_line` meets its contract: cut to the text, the line has the same bytes.
use Rattle.refusals.specs.Numbers.{fault_in}
use Rattle.read_lines.specs.Took.{statement_cut}
use Rattle.read_lines.proofs.statement_line.Goals as goal

pub returns : goal.returns
returns c =
    let a = c.args in
    statement_cut a.text.now a.at a.end c.clip.result.start c.clip.result.end c.clip.ensures.end c.clip.ensures.start
    a.tables.now (fault_in c.take_statement.result) c.take_statement.new.tables c.take_statement.ensures
