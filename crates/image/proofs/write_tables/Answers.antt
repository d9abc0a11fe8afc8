-- `write_tables` meets its contract: the lines of all methods, from the front on.
use Rattle.image.specs.Written.{tables_from}
use Rattle.output.specs.Append.{appended_printed}
use Rattle.image.proofs.write_tables.Goals as goal

pub returns : goal.returns
unfolding tables_from
returns c = appended_printed c.put_classes.ensures
