-- `is_stray` meets its contract: both tests are the definition's, for the last class.
use Rattle.read_lines.specs.Held.{stray}
use Rattle.read_lines.proofs.Scope.is_stray.Goals as goal

pub returns : goal.returns
returns c =
    let a = c.args in
    stray a.self.now.text.now a.self.now.tables.now c.last_class.result c.last_class.ensures a.word.now c.is_name.ensures c.has_member.ensures
