-- The line for an unfinished line is written first, then the objects' lines.
use Rattle.machine_words.specs.Calls.{lending}
use Rattle.rehearsal.specs.Laws.{finishes}
use Rattle.rehearsal.proofs.finish.Goals as goal

pub returns : goal.returns
returns c =
    let a = c.args in
    finishes (lending a.text.now a.state.now a.values.now) a.line.now a.kept c.put_unended-at.ensures c.put_objects.ensures
