-- An LF has the line answered, and any other byte is kept.
use Rattle.machine_words.specs.Calls.{lending}
use Rattle.rehearsal.specs.Laws.{on_lf}
use Rattle.rehearsal.proofs.take_byte.Goals as goal

pub returns-then-byte-eq-LINE_FEED : goal.returns-then-byte-eq-LINE_FEED
returns-then-byte-eq-LINE_FEED c =
    let a = c.args in
    on_lf (lending a.text.now a.state.now a.values.now) a.line.now a.kept a.out.now a.size a.byte c.if-byte-eq-LINE_FEED.true c.requires.1
    c.answer_line-end.ensures
