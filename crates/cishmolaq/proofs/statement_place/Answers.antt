-- The tables of an accepted text have the statement's place; a refused text has none.
use Rattle.cishmolaq.specs.Laws.{statement_refused, stands, refused_by, accepted_by}
use Rattle.cishmolaq.proofs.statement_place.Goals as goal

pub returns-in-Err : goal.returns-in-Err
returns-in-Err c =
    let a = c.args in
    stands a.text.now a.count (statement_refused a.text.now a.count _ _ (refused_by c.read_text.ensures _ c.in-Err.is)).0

pub returns-in-Ok : goal.returns-in-Ok
returns-in-Ok c =
    let a = c.args in
    stands a.text.now a.count (c.place_at.ensures a.text.now (accepted_by c.read_text.ensures c.in-Ok.is))
