-- `body_of` meets its contract: the body is found by the vertex's name and cut at the text's last statement; a missing one is empty.
use Rattle.vector_compiler.specs.Bodies.{body_found, body_missing}
use Rattle.vector_compiler.proofs.body.body_of.Goals as goal

pub returns-in-Some : goal.returns-in-Some
returns-in-Some c =
    let a = c.args in
    body_found a.text.now a.tables.now a.node c.member_word.result _ c.member_word.ensures c.name_of-name.ensures c.in-Some.found _ _ c.in-Some.ensures c.run_of.ensures

pub returns-in-None : goal.returns-in-None
returns-in-None c =
    let a = c.args in
    body_missing a.text.now a.tables.now a.node c.member_word.result _ c.member_word.ensures c.name_of-name.ensures c.in-None.ensures
