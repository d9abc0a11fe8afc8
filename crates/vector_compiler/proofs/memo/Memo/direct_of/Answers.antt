-- `direct_of` meets its contract: what is kept is right, and what is found is kept.
use mathlib.Core.Path.{sym, ◌∙◌}
use Rattle.vector_compiler.specs.Memo.{memory_body}
use Rattle.vector_compiler.proofs.memo.Memo.direct_of.Goals as goal

pub returns-in-Some-clause-right : goal.returns-in-Some-clause-right
returns-in-Some-clause-right c =
    c.requires.bodies.right c.args.node c.in-Some.direct (sym c.body.ensures ∙ c.in-Some.is)

pub returns-clause-memory : goal.returns-clause-memory
returns-clause-memory c =
    let a = c.args in
    memory_body a.class.now.text.now a.class.now.tables.now a.class.now.number a.self.now _ a.node c.found-direct.result c.requires c.found-direct.ensures
    c.keep_body.ensures.bodies c.keep_body.ensures.callees
