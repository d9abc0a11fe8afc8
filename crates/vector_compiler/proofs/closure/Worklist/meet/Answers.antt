-- `meet` meets its contract: the mark is set where it was 0.
use mathlib.Core.Path.{◌≡◌, ◌∙◌}
use lib.ListN.{get_or}
use Rattle.std.proofs.Common.{rules}
use Rattle.vector_compiler.specs.Marks.{touch_new, touch_old}
use Rattle.vector_compiler.proofs.closure.Worklist.meet.Goals as goal

pub returns-then-eq : goal.returns-then-eq
returns-then-eq c =
    let a = c.args in
    let new : get_or a.self.now a.node 0 ≡ 0 = search rules in
    c.self.view_is ∙ c.put_mark.ensures ∙ touch_new a.node a.self.now new

pub returns-else-eq : goal.returns-else-eq
returns-else-eq c =
    let a = c.args in
    let old : get_or a.self.now a.node 0 ≡ 0 → ⊥ = search rules in
    touch_old a.node a.self.now old
