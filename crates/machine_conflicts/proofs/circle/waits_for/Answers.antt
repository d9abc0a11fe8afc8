-- `waits_for` meets its contract: the waiting send is read from the slot's row.
use mathlib.Core.Path.{ap, ◌∙◌}
use Rattle.machine_words.specs.Request.{Wanted}
use Rattle.machine_words.specs.Line.{in_the_way}
use Rattle.machine_conflicts.specs.Way.{gathered}
use Rattle.machine_conflicts.proofs.circle.waits_for.Goals as goal

pub returns : goal.returns
returns c =
    let a = c.args in
    c.clashing.ensures
    ∙ ap (λ (q : Wanted). gathered (in_the_way a.text.now a.state.now a.ahead a.slot q) 8) (rw (c.tables_of.ensures, c.waiting_of.ensures) at c.wanted_in-wanted.ensures)
