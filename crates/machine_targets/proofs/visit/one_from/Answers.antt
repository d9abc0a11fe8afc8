-- `one_from` meets its contract: only one of the numbers from `from` on is searched for.
use Rattle.std.proofs.Common.{◌≡◌, ◌+◌, ◌-◌, ◌∙◌, sym, arith}
use Rattle.machine_targets.specs.Visits.{one_there, one_none}
use Rattle.machine_targets.proofs.visit.one_from.Goals as goal

pub returns-then-number-end : goal.returns-then-number-end
returns-then-number-end c =
    let a = c.args in
    one_there a.number (a.end - a.from) a.from (omega arith) (omega arith)

pub returns-else-from-number : goal.returns-else-from-number
returns-else-from-number c =
    let a = c.args in
    let e : a.from + (a.end - a.from) ≡ c.max.result = omega (arith, c.max.ensures) in
    sym (one_none a.number (a.end - a.from) a.from (λ g h. omega (arith, c.else-from-number.either)) ∙ e)
