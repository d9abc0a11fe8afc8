-- `domain_clashing` meets its contract: the test of a row is whether its locks clash on some class.
use Rattle.std.proofs.Common.{◌∙◌, rules}
use Rattle.machine_words.specs.Said.{asked}
use Rattle.machine_conflicts.specs.Clashing.{domain_clashes}
use Rattle.machine_conflicts.specs.Holders.{domain_in_the_way}
use Rattle.machine_conflicts.proofs.clash.domain_clashing.Goals as goal

pub returns : goal.returns
returns c =
    let a = c.args in
    c.blocking.ensures (domain_clashes a.text.now c.tables_of-tables.result.now (asked a.wanted)) (λ row b e. search rules)
    ∙ domain_in_the_way a.text.now a.state.now a.ahead a.slot (asked a.wanted) _ c.tables_of-tables.ensures c.requires.2
