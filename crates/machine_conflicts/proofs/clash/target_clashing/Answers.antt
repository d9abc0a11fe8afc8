-- `target_clashing` meets its contract: the test of a row is whether it has a conflict at the target's word.
use Rattle.std.proofs.Common.{ℕ, ap, ◌∙◌, rules}
use Rattle.machine_words.specs.Line.{blocks}
use Rattle.machine_words.specs.Said.{asked}
use Rattle.machine_conflicts.specs.Way.{gathered, besides}
use Rattle.machine_conflicts.specs.Holders.{lock_test, target_in_the_way}
use Rattle.machine_conflicts.proofs.clash.target_clashing.Goals as goal

pub returns : goal.returns
returns c =
    let a = c.args in
    c.blocking.ensures (lock_test c.target_word-word.result a.wanted.class c.conflicts-methods.result) (λ row b e. search rules)
    ∙ ap (λ (word : ℕ). gathered (besides a.slot (blocks a.state.now a.ahead (lock_test word a.wanted.class c.conflicts-methods.result))) 8) c.target_word-word.ensures
    ∙ target_in_the_way a.text.now a.state.now a.ahead a.slot (asked a.wanted) _ (rw c.tables_of.ensures at c.conflicts-methods.ensures) c.requires.2
