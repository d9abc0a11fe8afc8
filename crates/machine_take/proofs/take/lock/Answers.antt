-- `lock` meets its contract, by the target's kind.
use borrow.Author.Rules.{rules}
use mathlib.Core.Path.{ap, ◌∙◌}
use lib.Seq.{sets}
use Rattle.machine_take.specs.Taken.{domain_locked, lock_target}
use Rattle.machine_take.proofs.take.lock.Goals as goal

pub returns-then-wanted-ge-DOMAIN_KIND : goal.returns-then-wanted-ge-DOMAIN_KIND
returns-then-wanted-ge-DOMAIN_KIND c =
    let a = c.args in
    c.lock_domain.ensures ∙ ap (sets a.state.now a.start) (domain_locked _ _ _ _ c.if-wanted-ge-DOMAIN_KIND.true)

pub returns : goal.returns
returns c =
    lock_target _ _ _ _ c.requires.0 _ c.if-wanted-ge-DOMAIN_KIND.false c.requires.1 c.lock_target.new.row (search rules) c.lock_target.ensures
