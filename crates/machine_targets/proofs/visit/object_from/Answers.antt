-- `object_from` meets its contract: a message to one object visits that one alone.
use Prim.Native.Nat.{ℕ, ◌-◌}
use mathlib.Core.Path.{sym, ap, ◌∙◌}
use lib.Dec.{eqb}
use Rattle.machine_words.specs.Turn.{in_target, first_from, object_from}
use Rattle.machine_targets.proofs.visit.object_from.Goals as goal

pub returns-then-kind-eq-OBJECT_KIND : goal.returns-then-kind-eq-OBJECT_KIND
unfolding object_from in_target
returns-then-kind-eq-OBJECT_KIND c =
    let a = c.args in
    c.one_from.ensures ∙ ap (λ (n : ℕ). first_from (λ o. eqb o a.number) a.from (n - a.from)) c.object_count.ensures
    ∙ ap (λ (t : ℕ). object_from a.tables.now t a.number a.from) (sym c.if-kind-eq-OBJECT_KIND.true)
