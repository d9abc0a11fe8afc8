-- `fill_domains` meets its contract: each turn stores the domain of one class, and no stored domain changes another.
use Prim.Native.Nat.{ℕ, ◌+◌, ◌*◌}
use mathlib.Core.Path.{refl, ap, ◌∙◌}
use mathlib.Core.List.{List}
use native.Mathlib.Omega.{arith}
use lib.ListN.{set}
use Rattle.layout.specs.Layout.{class_words, classes_at}
use Rattle.machine_start.specs.Worked.{with_each, domain_mask}
use Rattle.machine_start.specs.Stored.{domains_more}
use Rattle.machine_start.proofs.fill_domains.Goals as goal

pub loop-class-init : goal.loop-class-init
unfolding with_each
loop-class-init c = refl

pub loop-class-preserved : goal.loop-class-preserved
loop-class-preserved c =
    let a = c.args in
    let ws = a.tables.now in
    let n = c.loop-class.class in
    let v = c.domain_mask-mask.result in
    c.put_class_word.ensures
    ∙ ap (λ (l : List ℕ). set l (classes_at + (n * class_words + 5)) v) c.loop-class.invariant
    ∙ domains_more ws n v (omega (arith, c.class_count-count.ensures)) (c.domain_mask-mask.ensures ∙ ap (λ (l : List ℕ). domain_mask l n) c.loop-class.invariant)
