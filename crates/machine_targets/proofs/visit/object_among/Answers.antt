-- `object_among` meets its contract: at each turn the first object from here on is the first from `from` on.
use Prim.Native.Nat.{ℕ, ◌-◌}
use mathlib.Core.Path.{◌≡◌, sym, ap, ◌∙◌}
use native.Mathlib.Omega.{arith}
use Rattle.machine_words.specs.Turn.{in_target, first_from, object_from}
use Rattle.machine_targets.specs.Visits.{first_here, first_more, first_end}
use Rattle.machine_targets.proofs.visit.object_among.Goals as goal

pub returns-then-in_target : goal.returns-then-in_target
unfolding object_from
returns-then-in_target c =
    let a = c.args in
    let p = in_target a.tables.now a.kind a.number in
    sym (first_here p c.object_count-count.result c.loop-object.object (omega arith) (sym c.in_target.ensures ∙ c.if-in_target.true))
    ∙ c.loop-object.invariant.1
    ∙ ap (λ (n : ℕ). first_from p a.from (n - a.from)) c.object_count-count.ensures

pub loop-object-preserved : goal.loop-object-preserved
loop-object-preserved c =
    let a = c.args in (
      omega arith,
      sym (first_more (in_target a.tables.now a.kind a.number) c.object_count-count.result c.loop-object.object (omega arith) (sym c.in_target.ensures ∙ c.if-in_target.false))
          ∙ c.loop-object.invariant.1,
    )

pub returns : goal.returns
unfolding object_from
returns c =
    let a = c.args in
    let p = in_target a.tables.now a.kind a.number in
    let e : c.loop-object.object ≡ c.max.result = omega (arith, c.max.ensures, c.loop-object.invariant.0) in
    sym (first_end p c.object_count-count.result c.loop-object.object (omega arith) ∙ e)
    ∙ c.loop-object.invariant.1
    ∙ ap (λ (n : ℕ). first_from p a.from (n - a.from)) c.object_count-count.ensures
