-- `put_lines` meets its contract: at each turn the lines of the objects before are written, and `base` is where the next one's values begin.
use Prim.Native.Nat.{ℕ}
use native.Mathlib.Omega.{arith}
use mathlib.Core.Path.{◌≡◌, refl, sym, ap, ◌∙◌}
use mathlib.Core.List.{◌++◌}
use lib.ListN.{drop}
use Rattle.model.specs.Base.{upto}
use Rattle.model.specs.Rehearsal.{objects_printed}
use Rattle.catalog.specs.View.{object_count, library_of}
use Rattle.catalog.specs.Look.{shown_count, shown_le}
use Rattle.output.specs.Append.{appended_none, appended_then, appended_as}
use Rattle.call_lines.specs.Objects.{values_to, lines_to, values_next, lines_next, object_few, object_printed}
use Rattle.call_lines.proofs.objects.put_lines.Goals as goal

pub loop-object-init : goal.loop-object-init
unfolding lines_to values_to upto objects_printed
loop-object-init c = (omega arith, refl, omega arith, appended_none c.args.out.now c.args.at)

pub loop-object-preserved : goal.loop-object-preserved
loop-object-preserved c =
    let a = c.args in
    let l = c.loop-object in
    let ws = a.tables.now in
    let next = c.shown_count.ensures ∙ ap (λ (k : ℕ). shown_count ws k 0) c.class_of.ensures in (
      omega (arith, l.invariant.0, c.put_line-end.ensures.behind, object_few a.text.now ws l.object (drop l.base a.values.now)),
      omega (arith, l.invariant.1, next, values_next a.text.now ws l.object),
      omega (arith, l.invariant.2, c.shown_count.ensures, shown_le ws c.class_of.result 0),
      appended_as
          (ap (λ (b : ℕ). lines_to a.text.now ws a.values.now l.object ++ object_printed a.text.now ws l.object (drop b a.values.now)) l.invariant.1
          ∙ sym (lines_next a.text.now ws a.values.now l.object))
          (appended_then l.invariant.3 c.put_line-end.ensures),
    )

pub returns : goal.returns
unfolding lines_to library_of
returns c =
    let a = c.args in
    let l = c.loop-object in
    let e : l.object ≡ object_count a.tables.now = omega (arith, c.object_count-objects.ensures) in
    appended_as (ap (λ (n : ℕ). lines_to a.text.now a.tables.now a.values.now n) e) l.invariant.3
