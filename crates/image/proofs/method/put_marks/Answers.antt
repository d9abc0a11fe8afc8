-- `put_marks` meets its contract: at each turn the marks of the places before are in the list.
use Prim.Native.Nat.{ℕ}
use mathlib.Core.Path.{sym, ap, ◌∙◌}
use mathlib.Core.List.{[], ◌∷◌, ◌++◌}
use native.Mathlib.Omega.{arith}
use Rattle.model.specs.Base.{upto}
use Rattle.laws.specs.Upto.{length_upto, upto_more}
use Rattle.output.specs.Append.{appended_none, appended_then, appended_as}
use Rattle.image.specs.Cells.{mark_of}
use Rattle.image.proofs.method.put_marks.Goals as goal

pub loop-place-init : goal.loop-place-init
unfolding upto
loop-place-init c = appended_none _ _

pub put_byte-end-requires : goal.put_byte-end-requires
put_byte-end-requires c =
    let a = c.args in
    omega (arith, c.loop-place.invariant.behind, length_upto (mark_of a.first a.second a.third a.marks.now) c.loop-place.place)

pub loop-place-preserved : goal.loop-place-preserved
loop-place-preserved c =
    let a = c.args in
    let f = mark_of a.first a.second a.third a.marks.now in
    appended_as (ap (λ (b : ℕ). upto f c.loop-place.place ++ (b ∷ [])) c.mark-byte.ensures ∙ sym (upto_more f c.loop-place.place))
    (appended_then c.loop-place.invariant c.put_byte-end.ensures)
