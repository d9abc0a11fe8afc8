-- Each turn puts one more value back.
use Rattle.std.proofs.Common.{◌≡◌, ℕ, ◌<◌, List, length, get_or, sym, ap, ◌∙◌, arith, length-set}
use Rattle.laws.specs.PutBack.{back_length, back_at}
use Rattle.machine_undo.specs.Over.{over, over_all, over_old, over_put}
use Rattle.model.specs.Undo.{restored, put_back}
use Rattle.machine_words.specs.Row.{note_at}
use Rattle.machine_undo.proofs.put_back.Goals as goal

pub loop-i-preserved : goal.loop-i-preserved
loop-i-preserved c =
    let L = c.loop-i in
    let a = c.args in
    let O = a.values.now in
    let T = put_back (note_at a.row.now) O in
    let h : L.i < length O = omega (arith, L.invariant.1) in
    let o : get_or L.values L.i 0 ≡ get_or O L.i 0 = ap (λ (l : List ℕ). get_or l L.i 0) L.invariant.2 ∙ over_old L.i L.i T O (back_length (note_at a.row.now) O) (omega arith) in
    let v : c.restored.result ≡ get_or T L.i 0 = c.restored.ensures ∙ ap (restored (note_at a.row.now L.i)) o ∙ sym (back_at (note_at a.row.now) O L.i h) in (
      omega arith,
      length-set L.values L.i c.restored.result ∙ L.invariant.1,
      over_put T O (back_length (note_at a.row.now) O) L.values L.i h L.invariant.2 c.restored.result v,
    )

pub returns : goal.returns
returns c =
    let L = c.loop-i in
    let a = c.args in
    let O = a.values.now in
    let T = put_back (note_at a.row.now) O in
    let e : L.i ≡ length O = omega (arith, L.invariant.1) in
    L.invariant.2 ∙ ap (λ (k : ℕ). over k T O) e ∙ over_all T O (back_length (note_at a.row.now) O)
