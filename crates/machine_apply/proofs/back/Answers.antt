-- Two stores and a count, in the definition's order.
use Rattle.std.proofs.Common.{ℕ, ◌-◌, List, set, ap, ◌∙◌, ap₂}
use Rattle.layout.specs.Layout.{depth_at, got_at}
use Rattle.machine_words.specs.Row.{stepped, with_act, back_row}
use Rattle.machine_apply.proofs.back.Goals as goal

pub returns : goal.returns
unfolding back_row
returns c =
    let a = c.args in
    let one = c.saturating_sub.ensures ∙ ap (λ (n : ℕ). n - 1) c.get-depth.ensures in
    let two = c.saturating_sub-2.ensures ∙ ap (λ (n : ℕ). n - 2) c.get-depth.ensures in
    let ended = c.put.ensures ∙ ap (set a.row.now depth_at) one in
    let got = c.put_act.ensures ∙ ap₂ (λ (l : List ℕ) (n : ℕ). with_act l n got_at a.value) ended two in
    c.count_step.ensures ∙ ap stepped got
