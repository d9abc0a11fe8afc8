-- The caller passes on, the callee's activation is made, the depth and the steps are counted.
use Rattle.std.proofs.Common.{ℕ, ◌+◌, ◌%◌, List, set, ap, ◌∙◌, ap₂}
use Rattle.layout.specs.Layout.{depth_at, called_at}
use Rattle.machine_words.specs.Row.{stepped, new_act, call_row}
use Rattle.machine_apply.proofs.call.Goals as goal

pub returns : goal.returns
unfolding call_row
returns c =
    let a = c.args in
    let made = c.new_act.ensures ∙ ap₂ (λ (l : List ℕ) (m : ℕ). new_act l m a.first a.end a.argument) c.pass.ensures c.get-depth.ensures in
    let marked = c.put.ensures ∙ ap (λ (l : List ℕ). set l called_at 1) made in
    let more = ap (λ (m : ℕ). (m + 1) % 4294967296) c.get-depth.ensures in
    let deeper = c.put-2.ensures ∙ ap₂ (λ (l : List ℕ) (m : ℕ). set l depth_at m) marked more in
    c.count_step.ensures ∙ ap stepped deeper
