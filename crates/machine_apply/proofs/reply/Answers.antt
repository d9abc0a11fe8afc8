-- Two stores and a count, in the definition's order.
use Rattle.std.proofs.Common.{ℕ, List, ap, ◌∙◌, ap₂}
use Rattle.layout.specs.Layout.{next_at, end_at, reply_at}
use Rattle.machine_words.specs.Row.{stepped, act, with_act, reply_row}
use Rattle.machine_apply.proofs.reply.Goals as goal

pub returns : goal.returns
unfolding reply_row
returns c =
    let g = c.args in
    let end = c.act-end.ensures ∙ ap (λ (n : ℕ). act g.row.now n end_at) c.top-activation.ensures in
    let next = c.put_act.ensures ∙ ap₂ (λ (n v : ℕ). with_act g.row.now n next_at v) c.top-activation.ensures end in
    let replied = c.put_act-2.ensures ∙ ap₂ (λ (l : List ℕ) (n : ℕ). with_act l n reply_at g.value) next c.top-activation.ensures in
    c.count_step.ensures ∙ ap stepped replied
