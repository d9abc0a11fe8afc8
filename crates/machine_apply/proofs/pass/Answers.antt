-- One store, at the latest activation's next statement.
use Rattle.std.proofs.Common.{ℕ, ◌+◌, ◌%◌, ap, ◌∙◌, ap₂}
use Rattle.layout.specs.Layout.{next_at}
use Rattle.machine_words.specs.Row.{act, with_act, passed}
use Rattle.machine_apply.proofs.pass.Goals as goal

pub returns : goal.returns
unfolding passed
returns c =
    let row = c.args.row.now in
    let next = c.act-next.ensures ∙ ap (λ (n : ℕ). act row n next_at) c.top-activation.ensures in
    let more = ap (λ (n : ℕ). (n + 1) % 4294967296) next in
    c.put_act.ensures ∙ ap₂ (λ (n v : ℕ). with_act row n next_at v) c.top-activation.ensures more
