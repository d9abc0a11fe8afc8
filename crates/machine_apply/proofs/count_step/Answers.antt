-- The count is taken in 16 bits, as the definition does.
use Rattle.std.proofs.Common.{ℕ, ◌≡◌, ◌+◌, ◌%◌, get_or, set, ap, ◌∙◌, arith}
use Rattle.layout.specs.Layout.{steps_at}
use Rattle.machine_words.specs.Row.{stepped}
use Rattle.machine_apply.proofs.count_step.Goals as goal

pub returns : goal.returns
unfolding stepped
returns c =
    let row = c.args.row.now in
    let more = c.from.ensures ∙ ap (λ (n : ℕ). (n % 65536 + 1) % 65536) c.get.ensures in
    let same : (get_or row steps_at 0 % 65536 + 1) % 65536 ≡ (get_or row steps_at 0 + 1) % 65536 = omega arith in
    c.put.ensures ∙ ap (set row steps_at) (more ∙ same)
