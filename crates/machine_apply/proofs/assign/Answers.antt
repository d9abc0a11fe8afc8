-- The change is noted, then made, and the statement passed.
use Rattle.std.proofs.Common.{ℕ, set, refl, ap, ◌∙◌}
use Rattle.model.specs.Message.{changed}
use Rattle.machine_words.specs.Said.{said_change}
use Rattle.machine_words.specs.Row.{noted_row, skip_row, carried}
use Rattle.machine_apply.proofs.assign.Goals as goal

pub returns : goal.returns
unfolding carried
returns c =
    let a = c.args in
    let how = said_change a.change in
    let noted = c.note.ensures ∙ ap (λ (x : ℕ). noted_row a.row.now how a.place x a.value) c.get-old.ensures in
    let new = c.changed.ensures ∙ ap (λ (x : ℕ). changed how x a.value) c.get-old.ensures in
    record {
      says = refl;
      row_is = c.skip.ensures ∙ ap skip_row noted;
      values_are = c.put.ensures ∙ ap (set a.values.now a.place) new;
    }
