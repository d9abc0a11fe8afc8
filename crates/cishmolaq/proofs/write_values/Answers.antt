-- The tables give the values; their number is tested before they are written.
use mathlib.Core.Path.{sym, ◌∙◌}
use Rattle.cishmolaq.specs.Laws.{values_other, values_done}
use Rattle.cishmolaq.proofs.write_values.Goals as goal

pub returns-then-values-value_count : goal.returns-then-values-value_count
returns-then-values-value_count c = λ e.
    let a = c.args in
    values_other a.text.now a.values.now a.tables.now e (λ q. c.if-values-value_count.true (q ∙ sym c.value_count.ensures))

pub returns : goal.returns
returns c = λ e.
    let a = c.args in
    values_done a.text.now a.values.now a.tables.now e (c.if-values-value_count.false ∙ c.value_count.ensures) _ c.write_values.ensures
