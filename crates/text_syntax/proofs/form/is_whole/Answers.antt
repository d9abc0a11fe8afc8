-- `is_whole` meets its contract: an expression is whole iff it ends where the line does.
use mathlib.Core.Path.{sym, ◌∙◌}
use Rattle.text_syntax.proofs.FormLaws.{whole_at}
use Rattle.text_syntax.proofs.form.is_whole.Goals as goal

pub returns-in-Some : goal.returns-in-Some
returns-in-Some c =
    let a = c.args in
    whole_at a.line.now a.at _ (sym c.in-Some.is ∙ c.expression_end_after.ensures)
