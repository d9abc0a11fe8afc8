-- `close_and_wake` meets its contract: the lent row is cleared, then the line is woken.
use borrow.Author.Rules.{rules}
use mathlib.Core.Path.{ap, ◌∙◌}
use Rattle.machine_words.specs.Row.{freed}
use Rattle.machine_words.specs.Line.{woken}
use Rattle.machine_checks.specs.Lent.{lent_at, part_at}
use Rattle.machine_calls.proofs.close_and_wake.Goals as goal

pub returns : goal.returns
returns c =
    c.wake.ensures ∙ ap (woken c.args.text.now) (lent_at _ _ c.requires _ _ c.row_range.ensures.0 c.row_range.ensures.1 c.close.new.row _ (search rules) (c.close.ensures ∙ ap freed (part_at _ _ _ _ c.row_range.ensures.0 c.row_range.ensures.1)))
