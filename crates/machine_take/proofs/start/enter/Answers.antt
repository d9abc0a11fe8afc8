-- `enter` meets its contract: the message is named in the row, and then put on its object or past the last.
use mathlib.Core.Path.{ap, ◌∙◌}
use Rattle.machine_words.specs.Row.{object_row}
use Rattle.machine_words.specs.Request.{past_row, entered}
use Rattle.machine_take.proofs.start.enter.Goals as goal

pub returns-in_default : goal.returns-in_default
unfolding entered
returns-in_default c = rw c.in_default.is

pub returns-in-On : goal.returns-in-On
unfolding entered
returns-in-On c =
    rw (c.in-Some.is, c.in-On.is) (c.enter_object.ensures ∙ ap (object_row _ _ _ 0) c.name_message.ensures)

pub returns-in-Past : goal.returns-in-Past
unfolding entered
returns-in-Past c =
    rw (c.in-Some.is, c.in-Past.is) (c.enter_past.ensures ∙ ap (past_row _) c.name_message.ensures)
