-- `is_action` meets its contract: a word that is no keyword makes no action.
use Rattle.model.specs.Form.{action_of}
use Rattle.text_syntax.proofs.form.is_action.Goals as goal

pub returns-in-Some : goal.returns-in-Some
returns-in-Some c = rw c.in-Some.is c.makes_action.ensures

pub returns-in-None : goal.returns-in-None
unfolding action_of
returns-in-None c = rw c.in-None.is
