-- `makes_action` meets its contract, keyword by keyword.
use mathlib.Core.Path.{sym, ◌∙◌}
use Rattle.model.specs.Form.{replace, increase, action_of}
use Rattle.text_syntax.specs.Kinds.{assign_action_law, send_action, reply_action}
use Rattle.text_syntax.proofs.FormLaws.{no_action}
use Rattle.text_syntax.proofs.form.makes_action.Goals as goal

pub returns-in-Set : goal.returns-in-Set
unfolding action_of
returns-in-Set c = rw c.in-Set.is (c.is_assign.ensures ∙ sym (assign_action_law replace _))

pub returns-in-Add : goal.returns-in-Add
unfolding action_of
returns-in-Add c = rw c.in-Add.is (c.is_assign-in-Add.ensures ∙ sym (assign_action_law increase _))

pub returns-in-Send : goal.returns-in-Send
returns-in-Send c = rw c.in-Send.is (c.is_send.ensures ∙ sym (send_action _))

pub returns-in-Reply : goal.returns-in-Reply
returns-in-Reply c = rw c.in-Reply.is (c.is_whole.ensures ∙ sym (reply_action _))

pub returns-in_default : goal.returns-in_default
returns-in_default c = let d = c.in_default in no_action c.args.keyword _ d.not-Set d.not-Add d.not-Send d.not-Reply
