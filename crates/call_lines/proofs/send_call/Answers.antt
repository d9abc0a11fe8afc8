-- `send_call` meets its contract: the receiver is found by name, and the call is made on its numbers.
use Rattle.machine_words.specs.Calls.{lending}
use Rattle.call_lines.specs.Says.{says_called, says_some, says_none}
use Rattle.call_lines.specs.Names.{leaves_found}
use Rattle.model.specs.Rehearsal.{send_line, send_form}
use Rattle.call_lines.proofs.send_call.Goals as goal

pub returns-in-Some : goal.returns-in-Some
returns-in-Some c =
    let a = c.args in
    let x = lending a.text.now a.state.now a.values.now in
    let f = c.in-Some.ensures in
    says_some x (send_form a.keyword.now a.slot a.name.now a.method.now a.argument) (send_line a.slot f.aim a.method.now a.argument)
    (f.form a.slot a.method.now a.argument)
    (says_called (leaves_found x a.keyword.now a.slot a.name.now a.method.now a.argument c.method_named-place.result f c.method_named-place.ensures c.send-outcome.ensures)
    c.put_outcome.ensures)

pub returns-in-None : goal.returns-in-None
returns-in-None c =
    let a = c.args in
    says_none (lending a.text.now a.state.now a.values.now) (send_form a.keyword.now a.slot a.name.now a.method.now a.argument)
    (c.in-None.ensures a.slot a.method.now a.argument) c.put_no_form.ensures
