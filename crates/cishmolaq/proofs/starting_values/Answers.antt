-- A refused text is refused with its fault, the values of an accepted one are written.
use Rattle.cishmolaq.specs.Answers.{Done, Starts}
use Rattle.cishmolaq.specs.Laws.{values_refused, refused_text}
use Rattle.cishmolaq.proofs.starting_values.Goals as goal

pub returns-in_err-read_text : goal.returns-in_err-read_text
returns-in_err-read_text c =
    let a = c.args in
    refused_text (λ (r : Done). Starts a.text.now a.values.now r a.values.now) c.from_residual.ensures.1
    (values_refused a.text.now a.values.now _ c.in_err-read_text.ensures.tells)

pub returns : goal.returns
returns c = c.write_values.ensures c.in_ok-read_text.ensures.tells
