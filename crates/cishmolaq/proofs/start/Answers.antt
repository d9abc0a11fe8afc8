-- A refused text is refused with its fault, an accepted one is started on.
use Rattle.machine_words.specs.Calls.{lending}
use Rattle.cishmolaq.specs.Answers.{Done, Begins}
use Rattle.cishmolaq.specs.Laws.{refused_text}
use Rattle.cishmolaq.specs.Start.{start_refused}
use Rattle.cishmolaq.proofs.start.Goals as goal

pub returns-in_err-read_text : goal.returns-in_err-read_text
returns-in_err-read_text c =
    let a = c.args in
    let x = lending a.text.now a.state.now a.values.now in
    refused_text (λ (r : Done). Begins x r x) c.from_residual.ensures.1 (start_refused x _ c.in_err-read_text.ensures.tells)

pub returns : goal.returns
returns c = c.start_on.ensures c.in_ok-read_text.ensures.tells
