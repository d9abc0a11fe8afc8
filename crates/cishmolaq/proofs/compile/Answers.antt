-- A refused text is refused with its fault, the image of an accepted one is written.
use Rattle.std.specs.Prelude.{Result, ℕ}
use Rattle.cishmolaq.specs.declared.Error.{Error}
use Rattle.cishmolaq.specs.Answers.{Compiles}
use Rattle.cishmolaq.specs.Laws.{compile_refused, refused_text}
use Rattle.cishmolaq.proofs.compile.Goals as goal

pub returns-in_err-read_text : goal.returns-in_err-read_text
returns-in_err-read_text c =
    let a = c.args in
    refused_text (λ (r : Result ℕ Error). Compiles a.text.now a.image.now r a.image.now) c.from_residual.ensures.1
    (compile_refused a.text.now a.image.now _ c.in_err-read_text.ensures.tells)

pub returns : goal.returns
returns c = c.write_image.ensures c.in_ok-read_text.ensures.tells
