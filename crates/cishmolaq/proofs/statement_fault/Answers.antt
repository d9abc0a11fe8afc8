-- The tables of an accepted text count its statements.
use native.Mathlib.Omega.{arith}
use mathlib.Core.Path.{◌≡◌, refl}
use Rattle.model.specs.Image.{statement_answer}
use Rattle.cishmolaq.specs.Answers.{Done, said_done}
use Rattle.cishmolaq.specs.Laws.{statement_refused, statement_past, statement_found, refused_text}
use Rattle.cishmolaq.proofs.statement_fault.Goals as goal

pub returns-in_err-read_text : goal.returns-in_err-read_text
returns-in_err-read_text c =
    let a = c.args in
    refused_text (λ (r : Done). said_done r ≡ statement_answer a.text.now a.count) c.from_residual.ensures.1
    (statement_refused a.text.now a.count _ _ c.in_err-read_text.ensures.tells).1

pub returns-then-count-statement_count : goal.returns-then-count-statement_count
returns-then-count-statement_count c =
    (statement_found c.args.text.now c.args.count _ c.in_ok-read_text.ensures.tells (omega (arith, c.statement_count.ensures, c.if-count-statement_count.true)) _ refl).1

pub returns-else-count-statement_count : goal.returns-else-count-statement_count
returns-else-count-statement_count c =
    (statement_past c.args.text.now c.args.count _ c.in_ok-read_text.ensures.tells (omega (arith, c.statement_count.ensures, c.if-count-statement_count.false))).1
