-- A refused text prints its refusal, an accepted one its lines.
use mathlib.Core.Path.{◌∙◌, ap}
use Rattle.std.specs.Prelude.{ℕ}
use Rattle.cishmolaq.specs.Lines.{line_small}
use Rattle.cishmolaq.specs.Laws.{refusal_printed_law, refused_by, accepted_by}
use Rattle.model.specs.Read.{refused}
use Rattle.std.proofs.Math.Path.{sym}
use Rattle.cishmolaq.proofs.print_tables.Goals as goal

pub overflow_cast-refused : goal.overflow_cast-refused
overflow_cast-refused c = record { fits = line_small _ _ _ (refused_by c.read_text.ensures _ c.in-Err.is) }

pub returns-in-Err : goal.returns-in-Err
returns-in-Err c =
    let line = c.in-Err.refused.line in
    let read = refused_by c.read_text.ensures _ c.in-Err.is ∙ ap (λ (n : ℕ). refused n line) (sym c.number.ensures) in
    refusal_printed_law c.args.text.now _ line read c.write_refusal.ensures

pub returns-in-Ok : goal.returns-in-Ok
returns-in-Ok c = c.write_lines.ensures (accepted_by c.read_text.ensures c.in-Ok.is)
