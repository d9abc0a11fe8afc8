-- A refused text prints its refusal; an accepted one is started on as many values as its tables tell.
use mathlib.Core.Path.{◌∙◌, ap, sym}
use native.Mathlib.Omega.{arith}
use lib.Seq.{length-take-le}
use Rattle.std.specs.Prelude.{ℕ}
use Rattle.model.specs.Read.{refused}
use Rattle.machine_words.specs.Calls.{lending}
use Rattle.cishmolaq.specs.Lines.{line_small}
use Rattle.cishmolaq.specs.Laws.{refused_by, accepted_by}
use Rattle.rehearsal.specs.Start.{values_few, prepares_refused, prepares_ready}
use Rattle.rehearsal.proofs.prepare.Goals as goal

pub overflow_cast-refused : goal.overflow_cast-refused
overflow_cast-refused c = record { fits = line_small _ _ _ (refused_by c.read_text.ensures _ c.in-Err.is) }

pub slice_bounds-start_on-end : goal.slice_bounds-start_on-end
slice_bounds-start_on-end c = omega (arith, values_few _ c.value_count-count.ensures)

pub slice_bounds-start_on-end-in-Ok : goal.slice_bounds-start_on-end-in-Ok
slice_bounds-start_on-end-in-Ok c = sym (length-take-le _ _ (omega (arith, values_few _ c.value_count-count.ensures)))

pub returns-in-Ok : goal.returns-in-Ok
returns-in-Ok c =
    prepares_ready (lending c.args.text.now c.args.state.now c.args.values.now) _ (accepted_by c.read_text.ensures c.in-Ok.is) c.requires.0
    c.value_count-count.ensures c.start_on.ensures

pub returns-in-Err : goal.returns-in-Err
returns-in-Err c =
    let a = c.args in
    let line = c.in-Err.refused.line in
    let read = refused_by c.read_text.ensures _ c.in-Err.is ∙ ap (λ (n : ℕ). refused n line) (sym c.number.ensures) in
    prepares_refused (lending a.text.now a.state.now a.values.now) _ line read c.write_refusal-size.ensures
