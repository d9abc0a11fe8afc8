-- The line of a refused text fits, and the text's values are among those lent.
use Rattle.std.proofs.Common.{arith, sym, ◌∙◌, length-take-le}
use Rattle.rehearsal.specs.Room.{refused_size, ready_count}
use Rattle.rehearse_run.specs.Laws.{refused_rehearsed, played_rehearsed}
use Rattle.rehearse_run.proofs.rehearse.Goals as goal

pub slice_bounds-out-end : goal.slice_bounds-out-end
slice_bounds-out-end g c = omega (arith, refused_size c.prepare-prepared.ensures _ c.in-Err.is)

pub slice_bounds-print_lines-end : goal.slice_bounds-print_lines-end
slice_bounds-print_lines-end g c = sym (length-take-le _ _ (omega (arith, refused_size c.prepare-prepared.ensures _ c.in-Err.is)))

pub slice_bounds-values-end : goal.slice_bounds-values-end
slice_bounds-values-end g c = ready_count c.prepare-prepared.ensures _ c.in-Ok.is

pub slice_bounds-play-end-in-Ok : goal.slice_bounds-play-end-in-Ok
slice_bounds-play-end-in-Ok g c = sym (length-take-le _ _ (ready_count c.prepare-prepared.ensures _ c.in-Ok.is))

pub returns-in-Err : goal.returns-in-Err
returns-in-Err g c =
    let p = c.prepare-prepared.ensures in
    refused_rehearsed p c.in-Err.is (omega arith) (omega (arith, refused_size p _ c.in-Err.is))
    (c.print_lines.ensures ∙ length-take-le _ _ (omega (arith, refused_size p _ c.in-Err.is)))

pub returns-in-Ok : goal.returns-in-Ok
returns-in-Ok g c =
    let p = c.prepare-prepared.ensures in
    played_rehearsed p c.in-Ok.is c.play.ensures (omega (arith, c.play.ensures.finishes.few))
