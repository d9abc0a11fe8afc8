-- `text_lex::piece_after` meets its contract: the part from after the divider to the next end is the first of the pieces there.
use mathlib.Core.Path.{sym, ap}
use Prim.Native.Nat.{◌+◌}
use native.Mathlib.Omega.{arith}
use Rattle.text_lex.specs.Scan.{is_byte, end_within}
use Rattle.text_lex.specs.Piece.{first, next_piece}
use Rattle.text_lex.proofs.piece_after.Goals as goal

pub slice_bounds-result-end : goal.slice_bounds-result-end
slice_bounds-result-end c =
    let a = c.args in
    omega (arith, c.piece_end-end.ensures, end_within (is_byte a.divider) a.text.now (a.at + 1) (omega arith))

pub returns-then-at-text : goal.returns-then-at-text
returns-then-at-text c =
    let a = c.args in
    let e = c.piece_end-end in
    sym (ap first (next_piece a.divider a.text.now a.at c.if-at-text.true e.result e.ensures))
