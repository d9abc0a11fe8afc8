-- `is_target` meets its contract: the first piece, whether it is the only one, and whether the second is a name and the last.
use mathlib.Core.Path.{refl, sym, ap, ◌∙◌}
use native.Mathlib.Omega.{arith}
use lib.Seq.{length-take-le}
use Rattle.model.specs.Word.{is_name}
use Rattle.text_lex.specs.Tests.{◌and◌, ◌or◌}
use Rattle.text_lex.specs.Scan.{is_byte, before_le}
use Rattle.text_lex.specs.Piece.{first_piece, behind, at_end}
use Rattle.text_syntax.specs.Kinds.{is_target}
use Rattle.text_syntax.proofs.form.is_target.Goals as goal

pub slice_bounds-is_name-end : goal.slice_bounds-is_name-end
slice_bounds-is_name-end c =
    let e = c.piece_end-first in
    let s = c.args.word.now in
    sym (length-take-le e.result s (omega (arith, e.ensures, before_le (is_byte 46) s)))

pub returns : goal.returns
unfolding is_target
returns c =
    let e = c.piece_end-first in
    let s = c.args.word.now in
    let j = c.piece_end_after-second in
    (c.is_name.ensures
    and (at_end 46 s e.result refl
    or (c.is_name-2.ensures ∙ ap is_name c.piece_after.ensures)
    and at_end 46 s j.result (behind 46 s e.result j.result j.ensures refl)))
    ∙ sym (ap is_target (first_piece 46 s e.result e.ensures))
