-- `text_lex::piece_end_after` meets its contract: the two branches are the two cases of `end_after`.
use mathlib.Core.Path.{sym, ◌∙◌}
use Rattle.text_lex.specs.Piece.{end_after_law, end_after_none}
use Rattle.text_lex.proofs.piece_end_after.Goals as goal

pub returns-then-at-text : goal.returns-then-at-text
returns-then-at-text c =
    let a = c.args in
    c.piece_end.ensures ∙ sym (end_after_law a.divider a.text.now a.at c.if-at-text.true)

pub returns-else-at-text : goal.returns-else-at-text
returns-else-at-text c =
    let a = c.args in
    sym (end_after_none a.divider a.text.now a.at c.if-at-text.false)
