-- `statement_turn` meets its contract: the first word's keyword decides how the line is read.
use mathlib.Core.Path.{sym, ◌∙◌}
use Rattle.machine_evaluate.specs.Valued.{first_length}
use Rattle.machine_statement.specs.Lines.{line_guarded, line_words}
use Rattle.machine_statement.proofs.line.statement_turn.Goals as goal

pub slice_bounds-keyword_of-end : goal.slice_bounds-keyword_of-end
slice_bounds-keyword_of-end c = first_length 32 _ _ c.word_end-at.ensures

pub returns-then-is_when : goal.returns-then-is_when
returns-then-is_when c =
    let a = c.args in
    c.guarded_turn.ensures
    ∙ line_guarded a.frame.now a.line.now
    _ c.word_end-at.ensures _ c.keyword_of-keyword.ensures (sym c.is_when.ensures ∙ c.if-is_when.true)

pub returns-else-is_when : goal.returns-else-is_when
returns-else-is_when c =
    let a = c.args in
    c.words_turn.ensures
    ∙ line_words a.frame.now a.line.now
    _ c.word_end-at.ensures _ c.keyword_of-keyword.ensures (sym c.is_when.ensures ∙ c.if-is_when.false)
