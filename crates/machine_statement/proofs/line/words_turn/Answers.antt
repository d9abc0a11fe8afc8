-- `words_turn` meets its contract: the expression is read where the words before it end, and must end where the line does.
use mathlib.Core.Path.{sym, ◌∙◌}
use lib.ListN.{drop}
use Rattle.std.specs.Prelude.{Some}
use Rattle.text_lex.specs.Piece.{words_after}
use Rattle.text_syntax.specs.Keywords.{said_keyword}
use Rattle.model.specs.Form.{action_of}
use Rattle.machine_statement.specs.Lines.{words_unbegun, words_more, words_found, words_none}
use Rattle.machine_statement.proofs.line.words_turn.Goals as goal

pub returns-in_err-keyword : goal.returns-in_err-keyword
unfolding action_of
returns-in_err-keyword c = rw (c.in_err-keyword.was, c.from_residual.ensures)

pub returns-then-not-is_begun : goal.returns-then-not-is_begun
returns-then-not-is_begun c =
    let a = c.args in
    rw c.in_ok-keyword.was
    (words_unbegun a.frame.now (said_keyword (Some c.in_ok-keyword.keyword)) (words_after (drop a.at a.line.now)) (sym c.is_begun.ensures ∙ c.if-not-is_begun.true))

pub returns-in_err-value : goal.returns-in_err-value
returns-in_err-value c =
    let a = c.args in
    rw (c.in_ok-keyword.was, c.from_residual-in_err-value.ensures)
    (words_none a.frame.now a.line.now c.expression_place-place.result
    (said_keyword (Some c.in_ok-keyword.keyword)) (words_after (drop a.at a.line.now)) (sym c.is_begun.ensures ∙ c.if-not-is_begun.false) c.expression_place-place.ensures
    c.in_err-value.ensures)

pub returns-then-value-line : goal.returns-then-value-line
returns-then-value-line c =
    let a = c.args in
    rw c.in_ok-keyword.was
    (words_more a.frame.now a.line.now c.expression_place-place.result
    (said_keyword (Some c.in_ok-keyword.keyword)) (words_after (drop a.at a.line.now)) (sym c.is_begun.ensures ∙ c.if-not-is_begun.false) c.expression_place-place.ensures
    c.in_ok-value.value c.in_ok-value.ensures c.if-value-line.true)

pub returns : goal.returns
returns c =
    let a = c.args in
    rw c.in_ok-keyword.was
    (c.acted_turn.ensures
    ∙ words_found a.frame.now a.line.now c.expression_place-place.result
    (said_keyword (Some c.in_ok-keyword.keyword)) (words_after (drop a.at a.line.now)) (sym c.is_begun.ensures ∙ c.if-not-is_begun.false) c.expression_place-place.ensures
    c.in_ok-value.value c.in_ok-value.ensures c.if-value-line.false _ c.word_after-word.ensures)
