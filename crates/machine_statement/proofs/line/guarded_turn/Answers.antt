-- `guarded_turn` meets its contract: the action begins where the guard ends.
use borrow.Author.Tests.{eq-eqb, ne_eqb}
use mathlib.Core.Path.{◌≡◌, refl, ap, ◌∙◌}
use mathlib.Core.Bool.{Bool, cond}
use lib.ListN.{drop}
use lib.Dec.{eqb}
use Rattle.model.specs.Expression.{expression}
use Rattle.model.specs.Form.{keyword_of, action_of, when_form}
use Rattle.text_lex.specs.Piece.{words_after, behind}
use Rattle.text_syntax.specs.Keywords.{said_keyword}
use Rattle.machine_words.specs.Turn.{form_turn}
use Rattle.machine_words.specs.Said.{said_turn}
use Rattle.machine_statement.specs.Actions.{skipped_turn, turn_in, formed_turn}
use Rattle.machine_statement.specs.Lines.{guard_none, guard_there}
use Rattle.machine_statement.proofs.line.guarded_turn.Goals as goal
use Rattle.machine_statement.proofs.line.guarded_turn.Goals.{After-word_end_after-place}

-- The turn of the action behind the guard, by the test of the guard's value.
acted : (n : After-word_end_after-place) {b : Bool}
    → let a = n.args in
    let action = action_of (said_keyword n.keyword_of-keyword.result) (words_after (drop n.word_end_after-place.result a.line.now)) in
    eqb n.in_ok-guard.guard.number 0 ≡ b
    → cond b (skipped_turn action) (formed_turn a.frame.now action)
    ≡ form_turn (when_form (expression (words_after (drop a.at a.line.now)))) (turn_in a.frame.now)
acted n =
    let a = n.args in
    guard_there a.frame.now a.line.now a.at n.in_ok-guard.guard n.in_ok-guard.ensures
    _ (n.keyword_of-keyword.ensures ∙ ap keyword_of n.word_after.ensures)
    _ (behind 32 a.line.now n.in_ok-guard.guard.end n.word_end_after-place.result n.word_end_after-place.ensures refl)

pub returns-in_err-guard : goal.returns-in_err-guard
returns-in_err-guard c = ap said_turn c.from_residual.ensures ∙ guard_none c.args.frame.now c.args.line.now c.args.at c.in_err-guard.ensures

pub returns-then-guard-eq0 : goal.returns-then-guard-eq0
returns-then-guard-eq0 c = c.skipped_turn.ensures ∙ acted (goal.at.returns-then-guard-eq0 c).After-word_end_after-place (eq-eqb _ 0 c.if-guard-eq0.true)

pub returns : goal.returns
returns c = c.words_turn.ensures ∙ acted (goal.at.returns c).After-word_end_after-place (ne_eqb _ 0 c.if-guard-eq0.false)
