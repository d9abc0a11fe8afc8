-- `is_guarded` meets its contract: where the expression ends, the next word's keyword and the words after it decide.
use mathlib.Core.Path.{refl, sym, ap, ◌∙◌}
use Rattle.model.specs.Form.{keyword_of, action_of}
use Rattle.text_lex.specs.Piece.{behind}
use Rattle.text_syntax.specs.Kinds.{is_action}
use Rattle.text_syntax.proofs.FormLaws.{guarded_at, guarded_none}
use Rattle.text_syntax.proofs.form.is_guarded.Goals as goal

pub returns-in-Some : goal.returns-in-Some
returns-in-Some c =
    let a = c.args in
    let s = a.line.now in
    let e = c.word_end_after in
    let q = c.keyword_of-keyword.ensures ∙ ap keyword_of c.word_after.ensures in
    let b = behind 32 s c.in-Some.end e.result e.ensures refl in
    c.is_action.ensures ∙ (λ i. is_action (action_of (q i) (b i))) ∙ guarded_at s a.at c.in-Some.end (sym c.in-Some.is ∙ c.expression_end_after.ensures)

pub returns-in-None : goal.returns-in-None
returns-in-None c =
    let a = c.args in
    guarded_none a.line.now a.at (sym c.in-None.is ∙ c.expression_end_after.ensures)
