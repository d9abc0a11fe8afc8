-- `send_line` meets its contract: each word is found after the end of the one before.
use mathlib.Core.Path.{refl, sym, ap, ◌∙◌}
use lib.ListN.{drop}
use Rattle.text_lex.specs.Number.{number_of, said}
use Rattle.text_lex.specs.Tests.{◌and◌}
use Rattle.text_lex.specs.Piece.{words_after, first, behind, at_end}
use Rattle.machine_words.specs.Calls.{lending}
use Rattle.call_lines.specs.Says.{says_none, says_as}
use Rattle.call_lines.specs.Forms.{send_after, send_found}
use Rattle.call_lines.proofs.send_line.Goals as goal

pub returns-then-is_name-line : goal.returns-then-is_name-line
returns-then-is_name-line c =
    let a = c.args in
    let s = a.line.now in
    let e1 = c.word_end_after-name_end in
    let e2 = c.word_end_after-method_end in
    let e3 = c.word_end_after-end in
    let b1 = behind 32 s a.from e1.result e1.ensures refl in
    let b2 = behind 32 s e1.result e2.result e2.ensures b1 in
    let b3 = behind 32 s e2.result e3.result e3.ensures b2 in
    says_as (lending a.text.now a.state.now a.values.now) (send_after a.keyword.now a.slot (words_after (drop a.from s)))
    (send_found a.keyword.now a.slot (words_after (drop a.from s)) c.word_after-name.ensures (c.word_after-method.ensures ∙ ap first b1) (sym c.if-is_name-line.true ∙ (c.is_name.ensures and c.is_name-2.ensures and at_end 32 s e3.result b3)) (sym (ap said c.in-Some.is) ∙ c.number_of-number.ensures ∙ ap number_of (c.word_after.ensures ∙ ap first b2)))
    c.send_call.ensures

pub returns-else-is_name-line : goal.returns-else-is_name-line
returns-else-is_name-line c =
    let a = c.args in
    let s = a.line.now in
    let e1 = c.word_end_after-name_end in
    let e2 = c.word_end_after-method_end in
    let e3 = c.word_end_after-end in
    let b1 = behind 32 s a.from e1.result e1.ensures refl in
    let b2 = behind 32 s e1.result e2.result e2.ensures b1 in
    let b3 = behind 32 s e2.result e3.result e3.ensures b2 in
    says_none (lending a.text.now a.state.now a.values.now) (send_after a.keyword.now a.slot (words_after (drop a.from s)))
    (send_found a.keyword.now a.slot (words_after (drop a.from s)) c.word_after-name.ensures (c.word_after-method.ensures ∙ ap first b1) (sym c.if-is_name-line.false ∙ (c.is_name.ensures and c.is_name-2.ensures and at_end 32 s e3.result b3)) (sym (ap said c.in-Some.is) ∙ c.number_of-number.ensures ∙ ap number_of (c.word_after.ensures ∙ ap first b2)))
    c.put_no_form-else-is_name-line.ensures

pub returns-in_default : goal.returns-in_default
returns-in_default c =
    let a = c.args in
    let s = a.line.now in
    let e1 = c.word_end_after-name_end in
    let e2 = c.word_end_after-method_end in
    let b1 = behind 32 s a.from e1.result e1.ensures refl in
    let b2 = behind 32 s e1.result e2.result e2.ensures b1 in
    says_none (lending a.text.now a.state.now a.values.now) (send_after a.keyword.now a.slot (words_after (drop a.from s)))
    (send_found a.keyword.now a.slot (words_after (drop a.from s)) c.word_after-name.ensures (c.word_after-method.ensures ∙ ap first b1) refl (sym (ap said c.in_default.is) ∙ c.number_of-number.ensures ∙ ap number_of (c.word_after.ensures ∙ ap first b2)))
    c.put_no_form.ensures
