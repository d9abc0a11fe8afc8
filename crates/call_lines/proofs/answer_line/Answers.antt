-- `answer_line` meets its contract: the keyword, the slot, and whether a word follows.
use native.Mathlib.Omega.{arith}
use mathlib.Core.Path.{refl, sym, ap, ◌∙◌}
use mathlib.Core.Option.{some}
use lib.ListN.{take, drop}
use lib.Seq.{length-take-le}
use Rattle.model.specs.Text.{words}
use Rattle.model.specs.Rehearsal.{call_line}
use Rattle.text_lex.specs.Number.{said}
use Rattle.text_lex.specs.Scan.{is_byte, before_le}
use Rattle.text_lex.specs.Piece.{words_after, behind, none_after, cons_after}
use Rattle.machine_words.specs.Calls.{lending}
use Rattle.call_lines.specs.Says.{says_none, says_as}
use Rattle.call_lines.specs.Forms.{slot_then, line_slot, slot_more}
use Rattle.call_lines.proofs.answer_line.Goals as goal

pub slice_bounds-keyword-end : goal.slice_bounds-keyword-end
slice_bounds-keyword-end c = let s = c.args.line.now in sym (length-take-le c.word_end-keyword_end.result s (omega (arith, c.word_end-keyword_end.ensures, before_le (is_byte 32) s)))

pub returns-then-line-slot_end : goal.returns-then-line-slot_end
returns-then-line-slot_end c =
    let a = c.args in
    let s = a.line.now in
    let e = c.word_end-keyword_end in
    let f = c.word_end_after-slot_end in
    says_as (lending a.text.now a.state.now a.values.now) (call_line (words s))
    (line_slot s e.result e.ensures c.word_after.ensures (sym (ap said c.in-Some.is) ∙ c.number_of-number.ensures)
    ∙ ap (slot_then (take e.result s) (some c.in-Some.slot)) (sym (behind 32 s e.result f.result f.ensures refl) ∙ none_after 32 s f.result c.if-line-slot_end.true))
    c.slot_call.ensures

pub returns-else-line-slot_end : goal.returns-else-line-slot_end
returns-else-line-slot_end c =
    let a = c.args in
    let s = a.line.now in
    let e = c.word_end-keyword_end in
    let f = c.word_end_after-slot_end in
    let k = take e.result s in
    let n = c.in-Some.slot in
    let b = behind 32 s e.result f.result f.ensures refl in
    says_as (lending a.text.now a.state.now a.values.now) (call_line (words s))
    (line_slot s e.result e.ensures c.word_after.ensures (sym (ap said c.in-Some.is) ∙ c.number_of-number.ensures)
    ∙ ap (slot_then k (some n)) (sym b)
    ∙ slot_more k n (words_after (drop f.result s)) (cons_after 32 s f.result c.if-line-slot_end.false))
    c.send_line.ensures

pub returns-in_default : goal.returns-in_default
returns-in_default c =
    let a = c.args in
    let s = a.line.now in
    let e = c.word_end-keyword_end in
    says_none (lending a.text.now a.state.now a.values.now) (call_line (words s)) (line_slot s e.result e.ensures c.word_after.ensures (sym (ap said c.in_default.is) ∙ c.number_of-number.ensures)) c.put_no_form.ensures
