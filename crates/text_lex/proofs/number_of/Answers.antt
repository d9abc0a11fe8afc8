-- `text_lex::number_of` meets its contract: at each turn the value of the digits left, following n, is the value of the word, and
-- they are all digits iff the word's are.
use mathlib.Core.Path.{sym, ap, ◌∙◌}
use mathlib.Core.Option.{some}
use native.Mathlib.Omega.{arith}
use lib.ListN.{get_or}
use Rattle.model.specs.Word.{is_digit}
use Rattle.text_lex.specs.Number.{said}
use Rattle.text_lex.proofs.ListLaws.{every_end, every_stop, every_more}
use Rattle.text_lex.proofs.NumberLaws.{decimal_end, ill_begun, no_digits, says, digit_range, read_on, overflow}
use Rattle.text_lex.proofs.number_of.Goals as goal

pub returns-then-not-well_begun : goal.returns-then-not-well_begun
returns-then-not-well_begun c = sym (ill_begun _ (sym c.well_begun.ensures ∙ c.if-not-well_begun.true))

pub returns-then-not-is_digit : goal.returns-then-not-is_digit
returns-then-not-is_digit c =
    let w = c.args.word.now in
    let e = sym c.is_digit.ensures ∙ c.if-not-is_digit.true in
    sym (no_digits w (sym c.loop-byte.invariant.digits ∙ every_stop is_digit w c.loop-byte.byte-index (omega arith) e))

pub returns-in_err-checked_mul : goal.returns-in_err-checked_mul
returns-in_err-checked_mul c =
    let w = c.args.word.now in
    let l = c.loop-byte in
    let d = digit_range (get_or w l.byte-index 0) (sym c.is_digit.ensures ∙ c.if-not-is_digit.false) in
    ap said c.from_residual.ensures ∙ sym (overflow l.n w l.byte-index l.invariant.value c.loop-byte-test.true (omega (arith, c.in_err-checked_mul.ensures)))

pub returns-in_err-n : goal.returns-in_err-n
returns-in_err-n c =
    let w = c.args.word.now in
    let l = c.loop-byte in
    let d = digit_range (get_or w l.byte-index 0) (sym c.is_digit.ensures ∙ c.if-not-is_digit.false) in
    ap said c.from_residual-in_err-n.ensures
    ∙ sym (overflow l.n w l.byte-index l.invariant.value c.loop-byte-test.true (omega (arith, c.in_ok-checked_mul.ensures, c.from.ensures, c.in_err-n.ensures)))

pub loop-byte-preserved : goal.loop-byte-preserved
loop-byte-preserved c =
    let w = c.args.word.now in
    let l = c.loop-byte in
    let e = sym c.is_digit.ensures ∙ c.if-not-is_digit.false in
    let d = digit_range (get_or w l.byte-index 0) e in
    record {
      fits = omega (arith, c.in_ok-n.ensures);
      value = read_on l.n w l.byte-index l.invariant.value c.loop-byte-test.true c.in_ok-n.n (omega (arith, c.in_ok-checked_mul.ensures, c.from.ensures, c.in_ok-n.ensures));
      digits = sym (every_more is_digit w l.byte-index (omega arith) e) ∙ l.invariant.digits;
    }

pub returns : goal.returns
returns c =
    let w = c.args.word.now in
    let l = c.loop-byte in
    let n = sym (decimal_end l.n w l.byte-index (omega arith)) ∙ l.invariant.value in
    let e = sym l.invariant.digits ∙ every_end is_digit w l.byte-index (omega arith) in
    ap some n ∙ sym (says w (sym c.well_begun.ensures ∙ c.if-not-well_begun.false) e (omega arith))
