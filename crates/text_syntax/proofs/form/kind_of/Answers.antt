-- `kind_of` meets its contract: the first word is the keyword, and the line is of its kind iff the words after it fit.
use mathlib.Core.Path.{◌≡◌, sym, ap, ◌∙◌}
use mathlib.Core.Bool.{Bool, cond}
use native.Mathlib.Omega.{arith}
use lib.ListN.{take, drop}
use lib.Seq.{length-take-le}
use Rattle.model.specs.Form.{Keyword, keyword_of}
use Rattle.text_lex.specs.Scan.{is_byte, before_le}
use Rattle.text_lex.specs.Piece.{words_after}
use Rattle.std.specs.Prelude.{Some}
use Rattle.text_syntax.specs.Keywords.{said_keyword}
use Rattle.text_syntax.specs.Kinds.{said, fits, kind_by, kind_line, no_kind}
use Rattle.text_syntax.proofs.form.kind_of.Goals as goal

pub slice_bounds-keyword_of-end : goal.slice_bounds-keyword_of-end
slice_bounds-keyword_of-end c =
    let e = c.word_end-at in
    let s = c.args.line.now in
    sym (length-take-le e.result s (omega (arith, e.ensures, before_le (is_byte 32) s)))

pub returns-in_err-keyword : goal.returns-in_err-keyword
returns-in_err-keyword c =
    let e = c.word_end-at in
    ap said c.from_residual.ensures ∙ no_kind c.args.line.now e.result e.ensures c.in_err-keyword.ensures

pub returns-then-fits : goal.returns-then-fits
returns-then-fits c =
    let e = c.word_end-at in
    let s = c.args.line.now in
    let q : said_keyword (Some c.in_ok-keyword.keyword) ≡ keyword_of (take e.result s) = c.in_ok-keyword.ensures in
    let t = ap (λ (w : Keyword). fits w (words_after (drop e.result s))) (sym q) ∙ sym c.fits.ensures ∙ c.if-fits.true in
    c.kind_by.ensures ∙ ap kind_by q ∙ sym (kind_line s e.result e.ensures ∙ ap (λ (u : Bool). cond u (kind_by (keyword_of (take e.result s))) 6) t)

pub returns-else-fits : goal.returns-else-fits
returns-else-fits c =
    let e = c.word_end-at in
    let s = c.args.line.now in
    let q : said_keyword (Some c.in_ok-keyword.keyword) ≡ keyword_of (take e.result s) = c.in_ok-keyword.ensures in
    let t = ap (λ (w : Keyword). fits w (words_after (drop e.result s))) (sym q) ∙ sym c.fits.ensures ∙ c.if-fits.false in
    sym (kind_line s e.result e.ensures ∙ ap (λ (u : Bool). cond u (kind_by (keyword_of (take e.result s))) 6) t)
