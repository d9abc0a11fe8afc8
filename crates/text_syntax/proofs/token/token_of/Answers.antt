-- `token_of` meets its contract: the word's length and first byte leave only the tests that the code makes.
use mathlib.Core.Path.{◌≡◌, sym, ap, ◌∙◌}
use Rattle.std.specs.Prelude.{Some, None}
use Rattle.text_lex.specs.Number.{number_of, said}
use Rattle.text_syntax.specs.Tokens.{said_token, literal_said}
use Rattle.text_syntax.proofs.TokenLaws.{empty, named, numbered}
use Rattle.text_syntax.proofs.token.token_of.Goals as goal

pub returns-then-word-eq0 : goal.returns-then-word-eq0
returns-then-word-eq0 c = empty c.args.word.now c.if-word-eq0.true

pub returns-then-is_ascii_lowercase : goal.returns-then-is_ascii_lowercase
returns-then-is_ascii_lowercase c =
    c.token_of_name.ensures ∙ named c.args.word.now c.if-word-eq0.false c.if-word-eq1.false (sym c.is_ascii_lowercase.ensures.value ∙ c.if-is_ascii_lowercase.true)

pub returns-in_err-number : goal.returns-in_err-number
returns-in_err-number c =
    let w = c.args.word.now in
    let n : said None ≡ number_of w = c.in_err-number.ensures in
    ap (said_token w) c.from_residual.ensures ∙ literal_said w None n
    ∙ numbered w c.if-word-eq0.false c.if-word-eq1.false (sym c.is_ascii_lowercase.ensures.value ∙ c.if-is_ascii_lowercase.false)

pub returns : goal.returns
returns c =
    let w = c.args.word.now in
    let n : said (Some c.in_ok-number.number) ≡ number_of w = c.in_ok-number.ensures in
    literal_said w (Some c.in_ok-number.number) n
    ∙ numbered w c.if-word-eq0.false c.if-word-eq1.false (sym c.is_ascii_lowercase.ensures.value ∙ c.if-is_ascii_lowercase.false)
