-- `token_of_name` meets its contract: it makes the definition's tests in turn.
use mathlib.Core.Path.{sym, ◌∙◌}
use Rattle.text_syntax.specs.Tokens.{named_or}
use Rattle.text_syntax.proofs.token.token_of_name.Goals as goal

pub returns-then-same : goal.returns-then-same
unfolding named_or
returns-then-same c = rw (sym c.same.ensures ∙ c.if-same.true)

pub returns-then-same-2 : goal.returns-then-same-2
unfolding named_or
returns-then-same-2 c =
    rw (sym c.same.ensures ∙ c.if-same.false, sym c.same-2.ensures ∙ c.if-same-2.true)

pub returns-then-is_name : goal.returns-then-is_name
unfolding named_or
returns-then-is_name c =
    rw (sym c.same.ensures ∙ c.if-same.false, sym c.same-2.ensures ∙ c.if-same-2.false, sym c.is_name.ensures ∙ c.if-is_name.true)

pub returns : goal.returns
unfolding named_or
returns c =
    rw (sym c.same.ensures ∙ c.if-same.false, sym c.same-2.ensures ∙ c.if-same-2.false, sym c.is_name.ensures ∙ c.if-is_name.false)
