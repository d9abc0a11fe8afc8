-- `read_parents::is_among` meets its contract: std's `any` over the words is the model's.
use Rattle.std.proofs.Common.{◌∙◌, refl, rules, tests}
use Rattle.std.proofs.lemmas.Iterator.Search.{any_from_yields_List}
use Rattle.std.proofs.lemmas.Iterator.Consumers.{YieldsList-from_first}
use Rattle.model.specs.Base.{same}
use Rattle.text_lex.specs.Words.{left, any_any}
use Rattle.read_parents.proofs.is_among.Goals as goal

pub returns : goal.returns
returns c =
    any_from_yields_List (same c.args.name.now) c.any.new.self _ _ c.any.ensures.ran
    (YieldsList-from_first (λ x. x.now) left (left c.args.words) refl) (λ x b q k. search (rules, tests))
    ∙ any_any (same c.args.name.now) (left c.args.words)
