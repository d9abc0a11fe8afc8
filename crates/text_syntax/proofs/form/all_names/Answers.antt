-- `all_names` meets its contract: it tests each word.
use mathlib.Core.Path.{◌∙◌}
use borrow.Author.Tests.{tests}
use Rattle.std.proofs.Common.{rules}
use Rattle.std.proofs.lemmas.Iterator.Consumers.{YieldsList-from_first}
use Rattle.std.proofs.lemmas.Iterator.Search.{all_from_yields_List}
use Rattle.model.specs.Word.{is_name}
use Rattle.text_lex.specs.Words.{left, every_all}
use Rattle.text_syntax.proofs.form.all_names.Goals as goal

pub returns : goal.returns
returns c =
    all_from_yields_List is_name c.all.new.self c.all.new.f c.all.result c.all.ensures.ran (YieldsList-from_first (λ x. x.now) left {s = c.words_after.result} _ c.words_after.ensures) (λ x b q k. search (rules, tests))
    ∙ every_all is_name _
