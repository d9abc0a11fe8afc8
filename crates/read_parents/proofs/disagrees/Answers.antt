-- `read_parents::disagrees` meets its contract: std's `any` over the names is the model's.
use Rattle.std.proofs.Common.{◌∙◌, refl, rules, tests}
use Rattle.std.proofs.lemmas.Iterator.Search.{any_from_yields_List}
use Rattle.std.proofs.lemmas.Iterator.Consumers.{YieldsList-from_first}
use Rattle.model.specs.Library.{class_name}
use Rattle.text_lex.specs.Words.{left, any_any}
use Rattle.catalog.specs.View.{library_of}
use Rattle.read_parents.specs.Parents.{apart_from}
use Rattle.read_parents.proofs.disagrees.Goals as goal

pub returns : goal.returns
unfolding class_name
returns c =
    let p = apart_from (library_of c.args.text.now c.args.tables.now) c.args.class in
    any_from_yields_List p c.any.new.self _ _ c.any.ensures.ran
    (YieldsList-from_first (λ x. x.now) left (left c.args.names) refl) (λ x b q k. search (rules, tests))
    ∙ any_any p (left c.args.names)
