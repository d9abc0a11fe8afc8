-- `read_parents::is_unknown` meets its contract: std's `any` over the names is the model's.
use Rattle.std.proofs.Common.{◌∙◌, rules, tests}
use Rattle.std.proofs.lemmas.Iterator.Search.{any_from_yields_List}
use Rattle.std.proofs.lemmas.Iterator.Consumers.{YieldsList-from_first}
use Rattle.text_lex.specs.Piece.{words_after}
use Rattle.text_lex.specs.Words.{left, any_any}
use Rattle.catalog.specs.View.{library_of}
use Rattle.read_parents.specs.Parents.{unknown}
use Rattle.read_parents.proofs.is_unknown.Goals as goal

pub returns : goal.returns
returns c =
    let p = unknown (library_of c.args.text.now c.args.tables.now) in
    any_from_yields_List p c.any.new.self _ _ c.any.ensures.ran
    (YieldsList-from_first (λ x. x.now) left _ c.words_after.ensures) (λ x b q k. search (rules, tests))
    ∙ any_any p (words_after c.args.names.now)
