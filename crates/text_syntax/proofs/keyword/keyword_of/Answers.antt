-- `keyword_of` meets its contract: in each arm each choice is the definition's test of a word of that length.
use borrow.Author.Tests.{ne_eqb}
use mathlib.Core.Path.{refl, ◌∙◌}
use lib.ListN.{length}
use Rattle.std.specs.Prelude.{Some}
use Rattle.model.specs.Base.{any}
use Rattle.text_syntax.specs.declared.keyword.Keyword.TheVariants.{Class, Field, Method, End, Object, Set, Add, Send, Reply, When}
use Rattle.text_syntax.specs.Chosen.{chosen}
use Rattle.text_syntax.specs.Keywords.{said_keyword}
use Rattle.text_syntax.proofs.KeywordLaws.{keyword_of_law, keyword_none}
use Rattle.text_syntax.proofs.keyword.keyword_of.Goals as goal

pub returns-in-3 : goal.returns-in-3
returns-in-3 c =
    chosen said_keyword (Some End) c.choose.ensures c.same-in-3-2.ensures
    (chosen said_keyword (Some Set) c.choose-keyword-in-3.ensures c.same-in-3.ensures
    (chosen said_keyword (Some Add) c.choose-keyword.ensures c.same.ensures refl))
    ∙ keyword_of_law c.args.word.now 3 c.in-3.is

pub returns-in-4 : goal.returns-in-4
returns-in-4 c =
    chosen said_keyword (Some Send) c.choose-in-4.ensures c.same-in-4-2.ensures
    (chosen said_keyword (Some When) c.choose-keyword-in-4.ensures c.same-in-4.ensures refl)
    ∙ keyword_of_law c.args.word.now 4 c.in-4.is

pub returns-in-5 : goal.returns-in-5
returns-in-5 c =
    chosen said_keyword (Some Class) c.choose-in-5.ensures c.same-in-5-3.ensures
    (chosen said_keyword (Some Field) c.choose-keyword-in-5-2.ensures c.same-in-5-2.ensures
    (chosen said_keyword (Some Reply) c.choose-keyword-in-5.ensures c.same-in-5.ensures refl))
    ∙ keyword_of_law c.args.word.now 5 c.in-5.is

pub returns-in-6 : goal.returns-in-6
returns-in-6 c =
    chosen said_keyword (Some Method) c.choose-in-6.ensures c.same-in-6-2.ensures
    (chosen said_keyword (Some Object) c.choose-keyword-in-6.ensures c.same-in-6.ensures refl)
    ∙ keyword_of_law c.args.word.now 6 c.in-6.is

pub returns-in_default : goal.returns-in_default
unfolding any
returns-in_default c =
    let w = c.args.word.now in
    let n = length w in
    let r = c.in_default.in_default-own.rest in
    keyword_none w (rw (ne_eqb n 3 r.0.0.0.1, ne_eqb n 4 r.0.0.1, ne_eqb n 5 r.0.1, ne_eqb n 6 r.1))
