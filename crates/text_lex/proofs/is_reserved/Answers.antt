-- `text_lex::is_reserved` meets its contract: each arm compares the word with the reserved words of its length; no other equals it.
use borrow.Author.Tests.{ne_eqb}
use mathlib.Core.Path.{◌∙◌}
use lib.ListN.{length}
use Rattle.model.specs.Base.{any}
use Rattle.text_lex.specs.Tests.{◌or◌}
use Rattle.text_lex.proofs.ListLaws.{reserved_of_law, reserved_none}
use Rattle.text_lex.proofs.is_reserved.Goals as goal

pub returns-in-2 : goal.returns-in-2
returns-in-2 c =
    c.same.ensures ∙ reserved_of_law c.args.word.now 2 c.in-2.is

pub returns-in-3 : goal.returns-in-3
returns-in-3 c =
    let tests = c.same-in-3.ensures or c.same-in-3-2.ensures or c.same-in-3-3.ensures or c.same-in-3-4.ensures or c.same-in-3-5.ensures in
    tests ∙ reserved_of_law c.args.word.now 3 c.in-3.is

pub returns-in-4 : goal.returns-in-4
returns-in-4 c =
    let tests = c.same-in-4.ensures or c.same-in-4-2.ensures or c.same-in-4-3.ensures in
    tests ∙ reserved_of_law c.args.word.now 4 c.in-4.is

pub returns-in-5 : goal.returns-in-5
returns-in-5 c =
    let tests = c.same-in-5.ensures or c.same-in-5-2.ensures or c.same-in-5-3.ensures or c.same-in-5-4.ensures in
    tests ∙ reserved_of_law c.args.word.now 5 c.in-5.is

pub returns-in-6 : goal.returns-in-6
returns-in-6 c =
    let tests = c.same-in-6.ensures or c.same-in-6-2.ensures in
    tests ∙ reserved_of_law c.args.word.now 6 c.in-6.is

pub returns-in_default : goal.returns-in_default
unfolding any
returns-in_default c =
    let w = c.args.word.now in
    let n = length w in
    let r = c.in_default.in_default-own.rest in
    reserved_none w
    (rw (ne_eqb n 2 r.0.0.0.0.1, ne_eqb n 3 r.0.0.0.1, ne_eqb n 4 r.0.0.1, ne_eqb n 5 r.0.1, ne_eqb n 6 r.1))
