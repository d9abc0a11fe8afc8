-- `read_parents::some_disagree` meets its contract: at each turn two of the classes left disagree iff two of all do.
use Rattle.std.proofs.Common.{ℕ, sym, ◌∙◌}
use Rattle.model.specs.Base.{any}
use Rattle.model.specs.Library.{class_name}
use Rattle.text_lex.specs.Words.{left}
use Rattle.catalog.specs.View.{library_of}
use Rattle.laws.specs.Upto.{told}
use Rattle.read_parents.specs.Parents.{apart, apart_from}
use Rattle.read_parents.proofs.Loops.{pair_none, pair_first}
use Rattle.read_parents.proofs.some_disagree.Goals as goal

pub returns-then-disagrees : goal.returns-then-disagrees
unfolding class_name
returns-then-disagrees c =
    let l = library_of c.args.text.now c.args.tables.now in
    sym
    (pair_first (apart l) c.in-Some.ensures.steps
    (told (λ (i : ℕ). any (apart_from l i) (left c.next.new.self)) c.class_number.ensures c.disagrees.ensures c.if-disagrees.true))
    ∙ c.loop-word.invariant.same

pub loop-word-preserved : goal.loop-word-preserved
unfolding class_name
loop-word-preserved c =
    let l = library_of c.args.text.now c.args.tables.now in
    record {
      can = tt;
      ends = tt;
      same =
          sym
          (pair_first (apart l) c.in-Some.ensures.steps
          (told (λ (i : ℕ). any (apart_from l i) (left c.next.new.self)) c.class_number.ensures c.disagrees.ensures c.if-disagrees.false))
          ∙ c.loop-word.invariant.same;
    }

pub returns : goal.returns
returns c = sym (pair_none (apart (library_of c.args.text.now c.args.tables.now)) c.in_default.ensures.steps.0) ∙ c.loop-word.invariant.same
