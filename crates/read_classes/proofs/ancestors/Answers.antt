-- `read_classes::ancestors` meets its contract: at each turn the mask together with what is above the names left is what is above all.
use mathlib.Core.Path.{sym, ap, ◌∙◌}
use mathlib.Core.Bool.{Bool, ◌||◌}
use mathlib.Core.List.{List}
use native.Mathlib.Omega.{arith}
use Rattle.model.specs.Base.{any}
use Rattle.model.specs.Word.{Name}
use Rattle.model.specs.Library.{above}
use Rattle.laws.specs.Bits.{bit, bit_zero}
use Rattle.catalog.specs.View.{library_of}
use Rattle.catalog.specs.Look.{class_number_within}
use Rattle.text_lex.specs.Words.{left}
use Rattle.read_classes.proofs.AncestorLaws.{or_false, above_turn}
use Rattle.read_classes.proofs.ancestors.Goals as goal

pub loop-name-init : goal.loop-name-init
loop-name-init c =
    let l = library_of c.args.text.now c.args.tables.now in
    let all = ap left c.into_iter-name-iterator.ensures.into_iter_gives ∙ c.words_after-name-items.ensures in
    record {
      can = tt;
      ends = tt;
      same = λ d. ap (λ (t : Bool). t || above l (left c.into_iter-name-iterator.result) d) (bit_zero d) ∙ ap (λ (ps : List Name). above l ps d) all;
    }

pub with_ancestors-mask-requires : goal.with_ancestors-mask-requires
with_ancestors-mask-requires c =
    let a = c.args in
    omega (arith, c.class_number.ensures, class_number_within a.text.now a.tables.now c.in-Some.name.now)

pub loop-name-preserved : goal.loop-name-preserved
loop-name-preserved c =
    let l = library_of c.args.text.now c.args.tables.now in
    record {
      can = tt;
      ends = tt;
      same = λ d. above_turn l c.in-Some.name.now (left c.next.new.self) c.loop-name.mask c.with_ancestors-mask.result c.class_number.result d c.class_number.ensures
          (c.with_ancestors-mask.ensures c.args.text.now d)
          ∙ ap (λ (ps : List Name). bit c.loop-name.mask d || above l ps d) (sym c.in-Some.ensures.steps)
          ∙ c.loop-name.invariant.same d;
    }

pub returns : goal.returns
unfolding above any
returns c =
    let l = library_of c.args.text.now c.args.tables.now in
    λ d. or_false (bit c.loop-name.mask d)
    ∙ ap (λ (ps : List Name). bit c.loop-name.mask d || above l ps d) (sym c.in-None.ensures.steps.0)
    ∙ c.loop-name.invariant.same d
