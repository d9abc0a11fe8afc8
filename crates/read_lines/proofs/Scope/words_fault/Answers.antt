-- `words_fault` meets its contract: at each turn the lower of the fault found and that of the words left is the answer.
use Prim.Native.Nat.{ℕ}
use mathlib.Core.Path.{sym, ap, ◌∙◌}
use mathlib.Core.List.{List}
use native.Mathlib.Omega.{arith}
use lib.Seq.{length-take-le}
use Rattle.refusals.specs.Numbers.{fault_in}
use Rattle.text_lex.specs.Scan.{is_byte, before_le}
use Rattle.text_lex.specs.Words.{left}
use Rattle.catalog.specs.View.{library_of}
use Rattle.read_lines.specs.Below.{lines_at}
use Rattle.read_lines.specs.Lower.{lower}
use Rattle.read_lines.specs.Mentioned.{fault_from, begins, goes_on, ends}
use Rattle.read_lines.proofs.Scope.words_fault.Goals as goal

pub slice_bounds-same-end : goal.slice_bounds-same-end
slice_bounds-same-end c =
    let e = c.word_end-first in
    let s = c.args.line.now in
    sym (length-take-le e.result s (omega (arith, e.ensures, before_le (is_byte 32) s)))

pub loop-word-init : goal.loop-word-init
loop-word-init c =
    let a = c.args in
    let l = library_of a.self.now.text.now a.self.now.tables.now in
    let below = lines_at a.self.now.text.now a.self.now.below in
    let all = ap left c.into_iter-word-iterator.ensures.into_iter_gives ∙ c.words_after-word-items.ensures in
    record {
      can = tt;
      ends = tt;
      same =
          ap (λ (ws : List (List ℕ)). lower 0 (fault_from l below c.same-sent.result ws)) all
          ∙ begins l below a.line.now c.word_end-first.result c.word_end-first.ensures c.same-sent.ensures;
    }

pub loop-word-preserved : goal.loop-word-preserved
loop-word-preserved c =
    let a = c.args in
    let l = library_of a.self.now.text.now a.self.now.tables.now in
    let below = lines_at a.self.now.text.now a.self.now.below in
    let found = fault_in c.loop-word.fault in
    record {
      can = tt;
      ends = tt;
      same =
          goes_on l below c.loop-word.sent found c.in-Some.word.now (left c.loop-word.word-iterator) (left c.next.new.self) c.in-Some.ensures.steps
          (c.lower-fault.ensures ∙ ap (lower found) c.word_fault.ensures)
          c.same.ensures
          ∙ c.loop-word.invariant.same;
    }

pub returns : goal.returns
returns c =
    let a = c.args in
    let l = library_of a.self.now.text.now a.self.now.tables.now in
    let below = lines_at a.self.now.text.now a.self.now.below in
    let found = fault_in c.loop-word.fault in
    ends l below c.loop-word.sent found
    ∙ ap (λ (ws : List (List ℕ)). lower found (fault_from l below c.loop-word.sent ws)) (sym c.in-None.ensures.steps.0)
    ∙ c.loop-word.invariant.same
