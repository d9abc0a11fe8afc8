-- `mentioned` meets its contract: each turn takes one word from those left to those gathered.
use mathlib.Core.Path.{sym, ap, ◌∙◌}
use mathlib.Core.List.{List, ◌∷◌}
use Prim.Native.Nat.{ℕ}
use native.Mathlib.Omega.{arith}
use lib.ListN.{take}
use lib.Seq.{length-take-le}
use Rattle.model.specs.Text.{words}
use Rattle.text_lex.specs.Scan.{is_byte, before_le}
use Rattle.text_lex.specs.Piece.{first_piece}
use Rattle.text_lex.specs.Words.{left}
use Rattle.vector_direct.specs.Fields.{fields_in}
use Rattle.vector_direct.specs.Mentions.{mentions_behind}
use Rattle.vector_direct.specs.Gathering.{gather_none, gather_more, gather_end}
use Rattle.vector_direct.proofs.Class.mentioned.Goals as goal

pub slice_bounds-counts-end : goal.slice_bounds-counts-end
slice_bounds-counts-end c =
    let e = c.word_end-first in
    let s = c.args.line.now in
    sym (length-take-le e.result s (omega (arith, e.ensures, before_le (is_byte 32) s)))

pub loop-word-init : goal.loop-word-init
loop-word-init c =
    let e = c.word_end-first in
    let a = c.args in
    let s = a.line.now in
    let all = ap left c.into_iter-word-iterator.ensures.into_iter_gives ∙ c.words_after-word-items.ensures in
    record {
      can = tt;
      ends = tt;
      gathered =
          gather_none (fields_in a.self.now.text.now a.self.now.tables.now a.self.now.number) a.keyword.now a.usual c.counts-on.result (take e.result s) (words s)
          (left c.into_iter-word-iterator.result) c.counts-on.ensures
          (first_piece 32 s e.result e.ensures ∙ ap (λ (ws : List (List ℕ)). take e.result s ∷ ws) (sym all));
    }

pub loop-word-preserved : goal.loop-word-preserved
loop-word-preserved c =
    let a = c.args in
    let l = c.loop-word in
    record {
      can = tt;
      ends = tt;
      gathered =
          gather_more (fields_in a.self.now.text.now a.self.now.tables.now a.self.now.number) a.keyword.now a.usual (mentions_behind a.keyword.now a.usual (words a.line.now))
          l.mask l.on (left l.word-iterator) l.invariant.gathered _ (left c.next.new.self) c.counts-on-in-loop-word.result c.counted_mask-mask.result
          c.in-Some.ensures.steps c.counts-on-in-loop-word.ensures c.counted_mask-mask.ensures;
    }

pub returns : goal.returns
returns c =
    let a = c.args in
    let l = c.loop-word in
    gather_end (fields_in a.self.now.text.now a.self.now.tables.now a.self.now.number) a.keyword.now a.usual (mentions_behind a.keyword.now a.usual (words a.line.now))
    l.mask l.on (left l.word-iterator) l.invariant.gathered c.in-None.ensures.steps.0
