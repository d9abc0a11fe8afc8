-- `judge` meets its contract: at each turn the pass over the lines left, with the library in the tables, answers what the pass
-- over all lines answers. Each statement so far took 8 bytes, so there is room for the next.
use borrow.Author.Rules.{rules}
use Prim.Native.Nat.{◌<◌}
use mathlib.Core.Path.{refl, sym, ap, ◌∙◌}
use Rattle.read_classes.specs.Took.{fault_some}
use native.Mathlib.Omega.{arith}
use lib.ListN.{length}
use Rattle.layout.specs.Layout.{statements_most}
use Rattle.model.specs.Library.{Library}
use Rattle.model.specs.Read.{judged}
use Rattle.catalog.specs.View.{statement_count, library_of}
use Rattle.catalog.specs.Look.{statement_count_law}
use Rattle.read_lines.specs.Below.{lines_at}
use Rattle.reader.specs.Judging.{judged_end, judged_fault, judged_more, statements_within, nothing_yet}
use Rattle.reader.proofs.judge.Goals as goal
use Rattle.reader.proofs.judge.Goals.{After-take_line-arg-1}

-- There is room for one more statement.
room : (c : After-take_line-arg-1) → statement_count c.loop-end.tables < statements_most
room c =
    let s = c.args.text.now in
    omega (arith, c.loop-end.invariant.3, statement_count_law s c.loop-end.tables)

pub loop-end-init : goal.loop-end-init
loop-end-init c =
    let s = c.args.text.now in
    let e = ap (library_of s) c.clear.ensures ∙ nothing_yet s c.args.tables.now c.requires.tables_len in
    let n = ap (λ (l : Library). length l.statements) e in
    (omega arith, c.line_end-end.ensures, search rules, omega (arith, n), ap (λ (l : Library). judged l 1 (lines_at s 0)) e)

pub returns-in-Err : goal.returns-in-Err
unfolding lines_at
returns-in-Err c =
    let l = c.loop-end in
    let s = c.args.text.now in
    sym l.invariant.4
    ∙ judged_fault s l.at l.end l.invariant.1 c.loop-end-test.true l.tables
    _ c.take_line.new.tables (c.in-Err.ensures (room (goal.at.returns-in-Err c).After-take_line-arg-1)) l.number (fault_some _)

pub loop-end-preserved : goal.loop-end-preserved
loop-end-preserved c =
    let l = c.loop-end in
    let s = c.args.text.now in
    let took = c.in_default.ensures (room (goal.at.loop-end-preserved c).After-take_line-arg-1) in (
      omega arith,
      c.line_end-end-in-loop-end.ensures,
      search rules,
      statements_within s l.at l.end l.invariant.1 c.loop-end-test.true l.tables
          0 c.take_line.new.tables took refl l.invariant.3,
      judged_more s l.at l.end l.invariant.1 c.loop-end-test.true l.tables
          0 c.take_line.new.tables took l.number refl ∙ l.invariant.4,
    )

pub returns : goal.returns
unfolding lines_at
returns c =
    let l = c.loop-end in
    let s = c.args.text.now in
    sym l.invariant.4 ∙ judged_end s l.at l.end l.invariant.1 (library_of s l.tables) l.number c.loop-end-test.false
