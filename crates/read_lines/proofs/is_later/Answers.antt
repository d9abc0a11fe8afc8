-- `is_later` meets its contract: at each turn the lines left define the method iff those from the first place on do.
use Prim.Native.Nat.{ℕ, ◌+◌}
use mathlib.Core.Path.{◌≡◌, sym, ap, ◌∙◌}
use mathlib.Core.Logic.{◌≢◌}
use mathlib.Core.Bool.{Bool, true, false, cond}
use native.Mathlib.Omega.{arith}
use lib.Dec.{eqb}
use Rattle.model.specs.Base.{any}
use Rattle.model.specs.Fault.{later}
use Rattle.read_lines.specs.Below.{lines_at, placed_line, is_later, lines_more, lines_end, later_more, later_here}
use Rattle.read_lines.proofs.is_later.Goals as goal

-- What a line decides, by its number.
module _ {n : ℕ} where
  decided : (t : Bool) → cond t 1 2 ≡ n → t ≡ eqb n 1
  decided true e = rw (sym e)
  decided false e = rw (sym e)

  decides : (t : Bool) → cond t 1 2 ≡ n → n ≢ 0
  decides true e z = omega arith
  decides false e z = omega arith

pub returns-in-Some : goal.returns-in-Some
returns-in-Some c =
    let a = c.args in
    let s = a.text.now in
    let m = a.method.now in
    let line = placed_line s c.loop-end.at c.loop-end.end in
    let below = lines_at s (c.loop-end.end + 1) in
    decided c.in-Some.defined c.in-Some.ensures
    ∙ sym (later_here m line below (decides c.in-Some.defined c.in-Some.ensures))
    ∙ ap (is_later m) (sym (lines_more s c.loop-end.at c.loop-end.end c.loop-end.invariant.0 c.loop-end-test.true))
    ∙ c.loop-end.invariant.1

pub loop-end-preserved : goal.loop-end-preserved
loop-end-preserved c =
    let a = c.args in
    let s = a.text.now in
    let m = a.method.now in
    let line = placed_line s c.loop-end.at c.loop-end.end in
    let below = lines_at s (c.loop-end.end + 1) in (
      c.line_end-end-in-loop-end.ensures,
      sym (later_more m line below (sym c.in_default.ensures))
          ∙ ap (is_later m) (sym (lines_more s c.loop-end.at c.loop-end.end c.loop-end.invariant.0 c.loop-end-test.true))
          ∙ c.loop-end.invariant.1,
    )

pub returns : goal.returns
unfolding later any
returns c =
    let a = c.args in
    let s = a.text.now in
    ap (is_later a.method.now) (sym (lines_end s c.loop-end.at c.loop-end.end c.loop-end.invariant.0 c.loop-end-test.false)) ∙ c.loop-end.invariant.1
