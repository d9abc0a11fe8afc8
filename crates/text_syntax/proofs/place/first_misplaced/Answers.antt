-- `first_misplaced` meets its contract: at each turn the pass over the lines left, from the place reached, finds what the pass
-- over the whole text finds. A line's number is at most its start + 1.
use Prim.Native.Nat.{◌+◌, ◌-◌}
use mathlib.Core.Path.{sym, ap, ◌∙◌}
use mathlib.Core.Bool.{Bool, cond}
use native.Mathlib.Omega.{arith}
use lib.ListN.{take, drop}
use Rattle.model.specs.Text.{words}
use Rattle.std.specs.Prelude.{Some, None}
use Rattle.model.specs.Form.{Form, form_of, Place}
use Rattle.text_syntax.specs.Kinds.{said}
use Rattle.text_syntax.specs.Places.{said_place, pass_from, line_in, line_some, follows, pass_stop, pass_more, pass_end}
use Rattle.text_syntax.proofs.place.first_misplaced.Goals as goal
use Rattle.text_syntax.proofs.place.first_misplaced.Goals.{After-next_place}

-- The form of the line being read.
abbrev form : After-next_place → Form
form c =
    let l = c.loop-end in
    form_of (words (take (l.end - l.at) (drop l.at c.args.text.now)))

pub returns-in_default : goal.returns-in_default
unfolding pass_from
returns-in_default c =
    let l = c.loop-end in
    let f = form (goal.at.returns-in_default c).After-next_place in
    let m = follows f l.place (said c.kind_of.result) None c.in_default.ensures c.kind_of.ensures in
    line_some l.number l.invariant.counted
    ∙ ap line_in (sym (pass_stop l.number (said_place l.place) c.args.text.now l.at l.end l.invariant.ends c.loop-end-test.true m) ∙ l.invariant.pass)

pub loop-end-preserved : goal.loop-end-preserved
loop-end-preserved c =
    let l = c.loop-end in
    let s = c.args.text.now in
    let p = said_place l.place in
    let f = form (goal.at.loop-end-preserved c).After-next_place in
    let m = follows f l.place (said c.kind_of.result) (Some c.in-Some.next) c.in-Some.ensures c.kind_of.ensures in
    record {
      counted = omega arith;
      few = omega arith;
      ends = c.line_end-end-in-loop-end.ensures;
      pass = ap (λ (q : Place). pass_from (l.number + 1) q s (l.end + 1)) m.1
          ∙ sym (pass_more l.number p s l.at l.end l.invariant.ends c.loop-end-test.true m.0) ∙ l.invariant.pass;
    }

pub returns-then-is_unfinished : goal.returns-then-is_unfinished
unfolding pass_from
returns-then-is_unfinished c =
    let l = c.loop-end in
    let p = said_place l.place in
    let t = sym c.is_unfinished.ensures ∙ c.if-is_unfinished.true in
    line_some l.number l.invariant.counted
    ∙ ap line_in (sym (pass_end l.number p c.args.text.now l.at l.end l.invariant.ends c.loop-end-test.false ∙ ap (λ (b : Bool). cond b l.number 0) t) ∙ l.invariant.pass)

pub returns-else-is_unfinished : goal.returns-else-is_unfinished
unfolding pass_from
returns-else-is_unfinished c =
    let l = c.loop-end in
    let p = said_place l.place in
    let t = sym c.is_unfinished.ensures ∙ c.if-is_unfinished.false in
    ap line_in (sym (pass_end l.number p c.args.text.now l.at l.end l.invariant.ends c.loop-end-test.false ∙ ap (λ (b : Bool). cond b l.number 0) t) ∙ l.invariant.pass)
