-- `belongs` meets its contract: a class is in its own domain, and any other is tested by its ancestors.
use Prim.Native.Nat.{ℕ}
use mathlib.Core.Path.{ap, ◌∙◌}
use borrow.Author.Tests.{eq-eqb, ne_eqb}
use Rattle.laws.specs.Bits.{bit}
use Rattle.machine_start.specs.Worked.{belongs}
use Rattle.machine_start.proofs.belongs.Goals as goal

pub returns-then-other-class : goal.returns-then-other-class
unfolding belongs
returns-then-other-class c = let a = c.args in rw (eq-eqb a.other a.class c.if-other-class.true)

pub returns : goal.returns
unfolding belongs
returns c =
    let a = c.args in
    rw (ne_eqb a.other a.class c.if-other-class.false) (c.has_bit.ensures ∙ ap (λ (m : ℕ). bit m a.class) c.ancestors.ensures)
