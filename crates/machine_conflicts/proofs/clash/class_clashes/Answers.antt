-- `class_clashes` meets its contract: no lock clashes where none is held or where the send locks nothing.
use mathlib.Core.Path.{sym, ◌∙◌}
use native.Mathlib.Omega.{arith}
use Rattle.machine_conflicts.specs.Clashing.{clash_idle, clash_outside, clash_inside}
use Rattle.machine_conflicts.proofs.clash.class_clashes.Goals as goal

pub returns-then-held_at-eq0 : goal.returns-then-held_at-eq0
returns-then-held_at-eq0 c = clash_idle _ _ _ _ _ (sym c.held_at.ensures ∙ c.if-held_at-eq0.true)

pub returns-in-None : goal.returns-in-None
returns-in-None c = clash_outside _ _ _ _ _ 32 (sym c.in-None.ensures) (omega arith)

pub returns-in-Some : goal.returns-in-Some
returns-in-Some c = c.holds.ensures ∙ clash_inside _ _ _ _ _ _ c.in-Some.ensures.0 c.in-Some.ensures.1 _ c.conflicts.ensures
