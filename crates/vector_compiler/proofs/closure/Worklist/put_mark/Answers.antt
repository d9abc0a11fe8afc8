-- `put_mark` meets its contract: the mark's number is set in the view, and a list has no place past its end.
use Prim.Native.Nat.{ℕ, ◌≤◌}
use mathlib.Core.Path.{sym, ap, ◌∙◌}
use mathlib.Core.List.{List}
use native.Mathlib.Omega.{arith}
use lib.ListN.{length, set}
use Rattle.std.proofs.Math.Seq.{set_out}
use Rattle.std.proofs.lemmas.List.{length-map, map-set}
use Rattle.vector_compiler.specs.Numbers.{number}
use Rattle.vector_compiler.proofs.closure.Worklist.put_mark.Goals as goal

pub returns-then-place-lt512 : goal.returns-then-place-lt512
returns-then-place-lt512 c =
    let a = c.args in
    map-set number c.self.inside.marks a.node a.mark ∙ ap (λ (l : List ℕ). set l a.node (number a.mark)) c.self.view_is

pub returns-else-place-lt512 : goal.returns-else-place-lt512
returns-else-place-lt512 c =
    let a = c.args in
    let past : length a.self.now ≤ a.node = omega (arith, c.self.invariant, ap length c.self.view_is, length-map c.self.inside.marks number) in
    sym (set_out a.self.now a.node (number a.mark) past)
