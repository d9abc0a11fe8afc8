-- `target_fault` meets its contract: the part before a point is a class, and a target without a point is a method.
use Prim.Native.Nat.{ℕ}
use mathlib.Core.Path.{ap, ◌∙◌}
use mathlib.Core.Bool.{Bool, false, not}
use mathlib.Core.List.{List, [], ◌∷◌}
use lib.ListN.{take}
use Rattle.catalog.specs.View.{library_of}
use Rattle.read_lines.specs.Below.{lines_at}
use Rattle.read_lines.specs.Lower.{lowest}
use Rattle.read_lines.specs.Mentioned.{target_fault}
use Rattle.read_lines.specs.Held.{target_prefixed, target_plain}
use Rattle.read_lines.proofs.Scope.target_fault.Goals as goal

pub returns-then-point-target : goal.returns-then-point-target
returns-then-point-target c =
    let a = c.args in
    let below = lines_at a.self.now.text.now a.self.now.below in
    c.prefixed_fault.ensures
    ∙ ap (λ (w : List ℕ). target_fault (library_of a.self.now.text.now a.self.now.tables.now) below (take c.piece_end-point.result a.target.now ∷ w ∷ [])) c.piece_after-method.ensures
    ∙ target_prefixed a.self.now.text.now a.self.now.tables.now below a.target.now c.piece_end-point.result c.piece_end-point.ensures c.if-point-target.true

pub returns-else-point-target : goal.returns-else-point-target
returns-else-point-target c =
    let a = c.args in
    c.lowest.ensures
    ∙ ap (λ (t : Bool). lowest (not t) false) c.is_own.ensures
    ∙ target_plain a.self.now.text.now a.self.now.tables.now (lines_at a.self.now.text.now a.self.now.below) a.target.now c.piece_end-point.result c.piece_end-point.ensures c.if-point-target.false
