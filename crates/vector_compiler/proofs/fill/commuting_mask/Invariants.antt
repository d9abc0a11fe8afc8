use mathlib.Core.Path.{◌≡◌}
use Rattle.model.specs.Base.{upto}
use Rattle.model.specs.Image.{mask}
use Rattle.vector_commute.specs.Commuting.{apart}
use Rattle.vector_compiler.specs.Filling.{stored}
use Rattle.vector_compiler.proofs.fill.commuting_mask.Given as goal

abbrev pub invariant-loop-other : goal.invariant-loop-other
invariant-loop-other l =
    l.mask ≡ mask (upto (λ k. apart (stored l.tables l.class l.method) (stored l.tables l.class k)) l.other)
