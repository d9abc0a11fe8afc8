use mathlib.Core.Path.{◌≡◌}
use Rattle.model.specs.Base.{upto}
use Rattle.model.specs.Library.{joined}
use Rattle.catalog.specs.View.{member_at, members_of}
use Rattle.catalog.specs.Frames.{Kept}
use Rattle.read_classes.proofs.join.Given as goal

abbrev pub invariant-loop-j : goal.invariant-loop-j
invariant-loop-j l = Kept l.initial.tables l.class l.kind l.tables × (members_of l.text l.tables l.class l.kind ≡ joined (members_of l.text l.initial.tables l.class l.kind) (upto (member_at l.text l.initial.tables l.parent l.kind) l.j))
