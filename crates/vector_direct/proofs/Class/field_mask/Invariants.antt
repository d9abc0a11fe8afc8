use mathlib.Core.Path.{◌≡◌}
use Rattle.model.specs.Base.{same, upto}
use Rattle.model.specs.Image.{mask}
use Rattle.vector_direct.specs.Fields.{field_name}
use Rattle.vector_direct.proofs.Class.field_mask.Given as goal

abbrev pub invariant-loop-place : goal.invariant-loop-place
invariant-loop-place l = l.mask ≡ mask (upto (λ j. same (field_name l.self.text.now l.self.tables.now l.self.number j) l.word) l.place)
