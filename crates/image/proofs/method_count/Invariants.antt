use mathlib.Core.Path.{◌≡◌}
use Rattle.catalog.specs.View.{member_count}
use Rattle.output.specs.Each.{total}
use Rattle.image.proofs.method_count.Given as goal

abbrev pub invariant-loop-class : goal.invariant-loop-class
invariant-loop-class l =
    l.count ≡ total (λ c. member_count l.tables c 1) l.class
