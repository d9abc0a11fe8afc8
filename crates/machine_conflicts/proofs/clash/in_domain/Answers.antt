-- `in_domain` meets its contract: the class's bit of the target's domain.
use Prim.Native.Nat.{ℕ}
use mathlib.Core.Path.{ap, ◌∙◌}
use Rattle.laws.specs.Bits.{bit}
use Rattle.machine_words.specs.Request.{in_domain}
use Rattle.machine_conflicts.proofs.clash.in_domain.Goals as goal

pub returns : goal.returns
unfolding in_domain
returns c =
    let a = c.args in
    c.has_bit.ensures ∙ ap (λ (m : ℕ). bit m a.class) c.domain.ensures
