-- `place_bit` meets its contract: a shift of 1 by less than 32 is the power of two.
use borrow.Author.Tests.{le-ltb}
use mathlib.Core.Path.{sym, ◌∙◌}
use Rattle.machine_undo.specs.Over.{one_shifted}
use Rattle.machine_take.specs.Locking.{place_bit, place_bit_law}
use Rattle.machine_take.proofs.take.place_bit.Goals as goal

pub returns-then-place-lt32 : goal.returns-then-place-lt32
returns-then-place-lt32 c =
    let k = c.args.place in
    one_shifted k c.if-place-lt32.true ∙ sym (place_bit_law k c.if-place-lt32.true)

pub returns-else-place-lt32 : goal.returns-else-place-lt32
unfolding place_bit
returns-else-place-lt32 c = rw (le-ltb _ 32 c.if-place-lt32.false)
