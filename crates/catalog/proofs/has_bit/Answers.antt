-- `has_bit` meets its contract: a shift divides by a power of two, and a shift past 32 bits leaves nothing of a word.
use mathlib.Core.Path.{refl, sym}
use Rattle.laws.specs.Bits.{bit, bit_past}
use Rattle.catalog.proofs.has_bit.Goals as goal

pub returns-then-place-lt32 : goal.returns-then-place-lt32
unfolding bit
returns-then-place-lt32 c = refl

pub returns-else-place-lt32 : goal.returns-else-place-lt32
returns-else-place-lt32 c = sym (bit_past c.args.mask c.args.place c.ranges.mask.fits c.if-place-lt32.false)
