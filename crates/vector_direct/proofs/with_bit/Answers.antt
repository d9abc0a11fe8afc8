-- `with_bit` meets its contract: the bit that is set is the power of two, and none is set where the test fails.
use Prim.Native.Nat.{◌%◌}
use Rattle.vector_direct.specs.Masks.{bit_out}
use Rattle.vector_direct.proofs.with_bit.Goals as goal

pub returns-else-test : goal.returns-else-test
returns-else-test c = let a = c.args in bit_out a.mask (a.place % 32) a.test c.if-test.false
