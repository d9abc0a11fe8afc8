-- `new` meets its contract: what keeps nothing keeps nothing wrong.
use mathlib.Core.Path.{refl}
use Rattle.vector_compiler.specs.Memo.{memory_none}
use Rattle.vector_compiler.proofs.memo.Memo.new.Goals as goal

pub returns : goal.returns
returns c = λ text tables class. memory_none text tables class _ refl refl
