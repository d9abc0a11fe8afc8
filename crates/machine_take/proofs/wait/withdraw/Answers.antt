-- `withdraw` meets its contract: the words are cleared, then the phase is set.
use mathlib.Core.Path.{ap}
use mathlib.Core.List.{List}
use Prim.Native.Nat.{ℕ}
use lib.ListN.{set}
use Rattle.layout.specs.Layout.{phase_at}
use Rattle.machine_words.specs.Line.{withdrawn}
use Rattle.machine_take.proofs.wait.withdraw.Goals as goal

pub returns : goal.returns
unfolding withdrawn
returns c = ap (λ (l : List ℕ). set l phase_at 1) c.clear_waiting.ensures
