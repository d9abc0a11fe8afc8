-- `put_bytes` meets its contract: at each turn the first i bytes are in the list.
use Prim.Native.Nat.{ℕ, ◌+◌, ◌≤◌}
use mathlib.Core.Path.{◌≡◌}
use mathlib.Core.List.{List, [], ◌∷◌, ◌++◌}
use native.Mathlib.Numerals.{add-one}
use native.Mathlib.Omega.{arith}
use lib.ListN.{length, take, get_or}
use lib.Seq.{take-suc}
use Rattle.output.specs.Append.{appended_then, appended_as}
use Rattle.output.proofs.put_bytes.Goals as goal

one_more : (bytes : List ℕ) (i : ℕ) → i + 1 ≤ length bytes → take i bytes ++ (get_or bytes i 0 ∷ []) ≡ take (i + 1) bytes
one_more bytes i h = rw (add-one, take-suc bytes i 0 (omega arith))

pub loop-byte-preserved : goal.loop-byte-preserved
loop-byte-preserved c =
    appended_as (one_more c.args.bytes.now c.loop-byte.byte-index (omega arith)) (appended_then c.loop-byte.invariant c.put_byte-end.ensures)
