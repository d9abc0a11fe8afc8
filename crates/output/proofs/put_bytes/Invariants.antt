use lib.ListN.{take}
use Rattle.output.specs.Append.{Appended}
use Rattle.output.proofs.put_bytes.Given as goal

abbrev pub invariant-loop-byte : goal.invariant-loop-byte
invariant-loop-byte l = Appended (take l.byte-index l.bytes) l.initial.out l.at l.end l.out
