use mathlib.Core.Path.{◌≡◌}
use lib.ListN.{drop}
use Rattle.model.specs.Base.{every}
use Rattle.model.specs.Word.{is_name_byte}
use Rattle.text_lex.proofs.all_name_bytes.Given as goal

abbrev pub invariant-loop-byte : goal.invariant-loop-byte
invariant-loop-byte l = every is_name_byte (drop l.byte-index l.bytes) ≡ every is_name_byte l.bytes
