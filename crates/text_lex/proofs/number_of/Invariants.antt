use Prim.Native.Nat.{◌≤◌}
use mathlib.Core.Path.{◌≡◌}
use lib.ListN.{drop}
use Rattle.model.specs.Base.{every}
use Rattle.model.specs.Word.{is_digit, decimal}
use Rattle.text_lex.proofs.number_of.Given as goal

abbrev pub invariant-loop-byte : goal.invariant-loop-byte
invariant-loop-byte l = record {
  fits : l.n ≤ 4294967295;
  value : decimal l.n (drop l.byte-index l.word) ≡ decimal 0 l.word;
  digits : every is_digit (drop l.byte-index l.word) ≡ every is_digit l.word;
}
