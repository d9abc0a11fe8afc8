-- `put_number` meets its contract: digits, then LF.
use native.Mathlib.Omega.{arith}
use Rattle.output.specs.Append.{appended_then}
use Rattle.output.specs.Digits.{digits_le}
use Rattle.call_lines.proofs.answer.put_number.Goals as goal

pub put_bytes-requires : goal.put_bytes-requires
put_bytes-requires c = omega (arith, c.put_digits-end.ensures.behind, digits_le 10 c.args.number)

pub returns : goal.returns
returns c = appended_then c.put_digits-end.ensures c.put_bytes.ensures
