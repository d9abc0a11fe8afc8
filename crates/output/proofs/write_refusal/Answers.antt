-- `write_refusal` meets its contract: its five pieces are the line.
use Prim.Native.Nat.{◌≤◌}
use native.Mathlib.Omega.{arith}
use Rattle.model.specs.Tables.{refusal_printed}
use Rattle.output.specs.Append.{appended_then, appended_printed}
use Rattle.output.specs.Digits.{digits_le}
use Rattle.output.proofs.write_refusal.Goals as goal
use Rattle.output.proofs.write_refusal.Goals.{After-put_byte-at, After-put_digits-at}

behind-number : (c : After-put_digits-at) → c.put_digits-at.result ≤ 18
behind-number c =
    omega (arith, c.put_bytes-at.ensures.behind, c.put_digits-at.ensures.behind, digits_le 10 c.args.number)

behind-space : (c : After-put_byte-at) → c.put_byte-at.result ≤ 19
behind-space c = omega (arith, c.put_byte-at.ensures.behind, (let known : c.put_digits-at.result ≤ 18 = omega (arith, c.put_bytes-at.ensures.behind, c.put_digits-at.ensures.behind, digits_le 10 c.args.number) in known))

pub put_byte-at-requires : goal.put_byte-at-requires
put_byte-at-requires c = omega (arith, behind-number (goal.at.put_byte-at-requires c).After-put_digits-at)

pub put_digits-at-requires-2 : goal.put_digits-at-requires-2
put_digits-at-requires-2 c = omega (arith, behind-space (goal.at.put_digits-at-requires-2 c).After-put_byte-at)

pub put_byte-requires : goal.put_byte-requires
put_byte-requires c =
    let a = c.args in
    omega (arith, c.put_digits-at-2.ensures.behind, digits_le 10 a.line, behind-space (goal.at.put_byte-requires c).After-put_byte-at)

pub returns : goal.returns
unfolding refusal_printed
returns c =
    appended_printed
    (appended_then
    (appended_then (appended_then (appended_then c.put_bytes-at.ensures c.put_digits-at.ensures) c.put_byte-at.ensures) c.put_digits-at-2.ensures)
    c.put_byte.ensures)
