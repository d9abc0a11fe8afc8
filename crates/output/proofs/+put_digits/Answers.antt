-- `put_digits` meets its contract: the digits of a tenth, then the last one.
use Prim.Native.Nat.{◌-◌, ◌/◌}
use native.Mathlib.Omega.{arith}
use Rattle.output.specs.Append.{appended_none, appended_then, appended_as}
use Rattle.output.specs.Digits.{digits_none, digits_last, digits_more, digits_le}
use Rattle.output.proofs.+put_digits.Goals as goal

pub returns-then-most-eq0 : goal.returns-then-most-eq0
returns-then-most-eq0 t c =
    let a = c.args in
    appended_as (digits_none a.most a.number c.if-most-eq0.true) (appended_none a.out.now a.at)

pub returns-then-number-lt10 : goal.returns-then-number-lt10
returns-then-number-lt10 t c =
    let a = c.args in
    appended_as (digits_last a.most a.number c.if-most-eq0.false c.if-number-lt10.true) c.put_byte.ensures

pub put_byte-requires-2 : goal.put_byte-requires-2
put_byte-requires-2 t c =
    let a = c.args in
    omega (arith, c.put_digits-at.ensures.behind, digits_le (a.most - 1) (a.number / 10))

pub returns : goal.returns
returns t c =
    let a = c.args in
    appended_as (digits_more a.most a.number c.if-most-eq0.false c.if-number-lt10.false)
    (appended_then c.put_digits-at.ensures c.put_byte-2.ensures)
