-- `put_flags` meets its contract: the marks of the mask that is read, then the line feed.
use Prim.Native.Nat.{◌≤◌}
use mathlib.Core.Path.{◌∙◌}
use mathlib.Core.List.{map}
use native.Mathlib.Omega.{arith}
use Rattle.model.specs.Base.{bytes}
use Rattle.model.specs.Tables.{yes_or_no}
use Rattle.laws.specs.Bits.{bit}
use Rattle.laws.specs.Upto.{length_upto}
use Rattle.output.specs.Each.{numbers}
use Rattle.output.specs.Append.{appended_then, appended_as}
use Rattle.image.specs.Cells.{mark_of, flags_marked, members_le}
use Rattle.image.proofs.method.put_flags.Goals as goal
use Rattle.image.proofs.method.put_flags.Goals.{After-member_count-methods}

few : (m : After-member_count-methods) → m.member_count-methods.result ≤ 32
few m =
    let a = m.args in
    omega (arith, m.member_count-methods.ensures, members_le a.method.now.tables.now a.method.now.class 1)

pub put_marks-at-requires : goal.put_marks-at-requires
put_marks-at-requires c = (few (goal.at.put_marks-at-requires c).After-member_count-methods, omega arith)

pub put_byte-requires : goal.put_byte-requires
put_byte-requires c =
    let mask = c.word-mask.result in
    omega (arith, c.put_marks-at.ensures.behind, length_upto (mark_of mask mask mask (bytes "ynnn")) c.member_count-methods.result, few (goal.at.put_byte-requires c).After-member_count-methods)

pub returns : goal.returns
returns c =
    appended_then
    (appended_as
    (flags_marked c.word-mask.result c.member_count-methods.result
    ∙ (λ i. map (λ k. yes_or_no (bit (c.word-mask.ensures i) k)) (numbers (c.member_count-methods.ensures i))))
    c.put_marks-at.ensures)
    c.put_byte.ensures
