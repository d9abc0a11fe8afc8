-- `put_vector` meets its contract: the letters of the masks that are read, then the space.
use Prim.Native.Nat.{◌≤◌}
use native.Mathlib.Omega.{arith}
use Rattle.image.specs.Written.{letters_from, method_letters}
use Rattle.output.specs.Append.{appended_then, appended_as}
use Rattle.image.specs.Cells.{members_le, letters_le}
use Rattle.image.proofs.method.put_vector.Goals as goal
use Rattle.image.proofs.method.put_vector.Goals.{After-member_count-fields}

few : (m : After-member_count-fields) → m.member_count-fields.result ≤ 32
few m =
    let a = m.args in
    omega (arith, m.member_count-fields.ensures, members_le a.method.now.tables.now a.method.now.class 0)

pub put_letters-at-requires : goal.put_letters-at-requires
put_letters-at-requires c = (few (goal.at.put_letters-at-requires c).After-member_count-fields, omega arith)

pub put_byte-requires : goal.put_byte-requires
put_byte-requires c =
    omega (arith, c.put_letters-at.ensures.behind, letters_le c.word-read.result c.word-write.result c.word-add.result c.member_count-fields.result (few (goal.at.put_byte-requires c).After-member_count-fields))

pub returns : goal.returns
unfolding method_letters
returns c =
    appended_then
    (appended_as (λ i. letters_from (c.word-read.ensures i) (c.word-write.ensures i) (c.word-add.ensures i) (c.member_count-fields.ensures i)) c.put_letters-at.ensures)
    c.put_byte.ensures
