-- `put_line` meets its contract: its four pieces are the line.
use Prim.Native.Nat.{◌+◌, ◌≤◌}
use mathlib.Core.Path.{ap}
use native.Mathlib.Omega.{arith}
use Rattle.output.specs.Append.{appended_then, appended_as}
use Rattle.image.specs.Cells.{name_from, named_le, vector_le, line_pieces}
use Rattle.image.proofs.method.put_line.Goals as goal
use Rattle.image.proofs.method.put_line.Goals.{After-put_name-at, After-put_name-at-2}

behind_class : (p : After-put_name-at) → p.put_name-at.result ≤ p.args.at + 32
behind_class p =
    omega (arith, p.put_name-at.ensures.behind, named_le p.args.method.now.text.now p.class_word-class.result)

behind-names : (p : After-put_name-at-2)
    → p.put_name-at-2.result ≤ p.args.at + 64
behind-names p =
    let t = p.args.method.now.text.now in
    omega (arith, p.put_name-at-2.ensures.behind, named_le t p.word.result, (let known : p.put_name-at.result ≤ p.args.at + 32 = omega (arith, p.put_name-at.ensures.behind, named_le p.args.method.now.text.now p.class_word-class.result) in known))

pub put_name-at-requires-2 : goal.put_name-at-requires-2
put_name-at-requires-2 c = omega (arith, behind_class (goal.at.put_name-at-requires-2 c).After-put_name-at)

pub put_vector-at-requires : goal.put_vector-at-requires
put_vector-at-requires c = (omega arith, omega (arith, behind-names (goal.at.put_vector-at-requires c).After-put_name-at-2))

pub put_flags-requires : goal.put_flags-requires
put_flags-requires c =
    let a = c.args in
    (c.requires.0, omega (arith, c.requires.1, c.put_vector-at.ensures.behind, vector_le a.method.now.tables.now a.method.now.class a.method.now.place, behind-names (goal.at.put_flags-requires c).After-put_name-at-2))

pub returns : goal.returns
returns c =
    let a = c.args in
    appended_as (line_pieces a.method.now.text.now a.method.now.tables.now a.method.now.class a.method.now.place)
    (appended_then (appended_as (ap (name_from a.method.now.text.now) c.class_word-class.ensures) c.put_name-at.ensures)
    (appended_then (appended_as (ap (name_from a.method.now.text.now) c.word.ensures) c.put_name-at-2.ensures)
    (appended_then c.put_vector-at.ensures c.put_flags.ensures)))
