-- `put_letters` meets its contract: its two branches are the two cases of the definition.
use Rattle.output.specs.Append.{appended_as}
use Rattle.image.specs.Cells.{letters_marked}
use Rattle.image.proofs.method.put_letters.Goals as goal

pub returns : goal.returns
returns c =
    let a = c.args in
    appended_as (letters_marked a.read a.write a.add a.fields c.if-fields-eq0.false) c.put_marks.ensures
