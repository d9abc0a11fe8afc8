-- `look` meets its contract, kind by kind; a method line's name follows its first word.
use Rattle.std.specs.Bool.{then_some}
use Rattle.std.specs.Prelude.{Some}
use mathlib.Core.Path.{◌≡◌, refl, sym, ap, ◌∙◌}
use mathlib.Core.Bool.{Bool, true, false}
use Rattle.model.specs.Base.{same, digit}
use Rattle.text_syntax.specs.Kinds.{said}
use Rattle.read_lines.specs.Below.{seen}
use Rattle.read_lines.specs.Spelled.{method_look}
use Rattle.read_lines.proofs.look.Goals as goal

-- A method line decides where it has the name.
named : (t : Bool) → seen (then_some t true) ≡ digit t
named true = refl
named false = refl

pub returns-in-Some-Method : goal.returns-in-Some-Method
returns-in-Some-Method c =
    let a = c.args in
    ap seen c.then_some.ensures
    ∙ named c.same.result
    ∙ ap digit (c.same.ensures ∙ ap (same a.method.now) c.word_after.ensures)
    ∙ method_look a.line.now c.word_end.result c.word_end.ensures a.method.now (sym c.kind_of.ensures ∙ ap said (c.in-Some-Method.is ∙ ap Some c.in-Some-Method.field-0-is))
