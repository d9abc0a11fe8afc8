-- `read_classes::add_method` meets its contract: a method that the class has is replaced, and any other is appended.
use mathlib.Core.Path.{ap}
use native.Mathlib.Omega.{arith}
use Rattle.model.specs.Library.{member_place}
use Rattle.catalog.specs.View.{members_of}
use Rattle.read_classes.proofs.MethodLaws.{place_of}
use Rattle.read_classes.proofs.add_method.Goals as goal

pub returns-in-Some : goal.returns-in-Some
returns-in-Some c =
    let a = c.args in
    c.replace_method.ensures a.text.now (place_of (members_of a.text.now a.tables.now a.class 1) c.in-Some.ensures.0 c.name_of-name.ensures)

pub returns-in-None : goal.returns-in-None
returns-in-None c =
    let a = c.args in
    c.append_method.ensures a.text.now (omega (arith, c.in-None.ensures, ap (member_place (members_of a.text.now a.tables.now a.class 1)) c.name_of-name.ensures))
