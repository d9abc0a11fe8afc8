-- `fits` meets its contract, keyword by keyword.
use mathlib.Core.Path.{refl, ◌∙◌}
use Rattle.text_lex.specs.Piece.{at_end}
use Rattle.text_syntax.specs.Kinds.{fits}
use Rattle.text_syntax.proofs.FormLaws.{fits_action}
use Rattle.text_syntax.proofs.form.fits.Goals as goal

pub returns-in-Class : goal.returns-in-Class
unfolding fits
returns-in-Class c = rw c.in-Class.is c.is_class.ensures

pub returns-in-Field : goal.returns-in-Field
unfolding fits
returns-in-Field c = rw c.in-Field.is c.is_named.ensures

pub returns-in-Method : goal.returns-in-Method
unfolding fits
returns-in-Method c = rw c.in-Method.is c.is_named-in-Method.ensures

pub returns-in-End : goal.returns-in-End
unfolding fits
returns-in-End c = let a = c.args in rw c.in-End.is (at_end 32 a.line.now a.at refl)

pub returns-in-Object : goal.returns-in-Object
unfolding fits
returns-in-Object c = rw c.in-Object.is c.is_object.ensures

pub returns-in-When : goal.returns-in-When
unfolding fits
returns-in-When c = rw c.in-When.is c.is_guarded.ensures

pub returns-in_default : goal.returns-in_default
returns-in_default c =
    let d = c.in_default in
    c.makes_action.ensures ∙ fits_action c.args.keyword _ d.not-Class d.not-Field d.not-Method d.not-End d.not-Object d.not-When
