-- `take_line` meets its contract, kind by kind: the contract of each line function is what its kind requires.
use Rattle.std.specs.Prelude.{Option, Some}
use Rattle.refusals.specs.Numbers.{fault_in}
use Prim.Native.Nat.{ℕ}
use mathlib.Core.Path.{◌≡◌, refl, sym, ap, ◌∙◌}
use mathlib.Core.List.{List}
use Rattle.text_syntax.specs.declared.form.Kind.{Kind}
use Rattle.text_syntax.specs.Kinds.{said}
use Rattle.reader.specs.Judging.{Promised, LineTook, by_kind}
use Rattle.reader.proofs.take_line.Goals as goal
use Rattle.reader.proofs.take_line.Goals.{After-kind_of}

module _ (c : After-kind_of) (k : Option Kind) (e : c.kind_of.result ≡ k) (r : ℕ) (ws : List ℕ) where
  took : let a = c.args in
      Promised a.text.now a.tables.now a.at a.end r ws (said k) → LineTook a.text.now a.tables.now a.at a.end r ws
  took = let a = c.args in by_kind a.text.now a.tables.now a.at a.end r ws (said k) (sym (ap said e) ∙ c.kind_of.ensures)

pub returns-in-Some-Class : goal.returns-in-Some-Class
returns-in-Some-Class c =
    let s = c.in-Some-Class in
    took (goal.at.returns-in-Some-Class c).After-kind_of _ (s.is ∙ ap Some s.field-0-is) (fault_in c.class_line.result) c.class_line.new.tables c.class_line.ensures

pub returns-in-Some-Field : goal.returns-in-Some-Field
returns-in-Some-Field c =
    let s = c.in-Some-Field in
    took (goal.at.returns-in-Some-Field c).After-kind_of _ (s.is ∙ ap Some s.field-0-is) (fault_in c.field_line.result) c.field_line.new.tables c.field_line.ensures

pub returns-in-Some-Method : goal.returns-in-Some-Method
returns-in-Some-Method c =
    let s = c.in-Some-Method in
    took (goal.at.returns-in-Some-Method c).After-kind_of _ (s.is ∙ ap Some s.field-0-is) (fault_in c.method_line.result) c.method_line.new.tables c.method_line.ensures

pub returns-in-Some-Statement : goal.returns-in-Some-Statement
returns-in-Some-Statement c =
    let s = c.in-Some-Statement in
    took (goal.at.returns-in-Some-Statement c).After-kind_of _ (s.is ∙ ap Some s.field-0-is) (fault_in c.statement_line.result) c.statement_line.new.tables c.statement_line.ensures

pub returns-in-Some-Object : goal.returns-in-Some-Object
returns-in-Some-Object c =
    let s = c.in-Some-Object in
    took (goal.at.returns-in-Some-Object c).After-kind_of _ (s.is ∙ ap Some s.field-0-is) (fault_in c.object_line.result) c.object_line.new.tables c.object_line.ensures

pub returns-in-Some-End : goal.returns-in-Some-End
returns-in-Some-End c =
    let s = c.in-Some-End in
    took (goal.at.returns-in-Some-End c).After-kind_of _ (s.is ∙ ap Some s.field-0-is) 0 _ (refl, refl)

pub returns-in-None : goal.returns-in-None
returns-in-None c = took (goal.at.returns-in-None c).After-kind_of _ c.in-None.is 0 _ (refl, refl)
