-- `receiver_named` meets its contract: the names are looked up by the keyword.
use mathlib.Core.Path.{sym, ◌∙◌}
use Rattle.call_lines.specs.Names.{finds_object, finds_class, finds_domain}
use Rattle.call_lines.proofs.name.receiver_named.Goals as goal

pub returns-then-same : goal.returns-then-same
returns-then-same c =
    let a = c.args in
    finds_object a.text.now a.state.now a.keyword.now a.name.now _ _ (sym c.same.ensures ∙ c.if-same.true) c.object_named-object.ensures c.class_of_number-class.ensures

pub returns-then-same-2 : goal.returns-then-same-2
returns-then-same-2 c =
    let a = c.args in
    finds_class a.text.now a.state.now a.keyword.now a.name.now (sym c.same.ensures ∙ c.if-same.false) _ c.class_named-class.ensures
    (sym c.same-2.ensures ∙ c.if-same-2.true)

pub returns-then-same-3 : goal.returns-then-same-3
returns-then-same-3 c =
    let a = c.args in
    finds_domain a.text.now a.state.now a.keyword.now a.name.now (sym c.same.ensures ∙ c.if-same.false) _ c.class_named-class-then-same-3.ensures
    (sym c.same-2.ensures ∙ c.if-same-2.false) (sym c.same-3.ensures ∙ c.if-same-3.true)
