-- `read_classes::inherit` meets its contract: at each turn the row, with the parents left joined to it, is what the class inherits.
use Rattle.std.specs.Prelude.{is_err}
use mathlib.Core.Path.{sym, ap, ◌∙◌}
use Rattle.catalog.specs.View.{members_of}
use Rattle.catalog.specs.Frames.{kept_then}
use Rattle.read_classes.proofs.JoinLaws.{inherited_to, inherit_turn, inherit_over, inherit_end}
use Rattle.read_classes.proofs.inherit.Goals as goal

pub returns-in_err-join-clause-row : goal.returns-in_err-join-clause-row
returns-in_err-join-clause-row c =
    let a = c.args in
    let to = inherited_to a.text.now a.tables.now a.class a.kind c.requires (members_of a.text.now c.loop-name.tables a.class a.kind) in
    rw c.from_residual.ensures.0
    (inherit_over a.text.now a.tables.now a.class a.kind c.requires c.loop-name.tables c.loop-name.invariant.kept _ _
    c.class_number-parent.ensures _ _ c.join.ensures.row _ (ap is_err c.in_err-join.was) _
    (sym (ap to c.in-Some.ensures.steps) ∙ c.loop-name.invariant.same))

pub loop-name-preserved : goal.loop-name-preserved
loop-name-preserved c =
    let a = c.args in
    let k = c.loop-name.invariant.kept in
    let to = inherited_to a.text.now a.tables.now a.class a.kind c.requires (members_of a.text.now c.loop-name.tables a.class a.kind) in
    record {
      can = tt;
      ends = tt;
      kept = kept_then k c.join.ensures.row.kept;
      same =
          inherit_turn a.text.now a.tables.now a.class a.kind c.requires c.loop-name.tables k _ _ c.class_number-parent.ensures _ _ c.join.ensures.row _
          (ap is_err c.in_ok-join.was)
          ∙ sym (ap to c.in-Some.ensures.steps) ∙ c.loop-name.invariant.same;
    }

pub returns-clause-row : goal.returns-clause-row
returns-clause-row c =
    let a = c.args in
    inherit_end a.text.now a.tables.now a.class a.kind c.requires c.loop-name.tables c.loop-name.invariant.kept _
    (sym (ap (inherited_to a.text.now a.tables.now a.class a.kind c.requires (members_of a.text.now c.loop-name.tables a.class a.kind)) c.in-None.ensures.steps.0)
    ∙ c.loop-name.invariant.same)
