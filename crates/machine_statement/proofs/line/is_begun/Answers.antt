-- `is_begun` meets its contract, keyword by keyword.
use borrow.Author.Tests.{not-true, not-false}
use Prim.Native.Nat.{ℕ}
use mathlib.Core.Path.{refl, sym, ap, ◌∙◌}
use mathlib.Core.List.{List}
use Rattle.model.specs.Text.{pieces}
use Rattle.text_lex.specs.Piece.{behind}
use Rattle.text_syntax.specs.Kinds.{is_target}
use Rattle.machine_statement.specs.Actions.{is_to_self}
use Rattle.machine_statement.proofs.line.is_begun.Goals as goal
use mathlib.Core.Bool.{not}

pub returns-then-not-is_to_self : goal.returns-then-not-is_to_self
returns-then-not-is_to_self c =
    let e = c.word_end_after-target in
    let a = c.args in
    let to = c.is_to_self.ensures ∙ ap is_to_self (behind 32 a.line.now a.at e.result e.ensures refl) in
    rw (c.in-Send.is, sym to ∙ not-true c.is_to_self.result (ap not c.if-not-is_to_self.true))

pub returns-else-not-is_to_self : goal.returns-else-not-is_to_self
returns-else-not-is_to_self c =
    let e = c.word_end_after-target in
    let a = c.args in
    let to = c.is_to_self.ensures ∙ ap is_to_self (behind 32 a.line.now a.at e.result e.ensures refl) in
    rw (c.in-Send.is, sym to ∙ not-false c.is_to_self.result (ap not c.if-not-is_to_self.false))
    (c.is_target.ensures ∙ ap (λ (w : List ℕ). is_target (pieces 46 w)) c.word_after-in-Send.ensures)
