-- `roll_back_waiting` meets its contract: the lent row is withdrawn and undone, then the line is woken.
use borrow.Author.Rules.{rules}
use Prim.Native.Nat.{ℕ}
use mathlib.Core.Path.{◌≡◌, ap, ◌∙◌}
use mathlib.Core.List.{List}
use Rattle.model.specs.Undo.{put_back}
use Rattle.machine_words.specs.Row.{note_at, freed}
use Rattle.machine_words.specs.Line.{row_of, withdrawn, woken}
use Rattle.machine_checks.specs.Lent.{lent_at, part_at}
use Rattle.machine_calls.proofs.roll_back_waiting.Goals as goal

pub returns : goal.returns
returns c =
    let a = c.args in
    let row : c.withdraw.new.row ≡ withdrawn (row_of a.state.now a.slot) = c.withdraw.ensures ∙ ap withdrawn (part_at _ _ _ _ c.row_range.ensures.0 c.row_range.ensures.1) in (
      c.wake.ensures ∙ ap (woken a.text.now) (lent_at _ _ c.requires _ _ c.row_range.ensures.0 c.row_range.ensures.1 c.roll_back.new.row _ (search rules) (c.roll_back.ensures.0 ∙ ap freed row)),
      c.roll_back.ensures.1 ∙ ap (λ (x : List ℕ). put_back (note_at x) a.values.now) row,
    )
