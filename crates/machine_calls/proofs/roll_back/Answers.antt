-- `roll_back` meets its contract: the lent row is undone, then the line is woken.
use borrow.Author.Rules.{rules}
use Prim.Native.Nat.{ℕ}
use mathlib.Core.Path.{ap, ◌∙◌}
use mathlib.Core.List.{List}
use Rattle.model.specs.Undo.{put_back}
use Rattle.machine_words.specs.Row.{note_at, freed}
use Rattle.machine_words.specs.Line.{woken}
use Rattle.machine_checks.specs.Lent.{lent_at, part_at}
use Rattle.machine_calls.proofs.roll_back.Goals as goal

pub returns : goal.returns
returns c = (
  c.wake.ensures
      ∙ ap (woken c.args.text.now) (lent_at _ _ c.requires _ _ c.row_range.ensures.0 c.row_range.ensures.1 c.roll_back.new.row _ (search rules) (c.roll_back.ensures.0 ∙ ap freed (part_at _ _ _ _ c.row_range.ensures.0 c.row_range.ensures.1))),
  c.roll_back.ensures.1 ∙ ap (λ (row : List ℕ). put_back (note_at row) c.args.values.now) (part_at _ _ _ _ c.row_range.ensures.0 c.row_range.ensures.1),
)
