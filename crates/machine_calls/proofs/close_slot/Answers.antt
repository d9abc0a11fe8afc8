-- `close_slot` meets its contract: where nobody waits, the cleared row is all.
use borrow.Author.Rules.{rules}
use mathlib.Core.Path.{◌≡◌, sym, ap, ◌∙◌}
use lib.ListN.{length}
use Rattle.layout.specs.Layout.{row_words}
use Rattle.machine_words.specs.Row.{freed}
use Rattle.machine_words.specs.Calls.{row_of}
use Rattle.machine_words.specs.Rows.{with_count}
use Rattle.machine_checks.specs.Lent.{lent_at, part_at}
use Rattle.machine_locks.specs.Woken.{wakes_nobody}
use Rattle.machine_calls.proofs.close_slot.Goals as goal

pub returns : goal.returns
returns c =
    let row = row_of c.args.state.now c.args.slot in
    let is : c.close.new.row ≡ freed row = c.close.ensures ∙ ap freed (part_at _ _ _ _ c.row_range.ensures.0 c.row_range.ensures.1) in
    let size : length c.close.new.row ≡ row_words = search rules in
    lent_at _ _ c.requires _ _ c.row_range.ensures.0 c.row_range.ensures.1 c.close.new.row (freed row) size is
    ∙ wakes_nobody _ _ _ (c.waiting_count.ensures ∙ sym (with_count _ c.requires.long _ c.requires.slot (freed row) (sym (ap length is) ∙ size))) c.if-waiting_count-ne0.false
