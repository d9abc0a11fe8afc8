-- `close` meets its contract: where no value was set the row is released; else the notes and then the first words are cleared.
use Rattle.std.proofs.Common.{ℕ, List, ◌++◌, drop, replicate, sym, ap, ◌∙◌, eq-eqb, ne_eqb}
use Rattle.layout.specs.Layout.{waiting_at}
use Rattle.machine_words.specs.Row.{freed}
use Rattle.machine_undo.proofs.release.close.Goals as goal

pub returns-then-get-eq0 : goal.returns-then-get-eq0
unfolding freed
returns-then-get-eq0 c =
    rw (eq-eqb _ 0 (sym c.get.ensures ∙ c.if-get-eq0.true)) c.release.ensures

pub returns : goal.returns
unfolding freed
returns c =
    rw (ne_eqb _ 0 (λ e. c.if-get-eq0.false (c.get.ensures ∙ e)))
    (c.clear_first.ensures ∙ ap (λ (l : List ℕ). replicate waiting_at 0 ++ drop waiting_at l) c.clear_notes.ensures)
