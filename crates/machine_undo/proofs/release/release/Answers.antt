-- `release` meets its contract: the locks, then the words before them.
use Rattle.std.proofs.Common.{ℕ, List, ◌++◌, drop, replicate, sym, ap, ◌∙◌, eq-eqb, ne_eqb}
use Rattle.layout.specs.Layout.{shallow_words, object_locks_at}
use Rattle.machine_words.specs.Row.{released}
use Rattle.machine_undo.proofs.release.release.Goals as goal

pub returns-then-calls-eq0 : goal.returns-then-calls-eq0
unfolding released
returns-then-calls-eq0 c =
    rw (eq-eqb _ 0 (sym c.get-calls.ensures ∙ c.if-calls-eq0.true))
    (c.clear_first.ensures ∙ ap (λ (l : List ℕ). replicate shallow_words 0 ++ drop shallow_words l) c.clear_locks.ensures)

pub returns : goal.returns
unfolding released
returns c =
    rw (ne_eqb _ 0 (λ e. c.if-calls-eq0.false (c.get-calls.ensures ∙ e)))
    (c.clear_first-2.ensures ∙ ap (λ (l : List ℕ). replicate object_locks_at 0 ++ drop object_locks_at l) c.clear_locks.ensures)
