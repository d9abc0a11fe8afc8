-- The state's length, then the number of values, are tested before anything is stored; what is stored is a fresh start.
use native.Mathlib.Omega.{arith}
use Rattle.machine_words.specs.Calls.{lending}
use Rattle.cishmolaq.specs.Start.{start_short, start_other, start_done}
use Rattle.cishmolaq.proofs.start_on.Goals as goal

pub returns-then-state-lt-STATE_WORDS : goal.returns-then-state-lt-STATE_WORDS
returns-then-state-lt-STATE_WORDS c = λ e.
    let a = c.args in
    start_short (lending a.text.now a.state.now a.values.now) a.tables.now e (omega arith)

pub returns-then-values-count : goal.returns-then-values-count
returns-then-values-count c = λ e.
    let a = c.args in
    start_other (lending a.text.now a.state.now a.values.now) a.tables.now e (omega arith) (λ q. omega (arith, c.value_count-count.ensures))

pub returns-else-values-count : goal.returns-else-values-count
returns-else-values-count c = λ e.
    let a = c.args in
    start_done (lending a.text.now a.state.now a.values.now) a.tables.now e (omega (arith, c.if-state-lt-STATE_WORDS))
    (omega (arith, c.if-values-count, c.value_count-count.ensures)) _ _ c.fill.ensures c.install.ensures
