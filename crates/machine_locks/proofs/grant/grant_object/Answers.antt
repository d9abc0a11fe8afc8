-- `grant_object` meets its contract: the send starts at once, or is granted as any other.
use mathlib.Core.Path.{refl, sym, ◌∙◌}
use Rattle.machine_words.specs.Calls.{lending, lending_same}
use Rattle.machine_words.specs.Said.{asked}
use Rattle.machine_checks.specs.Phases.{leaves_as}
use Rattle.machine_conflicts.specs.Holders.{at_once_named, at_once_free}
use Rattle.machine_locks.specs.Granted.{starts_there, granted_free, at_once_there}
use Rattle.machine_locks.proofs.grant.grant_object.Goals as goal

pub returns-then-starts_at_once : goal.returns-then-starts_at_once
returns-then-starts_at_once c =
    let a = c.args in
    let once = sym c.starts_at_once.ensures ∙ c.if-starts_at_once.true in
    λ values. leaves_as (starts_there (lending a.text.now a.state.now values) a.slot (asked a.wanted)
    _ refl (at_once_there a.text.now _ (asked a.wanted) c.requires.1 (at_once_named a.state.now (asked a.wanted) once))
    ∙ granted_free (lending a.text.now a.state.now values) a.slot (asked a.wanted)
    (at_once_free a.state.now (asked a.wanted) once a.text.now a.slot c.requires.1.kind_is))
    (record { says = refl; left = lending_same refl (c.take_object.ensures a.text.now) refl })
