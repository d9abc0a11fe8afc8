-- `arrive` meets its contract: the send starts; or closes a circle; or joins the line, and answers with the lowest bit of the mask.
use Prim.Native.Nat.{ℕ, suc}
use native.Mathlib.Omega.{arith}
use mathlib.Core.Path.{refl, sym, ap, ◌∙◌}
use mathlib.Core.Bool.{true, false}
use mathlib.Core.List.{List}
use lib.ListN.{set}
use Rattle.layout.specs.Layout.{line_at}
use Rattle.machine_words.specs.Line.{with_place, with_row, waiting_row, tables_of, row_of}
use Rattle.machine_words.specs.Calls.{lending_same}
use Rattle.machine_checks.specs.Phases.{leaves_as}
use Rattle.machine_conflicts.specs.Ahead.{count_le}
use Rattle.machine_checks.specs.Told.{leaves_refused}
use Rattle.refusals.specs.declared.Refusal.TheVariants.{Misfit, Circle}
use Rattle.machine_locks.specs.Granted.{arrives_free, arrives_full, arrives_last}
use Rattle.machine_words.specs.Said.{asked}
use Rattle.machine_locks.proofs.grant.arrive.Goals as goal

pub clashing-mask-requires : goal.clashing-mask-requires
clashing-mask-requires c =
    (c.requires.0, omega (arith, c.waiting_count-count.ensures, count_le c.args.state.now))

pub returns-then-mask-eq0 : goal.returns-then-mask-eq0
returns-then-mask-eq0 c =
    λ values. leaves_as (arrives_free _ _ _ _ _ c.waiting_count-count.ensures c.clashing-mask.ensures c.if-mask-eq0.true) (c.start_send.ensures values)

pub returns-then-closes_circle : goal.returns-then-closes_circle
returns-then-closes_circle c =
    let b = sym c.if-closes_circle.true ∙ c.closes_circle.ensures in
    λ values. leaves_as (arrives_last _ _ _ _ _ c.waiting_count-count.ensures c.clashing-mask.ensures c.if-mask-eq0.false c.if-count-lt-SLOTS.true true b)
    (leaves_refused _ Circle)

pub returns-then-count-lt-SLOTS : goal.returns-then-count-lt-SLOTS
returns-then-count-lt-SLOTS c =
    let a = c.args in
    let row : List ℕ = waiting_row a.text.now (tables_of a.state.now) (asked a.wanted) (row_of a.state.now a.slot) in
    let b = sym c.if-closes_circle.false ∙ c.closes_circle.ensures in
    λ values. leaves_as (arrives_last _ _ _ _ _ c.waiting_count-count.ensures c.clashing-mask.ensures c.if-mask-eq0.false c.if-count-lt-SLOTS.true false b)
    (record {
      says = refl;
      left = lending_same refl
          (c.join.ensures ∙ ap (λ (x : ℕ). set (with_place (with_row a.state.now a.slot row) x a.slot) line_at (suc x)) c.waiting_count-count.ensures) refl;
    })

pub returns : goal.returns
returns c =
    λ values. leaves_as (arrives_full _ _ _ _ _ c.waiting_count-count.ensures c.clashing-mask.ensures c.if-mask-eq0.false c.if-count-lt-SLOTS.false)
    (leaves_refused _ Misfit)
