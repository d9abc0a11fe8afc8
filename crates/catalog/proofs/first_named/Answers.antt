-- `first_named` meets its contract: at each turn no earlier name is the one looked for.
use Prim.Native.Nat.{ℕ, ◌+◌, ◌*◌}
use native.Mathlib.Nat.{suc-mul}
use native.Mathlib.Numerals.{add-one}
use native.Mathlib.Omega.{arith}
use mathlib.Core.Path.{◌≡◌, refl, sym, ap, ◌∙◌}
use lib.ListN.{get_or}
use Rattle.model.specs.Base.{first_at, upto}
use Rattle.laws.specs.Upto.{told, seek_more, seek_here, seek_end}
use Rattle.catalog.specs.Look.{first_named}
use Rattle.catalog.proofs.first_named.Goals as goal
use Rattle.catalog.proofs.first_named.Invariants.{named, word}

pub loop-i-init : goal.loop-i-init
unfolding first_at upto
loop-i-init c = (omega arith, omega arith, omega arith, refl)

pub returns-then-is_named : goal.returns-then-is_named
unfolding first_named
returns-then-is_named c =
    let a = c.args in
    let L = c.loop-i in
    let w = c.get.ensures ∙ ap (λ (i : ℕ). get_or a.tables.now i 0) L.invariant.2 in
    let hit = told (named a.text.now a.name.now) w c.is_named.ensures c.if-is_named.true in
    (sym (seek_here (named a.text.now a.name.now) (word a.tables.now a.from a.step) L.i L.invariant.3 hit a.count (omega arith)), omega arith)

pub loop-i-preserved : goal.loop-i-preserved
loop-i-preserved c =
    let a = c.args in
    let L = c.loop-i in
    let w = c.get.ensures ∙ ap (λ (i : ℕ). get_or a.tables.now i 0) L.invariant.2 in
    let miss = told (named a.text.now a.name.now) w c.is_named.ensures c.if-is_named.false in
    let e = suc-mul L.i a.step in
    let d : (L.i + 1) * a.step ≡ L.i * a.step + a.step = ap (λ (k : ℕ). k * a.step) (add-one L.i) ∙ e in (
      omega arith,
      omega (arith, c.requires),
      omega (arith, d),
      seek_more (named a.text.now a.name.now) (word a.tables.now a.from a.step) L.i L.invariant.3 miss,
    )

pub returns : goal.returns
unfolding first_named
returns c =
    let a = c.args in
    let L = c.loop-i in
    let e = seek_end (named a.text.now a.name.now) (word a.tables.now a.from a.step) L.i L.invariant.3 a.count (omega arith) in
    omega (arith, e)
