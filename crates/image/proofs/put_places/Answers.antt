-- `put_places` meets its contract: at each turn the places of the statements before are written.
use Prim.Native.Nat.{ℕ}
use mathlib.Core.Path.{◌≡◌, ap}
use mathlib.Core.List.{flat_map}
use native.Mathlib.Omega.{arith}
use Rattle.catalog.specs.View.{statement_word, statement_count}
use Rattle.output.specs.Each.{numbers, each_le}
use Rattle.image.specs.Written.{place_bytes, places_from}
use Rattle.output.specs.Append.{appended_as, each_first, each_next}
use Rattle.image.proofs.put_places.Goals as goal
use Rattle.image.proofs.put_places.Invariants.{place_at}

pub loop-statement-init : goal.loop-statement-init
loop-statement-init c = each_first _ _ _

pub put_pair-end-requires : goal.put_pair-end-requires
put_pair-end-requires c =
    let ws = c.args.tables.now in
    omega (arith, c.statement_count-count.ensures, c.loop-statement.invariant.behind, each_le 8 (place_at ws) c.loop-statement.statement (λ s. omega arith))

pub loop-statement-preserved : goal.loop-statement-preserved
unfolding statement_word
loop-statement-preserved c =
    each_next _ c.loop-statement.statement c.loop-statement.invariant (appended_as (ap place_bytes c.get-word.ensures) c.put_pair-end.ensures)

pub returns : goal.returns
unfolding places_from
returns c =
    let ws = c.args.tables.now in
    let e : c.loop-statement.statement ≡ statement_count ws = omega (arith, c.statement_count-count.ensures) in
    appended_as (ap (λ (n : ℕ). flat_map (place_at ws) (numbers n)) e) c.loop-statement.invariant
