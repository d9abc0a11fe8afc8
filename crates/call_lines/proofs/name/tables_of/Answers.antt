-- `tables_of` meets its contract: a state of fewer words is its own front.
use Prim.Native.Nat.{ℕ}
use mathlib.Core.Path.{ap, ◌∙◌}
use lib.ListN.{take, length}
use Rattle.std.proofs.Math.Nat.{min_comm}
use Rattle.std.proofs.lemmas.List.{take_min}
use Rattle.layout.specs.Layout.{table_words}
use Rattle.call_lines.proofs.name.tables_of.Goals as goal

pub returns : goal.returns
returns c =
    let s = c.args.state.now in
    ap (λ (n : ℕ). take n s) (c.min.ensures ∙ min_comm (length s) table_words) ∙ take_min table_words s
