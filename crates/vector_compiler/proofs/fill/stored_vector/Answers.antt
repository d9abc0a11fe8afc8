-- `stored_vector` meets its contract: the three words are those at the masks' places.
use Prim.Native.Nat.{ℕ}
use mathlib.Core.Path.{ap, ◌∙◌}
use lib.Bits.{bit_or}
use lib.ListN.{get_or}
use Rattle.catalog.specs.View.{class_word}
use Rattle.vector_compiler.proofs.fill.stored_vector.Goals as goal

pub returns : goal.returns
unfolding class_word
returns c =
    let a = c.args in
    let word : ℕ → ℕ = λ k. get_or a.tables.now k 0 in
    let read = c.get-read.ensures ∙ ap word c.mask_place.ensures in
    let write = c.get-write.ensures ∙ ap word c.mask_place-2.ensures in
    let add = c.get-add.ensures ∙ ap word c.mask_place-3.ensures in
    λ i. record { depends = bit_or (read i) (write i); changes = bit_or (write i) (add i) }
