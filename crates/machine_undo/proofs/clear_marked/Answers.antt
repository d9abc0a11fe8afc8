-- Each turn clears the note of the lowest mark left, and removes the mark: what the marks left name is still to be cleared.
use Rattle.std.proofs.Common.{◌≡◌, ℕ, ◌+◌, ◌-◌, ◌*◌, ◌%◌, ◌^◌, set, sym, ap, ◌∙◌, arith, length-set}
use lib.Count.{count_trailing_zeros}
use Rattle.laws.specs.Bits.{zeros_bit}
use Rattle.machine_words.specs.Row.{zeroed}
use Rattle.machine_undo.specs.Over.{lowest_shifted, lowest_fits}
use Rattle.machine_undo.specs.Freed.{bit_from, none_left, one_less}
use Rattle.machine_undo.proofs.clear_marked.Goals as goal

pub overflow_sub-left : goal.overflow_sub-left
overflow_sub-left c =
    let L = c.loop-left in
    lowest_fits L.left L.invariant.2 c.loop-left-test.true

pub loop-left-preserved : goal.loop-left-preserved
loop-left-preserved c =
    let L = c.loop-left in
    let first = c.args.first in
    let left = L.left in
    let t = count_trailing_zeros 32 left in
    let less : left - (1 * 2 ^ t) % 2 ^ 32 ≡ left - 2 ^ t = ap (λ (m : ℕ). left - m) (lowest_shifted left L.invariant.2 c.loop-left-test.true) in (
      length-set L.row (first + t) 0 ∙ L.invariant.0,
      ap (λ (m : ℕ). zeroed (bit_from first m) (set L.row (first + t) 0)) less ∙ one_less first L.row left t (zeros_bit 32 left L.invariant.2 c.loop-left-test.true).1 ∙ L.invariant.1,
      omega (arith, L.invariant.2),
    )

pub returns : goal.returns
returns c =
    let L = c.loop-left in
    let first = c.args.first in
    sym (none_left first L.row) ∙ ap (λ (m : ℕ). zeroed (bit_from first m) L.row) (sym c.loop-left-test.false) ∙ L.invariant.1
