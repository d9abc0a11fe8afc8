-- Each turn clears the eight words of the lowest mark left, and removes the mark.
use Rattle.std.proofs.Common.{◌≡◌, ℕ, ◌-◌, ◌*◌, ◌%◌, ◌^◌, length, sym, refl, ap, ◌∙◌, arith, rules}
use lib.Count.{count_trailing_zeros}
use Rattle.laws.specs.Bits.{bit, zeros_bit}
use Rattle.machine_undo.specs.Over.{lowest_shifted, lowest_fits}
use Rattle.machine_undo.specs.Unlocked.{less_than, less_length, less_none, less_all, named_less, less_more, unlocked_is}
use Rattle.machine_undo.proofs.release.clear_locks.Goals as goal

pub loop-left-init : goal.loop-left-init
loop-left-init c = (refl, λ d e. e, less_none _ _, search rules)

pub overflow_sub-left : goal.overflow_sub-left
overflow_sub-left c =
    lowest_fits c.loop-left.left c.loop-left.invariant.3 c.loop-left-test.true

pub loop-left-preserved : goal.loop-left-preserved
loop-left-preserved c =
    let left = c.loop-left.left in
    let t = count_trailing_zeros 32 left in
    let O = c.args.row.now in
    let marks = c.get-left.result in
    let here = (zeros_bit 32 left c.loop-left.invariant.3 c.loop-left-test.true).1 in
    let less : left - (1 * 2 ^ t) % 2 ^ 32 ≡ left - 2 ^ t = ap (λ (m : ℕ). left - m) (lowest_shifted left c.loop-left.invariant.3 c.loop-left-test.true) in
    let next = less_more O marks left t here c.loop-left.invariant.1 c.loop-left.row c.clear_eight.new.row c.loop-left.invariant.2 c.clear_eight.ensures in (
      ap length next ∙ less_length O marks (left - 2 ^ t),
      λ d e. named_less O marks left t here c.loop-left.invariant.1 d (ap (λ (m : ℕ). bit m d) (sym less) ∙ e),
      next ∙ ap (less_than O marks) (sym less),
      omega (arith, c.loop-left.invariant.3),
    )

pub returns : goal.returns
returns c =
    let O = c.args.row.now in
    c.loop-left.invariant.2 ∙ ap (less_than O c.get-left.result) c.loop-left-test.false ∙ less_all O c.get-left.result ∙ unlocked_is O c.get-left.result c.get-left.ensures
