use Rattle.std.proofs.Common.{◌≡◌, List, ℕ, length, take, drop, ap, ◌∙◌, arith}
use Rattle.layout.specs.Layout.{waiting_at, waiting_words, row_words}
use Rattle.machine_words.specs.Line.{waiting_in}
use Rattle.machine_checks.specs.Lent.{row_size}
use Rattle.machine_checks.proofs.waiting_of.Goals as goal

pub slice_bounds-result-end : goal.slice_bounds-result-end
slice_bounds-result-end c =
    let long : length c.row_of.result.now ≡ row_words = ap length c.row_of.ensures ∙ row_size _ _ c.requires in
    omega (arith, long)

pub returns : goal.returns
unfolding waiting_in
returns c = ap (λ (row : List ℕ). take waiting_words (drop waiting_at row)) c.row_of.ensures
