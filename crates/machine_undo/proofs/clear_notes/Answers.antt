-- Each turn clears the notes of one word of marks, or passes over those of four that are 0.
use Rattle.std.proofs.Common.{◌≡◌, ℕ, ◌+◌, length, get_or, refl, ap, ◌∙◌, arith}
use Rattle.layout.specs.Layout.{marks_at}
use Rattle.machine_words.specs.Row.{unnoted}
use Rattle.machine_words.specs.Cleared.{unnoted_length}
use Rattle.machine_undo.specs.Over.{over, over_length, over_all}
use Rattle.machine_undo.specs.Freed.{word_at, unnoted_begun, passed_over, word_cleared}
use Rattle.machine_undo.proofs.clear_notes.Goals as goal

pub loop-word-init : goal.loop-word-init
loop-word-init c = (omega arith, refl, unnoted_begun c.args.row.now c.requires)

pub loop-word-preserved-then-unmarked : goal.loop-word-preserved-then-unmarked
loop-word-preserved-then-unmarked c =
    let u = c.unmarked.ensures c.if-unmarked.true in
    (u.room, c.loop-word.invariant.1, passed_over c.args.row.now c.requires c.loop-word.row c.loop-word.word (omega arith) c.loop-word.invariant.2 u)

pub loop-word-preserved : goal.loop-word-preserved
loop-word-preserved c =
    let O = c.args.row.now in
    let at = marks_at + c.loop-word.word in
    let e =
    word_cleared O c.requires c.loop-word.row c.loop-word.word (omega arith) c.loop-word.invariant.2 (get_or c.loop-word.row at 0) (omega arith) refl
    c.clear_marked.new.row c.clear_marked.ensures in
    (omega arith, ap length e ∙ over_length (word_at (c.loop-word.word + 1)) (unnoted O) O (unnoted_length O), e)

pub returns : goal.returns
returns c =
    let L = c.loop-word in
    let e : word_at L.word ≡ length c.args.row.now = omega (arith, c.requires, L.invariant.0) in
    L.invariant.2 ∙ ap (λ (i : ℕ). over i (unnoted c.args.row.now) c.args.row.now) e
    ∙ over_all (unnoted c.args.row.now) c.args.row.now (unnoted_length c.args.row.now)
