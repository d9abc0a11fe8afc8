use Rattle.std.proofs.Common.{◌*◌, replicate, ◌∙◌, arith, rules}
use Rattle.machine_words.specs.Spans.{lent_sets}
use Rattle.machine_undo.specs.Unlocked.{eight_cleared}
use Rattle.machine_undo.proofs.release.clear_eight.Goals as goal

pub returns : goal.returns
returns c =
    let row = c.args.row.now in
    let b = c.args.eight in
    lent_sets row (b * 8) 8 (omega (arith, c.requires.0, c.requires.1)) _ (replicate 8 0) (omega (arith, c.fill.ensures.len)) (search rules) ∙ eight_cleared row c.requires.0 b c.requires.1
