use Rattle.std.proofs.Common.{replicate, arith, rules}
use Rattle.layout.specs.Layout.{waiting_at, waiting_words}
use Rattle.machine_words.specs.Spans.{lent_sets}
use Rattle.machine_take.proofs.wait.clear_waiting.Goals as goal

pub returns : goal.returns
returns c =
    lent_sets c.args.row.now waiting_at waiting_words (omega (arith, c.requires)) _ (replicate waiting_words 0) (omega (arith, c.fill.ensures.len)) (search rules)
