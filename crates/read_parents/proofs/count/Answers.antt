-- `read_parents::count` meets its contract: no line has more words than bytes, so their number fits.
use Rattle.std.proofs.Common.{arith, ap, inl, length, List, ℕ}
use Rattle.read_parents.proofs.Loops.{words_few}
use Rattle.read_parents.proofs.count.Goals as goal

pub count-requires-clause-fits : goal.count-requires-clause-fits
count-requires-clause-fits c = inl (omega (arith, ap (length {A = List ℕ}) c.words_after.ensures, words_few c.args.names.now))
