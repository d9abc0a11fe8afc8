-- `catalog::member_count` meets its contract: it caps the word that the definition names.
use native.Mathlib.Omega.{arith}
use Rattle.catalog.specs.View.{class_word, member_count}
use Rattle.catalog.proofs.member_count.Goals as goal

pub returns : goal.returns
unfolding member_count class_word
returns c = omega (arith, c.get-count.ensures, c.min.ensures)
