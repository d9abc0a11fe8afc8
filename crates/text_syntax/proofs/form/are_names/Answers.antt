-- `are_names` meets its contract: something follows `at`, and each word of it is a name.
use mathlib.Core.Path.{refl, ap}
use mathlib.Core.Bool.{not}
use Rattle.text_lex.specs.Tests.{◌and◌}
use Rattle.text_lex.specs.Piece.{at_end}
use Rattle.text_syntax.specs.Kinds.{are_names}
use Rattle.text_syntax.proofs.form.are_names.Goals as goal

pub returns : goal.returns
unfolding are_names
returns c =
    let a = c.args in
    ap not (at_end 32 a.line.now a.at refl) and c.all_names.ensures
