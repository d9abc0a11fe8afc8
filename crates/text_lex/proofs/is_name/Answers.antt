-- `text_lex::is_name` meets its contract: where the word begins well and is short enough, the two remaining tests are the
-- definition's.
use mathlib.Core.Path.{sym}
use mathlib.Core.Bool.{not, ◌&&◌}
use Rattle.model.specs.Word.{is_name}
use Rattle.text_lex.proofs.is_name.Goals as goal

pub returns-then-begins_with_letter-word : goal.returns-then-begins_with_letter-word
unfolding is_name
returns-then-begins_with_letter-word c =
    rw (sym c.begins_with_letter.ensures, c.if-begins_with_letter-word.true) (λ i. c.all_name_bytes.ensures i && not (c.is_reserved.ensures i))

pub returns-else-begins_with_letter-word : goal.returns-else-begins_with_letter-word
unfolding is_name
returns-else-begins_with_letter-word c = rw (sym c.begins_with_letter.ensures, c.if-begins_with_letter-word.false)
