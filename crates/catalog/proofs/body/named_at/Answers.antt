-- `named_at` meets its contract: it tests the word of the name at that place, if the class shows one there.
use Rattle.catalog.specs.Bodies.{named_none, named_there}
use Rattle.catalog.proofs.body.named_at.Goals as goal

pub returns-then-shown_count-place : goal.returns-then-shown_count-place
returns-then-shown_count-place c = named_none _ _ _ _ _ c.shown_count.ensures c.if-shown_count-place.true

pub returns : goal.returns
returns c = named_there _ _ _ _ _ c.shown_count.ensures c.if-shown_count-place.false _ c.member_word.ensures
