-- `body_at` meets its contract: the body at the place, or by the name.
use Rattle.catalog.specs.Bodies.{by_place, by_name}
use Rattle.catalog.proofs.body.body_at.Goals as goal

pub returns-then-named_at : goal.returns-then-named_at
returns-then-named_at c = by_place _ _ _ _ _ _ c.named_at.ensures c.if-named_at.true _ (c.body_of.ensures _)

pub returns-else-named_at : goal.returns-else-named_at
returns-else-named_at c =
    by_name _ _ _ _ _ _ c.named_at.ensures c.if-named_at.false _ c.name_of.ensures _ c.body_in.ensures
