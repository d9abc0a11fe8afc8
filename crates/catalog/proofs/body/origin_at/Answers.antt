-- `origin_at` meets its contract: the word of a method's name holds the class that defines it.
use Prim.Native.Nat.{ℕ, ◌/◌}
use mathlib.Core.Path.{ap}
use borrow.Author.Tests.{lt-ltb, le-ltb}
use Rattle.catalog.specs.Bodies.{origin_at}
use Rattle.catalog.proofs.body.origin_at.Goals as goal

pub returns-then-place-shown_count : goal.returns-then-place-shown_count
unfolding origin_at
returns-then-place-shown_count c =
    rw (← c.shown_count.ensures, lt-ltb _ _ c.if-place-shown_count.true) (ap (λ (w : ℕ). w / 1048576) c.member_word.ensures)

pub returns-else-place-shown_count : goal.returns-else-place-shown_count
unfolding origin_at
returns-else-place-shown_count c =
    rw (← c.shown_count.ensures, le-ltb _ _ c.if-place-shown_count.false) c.class_count.ensures
