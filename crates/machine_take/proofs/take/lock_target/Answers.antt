-- `lock_target` meets its contract: an object's lock is held on the object and on its class, a class's on the class.
use borrow.Author.Tests.{ne_eqb}
use Prim.Native.Nat.{ℕ, ◌+◌}
use mathlib.Core.Path.{ap, ap₂, ◌∙◌}
use mathlib.Core.List.{List}
use Rattle.layout.specs.Layout.{object_locks_at, class_locks_at, whole_locks_at}
use Rattle.machine_words.specs.Row.{with_bits}
use Rattle.machine_words.specs.Said.{asked}
use Rattle.machine_take.specs.Locking.{locked_target, object_locked}
use Rattle.machine_take.proofs.take.lock_target.Goals as goal

pub returns-then-wanted-eq-OBJECT_KIND : goal.returns-then-wanted-eq-OBJECT_KIND
returns-then-wanted-eq-OBJECT_KIND c =
    let g = c.args in
    let q = asked g.wanted in
    c.add_lock-then-wanted-eq-OBJECT_KIND.ensures
    ∙ ap₂ (λ (l : List ℕ) (n : ℕ). with_bits l (class_locks_at + q.class) n)
    (c.add_lock.ensures ∙ ap (with_bits g.row.now (object_locks_at + q.number)) c.place_bit-bits.ensures)
    c.place_bit-bits.ensures
    ∙ object_locked q g.row.now c.if-wanted-eq-OBJECT_KIND.true

pub returns : goal.returns
unfolding locked_target
returns c =
    let g = c.args in
    rw (ne_eqb _ 0 c.if-wanted-eq-OBJECT_KIND.false) (c.add_lock-2.ensures ∙ ap (with_bits g.row.now (whole_locks_at + g.wanted.class)) c.place_bit-bits.ensures)
