-- `is_ancestor` meets its contract: the bit stands in the last class's word, and without a class there is no bit.
use borrow.Author.Tests.{le-ltb}
use mathlib.Core.Path.{◌∙◌}
use native.Mathlib.Omega.{arith}
use Rattle.read_lines.specs.Held.{ancestor, no_ancestor}
use Rattle.read_lines.proofs.Scope.is_ancestor.Goals as goal

pub returns-then-last-class_count : goal.returns-then-last-class_count
returns-then-last-class_count c =
    let k = c.last_class-last in
    let a = c.args in
    λ text. c.has_bit.ensures ∙ ancestor text a.self.now.tables.now k.result k.ensures a.class (omega (arith, c.if-last-class_count.true, c.class_count.ensures)) c.ancestors.ensures

pub returns-else-last-class_count : goal.returns-else-last-class_count
returns-else-last-class_count c =
    let k = c.last_class-last in
    let a = c.args in
    λ text. le-ltb _ _ c.if-last-class_count.false ∙ no_ancestor text a.self.now.tables.now k.result k.ensures a.class (omega (arith, c.if-last-class_count.false, c.class_count.ensures))
