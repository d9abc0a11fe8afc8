-- `read_parents::parent_fault` meets its contract: its tests are those of the definition, in the order of the numbers.
use mathlib.Core.Path.{◌≡◌, refl, sym, ◌∙◌}
use mathlib.Core.Bool.{Bool, ◌||◌}
use Rattle.text_lex.specs.Piece.{words_after}
use Rattle.catalog.specs.View.{library_of}
use Rattle.read_parents.specs.Parents.{parent_fault_law}
use Rattle.read_parents.proofs.parent_fault.Goals as goal

either : {a b x y t : Bool} → x ≡ a → y ≡ b → (x || y) ≡ t → (a || b) ≡ t
either p q e = (λ i. sym p i || sym q i) ∙ e

pub returns-then-is_class-is_repeated : goal.returns-then-is_class-is_repeated
returns-then-is_class-is_repeated c =
    let a = c.args in
    parent_fault_law (library_of a.text.now a.tables.now) a.name.now (words_after a.parents.now)
    (either c.is_class.ensures c.is_repeated.ensures c.if-is_class-is_repeated.true) refl refl

pub returns-then-is_unknown : goal.returns-then-is_unknown
returns-then-is_unknown c =
    let a = c.args in
    parent_fault_law (library_of a.text.now a.tables.now) a.name.now (words_after a.parents.now)
    (either c.is_class.ensures c.is_repeated.ensures c.if-is_class-is_repeated.false) (sym c.is_unknown.ensures ∙ c.if-is_unknown.true) refl

pub returns-then-some_disagree : goal.returns-then-some_disagree
returns-then-some_disagree c =
    let a = c.args in
    parent_fault_law (library_of a.text.now a.tables.now) a.name.now (words_after a.parents.now)
    (either c.is_class.ensures c.is_repeated.ensures c.if-is_class-is_repeated.false) (sym c.is_unknown.ensures ∙ c.if-is_unknown.false)
    (sym c.some_disagree.ensures ∙ c.if-some_disagree.true)

pub returns : goal.returns
returns c =
    let a = c.args in
    parent_fault_law (library_of a.text.now a.tables.now) a.name.now (words_after a.parents.now)
    (either c.is_class.ensures c.is_repeated.ensures c.if-is_class-is_repeated.false) (sym c.is_unknown.ensures ∙ c.if-is_unknown.false)
    (sym c.some_disagree.ensures ∙ c.if-some_disagree.false)
