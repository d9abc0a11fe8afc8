-- `counted_mask` meets its contract: where the word counts and is a name, only the comparison of names is left; else the test fails.
use mathlib.Core.Path.{◌≡◌, sym, ap, ap₂, ◌∙◌}
use mathlib.Core.Bool.{Bool, false, ◌&&◌}
use mathlib.Core.List.{List, map}
use Prim.Native.Nat.{ℕ}
use Rattle.model.specs.Base.{same}
use Rattle.model.specs.Word.{Name, is_name}
use Rattle.model.specs.Image.{mask}
use Rattle.vector_direct.specs.Fields.{fields_in}
use Rattle.vector_direct.specs.Masks.{mask_same, mask_none}
use Rattle.vector_direct.proofs.Class.counted_mask.Goals as goal
use Rattle.vector_direct.proofs.Class.counted_mask.Goals.{else-on-via-then-on+else-is_name, else-on-via-else-on}

-- Where the test fails, no field is in the mask.
none : (t : Bool) (w : List ℕ) (fields : List Name) → t ≡ false → ◌≡◌ {A = ℕ} 0 (mask (map (λ (f : Name). t && same f w) fields))
none t w fields e = sym (mask_same (λ (f : Name). t && same f w) _ fields (λ f. ap (λ (b : Bool). b && same f w) e) ∙ mask_none fields)

pub returns-else-on : goal.returns-else-on
returns-else-on c =
    let a = c.args in
    let w = a.word.now in
    let fields = fields_in a.self.now.text.now a.self.now.tables.now a.self.now.number in
    elim c.else-on.branch [
      | else-on-via-then-on+else-is_name d ↦ none (a.on && is_name w) w fields (ap₂ (λ (p q : Bool). p && q) d.if-on.true (sym d.is_name.ensures ∙ d.if-is_name.false))
      | else-on-via-else-on d ↦ none (a.on && is_name w) w fields (ap (λ (p : Bool). p && is_name w) d.if-on.false)
    ]
