-- The mask of a class's ancestors: one class's contribution, and a turn of the loop over the parents.
use Prim.Native.Nat.{ℕ, ◌*◌, ◌%◌, ◌^◌, ◌≤◌, ◌<◌}
use mathlib.Core.Path.{◌≡◌, refl, sym, ap, ap₂, ◌∙◌}
use mathlib.Core.Bool.{Bool, true, false, ◌||◌}
use mathlib.Core.List.{List, ◌∷◌}
use lib.Dec.{eqb}
use lib.Bits.{bit_or}
use Rattle.layout.specs.Layout.{ancestors_at}
use Rattle.model.specs.Base.{any}
use Rattle.model.specs.Word.{Name}
use Rattle.model.specs.Library.{Class, Library, class_number, class_at, class_name, above}
use Rattle.catalog.specs.View.{class_word, class_count, class_of, library_of}
use Rattle.laws.specs.Bits.{bit, bit_or_law, bit_shifted}
use Rattle.catalog.specs.Look.{class_at_law, class_past}

pub or_false : (x : Bool) → x ≡ (x || false)
or_false true = refl
or_false false = refl

or_three : (x y z : Bool) → ((x || y) || z) ≡ (x || (y || z))
or_three true y z = refl
or_three false y z = refl

module _ (text ws : List ℕ) (k : ℕ) (h : k < 32) (d : ℕ) where
  pub mask_known : k < class_count ws → (w : ℕ) → w ≡ class_word ws k ancestors_at
      → bit (bit_or ((1 * 2 ^ k) % 2 ^ 32) w) d ≡ (eqb k d || (class_at (library_of text ws) k).ancestors d)
  unfolding class_of
  mask_known l w e =
      bit_or_law ((1 * 2 ^ k) % 2 ^ 32) w d
      ∙ ap₂ ◌||◌ (bit_shifted k d h) (ap (λ (m : ℕ). bit m d) e ∙ sym (ap (λ (c : Class). c.ancestors d) (class_at_law text ws k l)))

  pub mask_unknown : class_count ws ≤ k → bit ((1 * 2 ^ k) % 2 ^ 32) d ≡ (eqb k d || (class_at (library_of text ws) k).ancestors d)
  mask_unknown l =
      bit_shifted k d h ∙ or_false (eqb k d) ∙ ap (λ (c : Class). eqb k d || c.ancestors d) (sym (class_past text ws k l))

-- The classes of the mask and those above the names left are those above all names.
pub above_turn : (l : Library) (n : Name) (ps : List Name) (mask own k d : ℕ) → k ≡ class_number l n → bit own d ≡ (eqb k d || (class_at l k).ancestors d)
    → (bit (bit_or mask own) d || above l ps d) ≡ (bit mask d || above l (n ∷ ps) d)
unfolding above any class_name
above_turn l n ps mask own k d e h =
    ap (λ (t : Bool). t || above l ps d) (bit_or_law mask own d)
    ∙ or_three (bit mask d) (bit own d) (above l ps d)
    ∙ ap (λ (t : Bool). bit mask d || (t || above l ps d)) (h ∙ ap (λ (i : ℕ). eqb i d || (class_at l i).ancestors d) e)
