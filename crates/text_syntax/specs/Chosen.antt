-- A choice among constants, made by a chain of tests.
use Rattle.std.specs.Prelude.{◌≡◌, refl, Bool, true, false, cond}
use Rattle.std.proofs.Common.{ap, ◌∙◌}

-- The meaning of a choice is the choice of the meanings.
module _ {A B : Type 0} (says : A → B) where
  through : (t : Bool) (x y : A) → says (cond t x y) ≡ cond t (says x) (says y)
  through true x y = refl
  through false x y = refl

  -- One test before a chain: r is x where the test t, which equals u, passes, else y, whose meaning is z.
  pub chosen : (x : A) {r y : A} {z : B} {t u : Bool} → r ≡ cond t x y → t ≡ u → says y ≡ z → says r ≡ cond u (says x) z
  chosen x {r} {y} {z} {t} {u} e q h = ap says e ∙ through t x y ∙ (λ i. cond (q i) (says x) (h i))
