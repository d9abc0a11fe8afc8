-- Laws of tests joined by && and ||, for answers composed of several tests.
use Rattle.std.specs.Prelude.{◌≡◌, refl, Bool, true, false, ◌&&◌, ◌||◌}
use Rattle.std.proofs.Common.{sym}
use Rattle.std.proofs.lemmas.Bool.{false≢true}

-- Tests that equal those of a definition, joined.
infixl 35 ◌and◌
pub ◌and◌ : {a b x y : Bool} → a ≡ x → b ≡ y → (a && b) ≡ (x && y)
p and q = λ i. p i && q i

infixl 30 ◌or◌
pub ◌or◌ : {a b x y : Bool} → a ≡ x → b ≡ y → (a || b) ≡ (x || y)
p or q = λ i. p i || q i

pub and_false : (t : Bool) {u : Bool} → u ≡ false → (t && u) ≡ false
and_false true h = h
and_false false h = refl

pub and_true : (t : Bool) {u : Bool} → (t && u) ≡ true → (t ≡ true) × (u ≡ true)
and_true true e = (refl, e)
and_true false e = absurd (false≢true e)

pub or_false : (t : Bool) {u : Bool} → (t || u) ≡ false → (t ≡ false) × (u ≡ false)
or_false true e = absurd (false≢true (sym e))
or_false false e = (refl, e)
