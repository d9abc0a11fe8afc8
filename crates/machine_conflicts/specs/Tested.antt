-- A test that a closure makes: of a row, or of each number below another.
use Rattle.std.specs.Prelude.{◌≡◌, ℕ, ◌+◌, ◌<◌, Bool, List, [], ◌∷◌, ◌||◌, refl}
use Rattle.std.proofs.Common.{arith, sym, ap, ◌∙◌, ext_get_or}
use Rattle.std.specs.List.{list_any, range_with_len}
use Rattle.std.proofs.lemmas.List.FromFn.{get_or-range_with_len, length-range_with_len}
use Rattle.model.specs.Base.{any, upto}
use Rattle.laws.specs.Upto.{length_upto, get_d_upto}
use Rattle.std.specs.Fn.{Shared}
use Rattle.std.specs.Borrow.{Bor}

-- Each answer of the closure at a row is p's.
abbrev pub Tests : {F : Type 0} → Shared F (Bor (List ℕ) × Unit {0}) Bool → F → (List ℕ → Bool) → Type 0
Tests g f p = (row : Bor (List ℕ)) (b : Bool) → g.post f (row, tt) b → b ≡ p row.now

any_same : (test : ℕ → Bool) (ns : List ℕ) → list_any test ns ≡ any test ns
unfolding any
any_same test [] = refl
any_same test (n ∷ ns) = ap (λ b. test n || b) (any_same test ns)

-- Whether a number below n passes.
pub any_below : (test : ℕ → Bool) (n : ℕ) → list_any test (range_with_len 0 n) ≡ any test (upto (λ d. d) n)
any_below test n =
    any_same test (range_with_len 0 n)
    ∙ ap (any test)
    (ext_get_or 0 (range_with_len 0 n) (upto (λ d. d) n) (length-range_with_len 0 n ∙ sym (length_upto (λ d. d) n))
    (λ i h. let l : i < n = omega (arith, length-range_with_len 0 n) in let z : 0 + i ≡ i = omega arith in get_or-range_with_len 0 n i 0 l ∙ z ∙ sym (get_d_upto (λ d. d) n i 0 l)))
