-- Values put back, place by place: each place keeps its value or gets the noted one.
use Rattle.std.specs.Prelude.{ℕ, zero, suc, ◌<◌, ◌≡◌, refl, List, [], ◌∷◌, length, get_or}
use Rattle.std.proofs.Common.{arith, sym, ap, ap₂, ◌∙◌, ext_get_or}
use Rattle.model.specs.Undo.{sum_added, Undo, restored, put_back}
use Rattle.laws.specs.Sums.{nothing_back}

pub back_length : (u : Undo) (fields : List ℕ) → length (put_back u fields) ≡ length fields
unfolding put_back
back_length u [] = refl
back_length u (v ∷ vs) = ap suc (back_length (λ k. u (suc k)) vs)

pub back_at : (u : Undo) (fields : List ℕ) (i : ℕ) → i < length fields → get_or (put_back u fields) i 0 ≡ restored (u i) (get_or fields i 0)
unfolding put_back
back_at u [] i h = absurd (omega arith)
back_at u (v ∷ vs) zero h = refl
back_at u (v ∷ vs) (suc i) h = back_at (λ k. u (suc k)) vs i (omega arith)

-- Two lists of values put back are equal where they are equal at each place.
pub back_same : (u w : Undo) (fields others : List ℕ) → length fields ≡ length others
    → ((i : ℕ) → i < length fields → restored (u i) (get_or fields i 0) ≡ restored (w i) (get_or others i 0)) → put_back u fields ≡ put_back w others
back_same u w fields others long each =
    let a = back_length u fields in
    let b = back_length w others in
    ext_get_or 0 (put_back u fields) (put_back w others) (a ∙ long ∙ sym b)
    (λ i h. back_at u fields i (omega arith) ∙ each i (omega arith) ∙ sym (back_at w others i (omega arith)))

-- A transaction that changed nothing puts nothing back.
pub back_clean : (fields : List ℕ) → put_back (λ k. sum_added 0) fields ≡ fields
unfolding put_back
back_clean [] = refl
back_clean (v ∷ vs) = ap₂ (λ (x : ℕ) (xs : List ℕ). x ∷ xs) (nothing_back v) (back_clean vs)
