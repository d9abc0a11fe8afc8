-- What a send leaves, told of all that is lent where only parts were handed on.
use Rattle.std.specs.Prelude.{ℕ, ◌-◌, ◌≡◌, refl, List, [], ◌++◌, length, take, drop, Result}
use Rattle.std.proofs.Common.{arith, sym, ap, ◌∙◌, append-nil, take_all}
use Rattle.std.proofs.Math.Seq.{drop-length}
use Rattle.refusals.specs.declared.Refusal.{Refusal}
use Rattle.machine_words.specs.Calls.{Lent, lending, lending_same, After}
use Rattle.machine_words.specs.declared.Outcome.{Outcome}
use Rattle.machine_checks.specs.Told.{Leaves}

-- ---- all of the text and the words, handed on as a part from its start

-- What a call on such parts leaves is what it leaves on the whole.
pub whole_lent : (f : Lent → After) (text ws last values : List ℕ) (r : Result Outcome Refusal)
    → let part : List ℕ → List ℕ = λ l. take (length l - 0) l in
    Leaves (f (lending (part text) (part ws) values)) r (lending (part text) last values)
    → Leaves (f (lending text ws values)) r (lending text (last ++ drop (length ws - 0) ws) values)
whole_lent f text ws last values r h =
    let same : (l : List ℕ) → take (length l - 0) l ≡ l = λ l. take_all (length l - 0) l (omega arith) in
    let none : drop (length ws - 0) ws ≡ [] = let e : length ws - 0 ≡ length ws = omega arith in ap (λ (n : ℕ). drop n ws) e ∙ drop-length ws in
    let left : last ++ drop (length ws - 0) ws ≡ last = ap (λ (l : List ℕ). last ++ l) none ∙ append-nil last in
    let e : f (lending (take (length text - 0) text) (take (length ws - 0) ws) values) ≡ f (lending text ws values) =
    ap f (lending_same (same text) (same ws) refl) in
    record {
      says = h.says ∙ ap (λ (a : After). a.answered) e;
      left = lending_same (sym (same text)) left refl ∙ h.left ∙ ap (λ (a : After). a.lent) e;
    }
