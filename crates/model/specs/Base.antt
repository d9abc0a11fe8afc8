-- What document 01 takes for granted: list functions, look-ups, tables by number.
use Rattle.std.specs.Prelude.{ℕ, zero, suc, Bool, true, cond, ◌&&◌, ◌||◌, eqb}
use Prim.Native.Char.{code}
use Prim.Native.String.{String, [] as ε, ◌∷◌ as ◌∷ˢ◌}
use Rattle.std.proofs.Math.Bool.{false}
use Rattle.std.proofs.Math.Option.{Option, none, some, or_else}
use mathlib.Core.List.{List, [], ◌∷◌, ◌++◌}

-- The bytes of a quoted text.
abbrev pub bytes : String → List ℕ
bytes ε = []
bytes (c ∷ˢ s) = code c ∷ bytes s

-- Whether two lists of bytes are equal.
unfoldable pub same : List ℕ → List ℕ → Bool
same [] [] = true
same [] (y ∷ ys) = false
same (x ∷ xs) [] = false
same (x ∷ xs) (y ∷ ys) = eqb x y && same xs ys

module _ {A : Type 0} where
  unfoldable pub any : (A → Bool) → List A → Bool
  any p [] = false
  any p (x ∷ xs) = p x || any p xs

  unfoldable pub every : (A → Bool) → List A → Bool
  every p [] = true
  every p (x ∷ xs) = p x && every p xs

  unfoldable pub keep : (A → Bool) → List A → List A
  keep p [] = []
  keep p (x ∷ xs) = cond (p x) (x ∷ keep p xs) (keep p xs)

  -- Whether some two elements, in the list's order, are related by the test.
  unfoldable pub some_pair : (A → A → Bool) → List A → Bool
  unfolding any
  some_pair r [] = false
  some_pair r (x ∷ xs) = any (r x) xs || some_pair r xs

  -- The place of the first element that passes the test; the length where there is none.
  unfoldable pub first_at : (A → Bool) → List A → ℕ
  first_at p [] = 0
  first_at p (x ∷ xs) = cond (p x) 0 (suc (first_at p xs))

  -- The list with f applied to the element at place n; unchanged where there is none.
  unfoldable pub alter : ℕ → (A → A) → List A → List A
  alter n f [] = []
  alter zero f (x ∷ xs) = f x ∷ xs
  alter (suc n) f (x ∷ xs) = x ∷ alter n f xs

  -- f 0, f 1, .. f (n - 1).
  unfoldable pub upto : (ℕ → A) → ℕ → List A
  upto f zero = []
  upto f (suc n) = upto f n ++ (f n ∷ [])

  -- The function with another value at one number.
  unfoldable pub put : (ℕ → A) → ℕ → A → ℕ → A
  put f n x k = let other = f k in cond (eqb k n) x other

module _ {A B : Type 0} where
  unfoldable pub fold : (B → A → B) → B → List A → B
  fold f b [] = b
  fold f b (x ∷ xs) = fold f (f b x) xs

-- The least number below n that passes the test, or none.
unfoldable pub least : (ℕ → Bool) → ℕ → Option ℕ
unfolding or_else
least p zero = none
least p (suc n) = or_else (least p n) (cond (p n) (some n) none)

-- 1 for true, 0 for false.
abbrev pub digit : Bool → ℕ
digit true = 1
digit false = 0

-- Whether s leads to t by one or more steps of r, by way of numbers below n alone.
unfoldable pub leads : (ℕ → ℕ → Bool) → ℕ → ℕ → ℕ → Bool
leads r zero s t = r s t
leads r (suc n) s t =
    let on = leads r n n t in
    let through = leads r n s n && on in
    leads r n s t || through
