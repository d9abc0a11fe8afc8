-- Laws of the model's list functions (Base): what a passed test means, and which members each list has.
use Prim.Native.Nat.{ℕ, zero, suc, pred, ◌+◌, ◌<◌}
use native.Mathlib.Omega.{arith}
use Rattle.std.proofs.Math.Decide.{dec_lt}
use Rattle.std.specs.Prelude.{◌≡◌, ◌⊎◌, Bool, ◌&&◌, ◌||◌, take, drop, T, eqb, ltb}
use Rattle.std.proofs.Math.Path.{refl, sym, ap, subst}
use Rattle.std.proofs.Common.{◌∙◌, inl, inr, ⊎_elim, true≢false, eqb→eq, ltb→lt}
use Rattle.std.proofs.Math.Bool.{true, false, not, cond}
use Rattle.std.proofs.lemmas.Bool.{false≢true}
use mathlib.Core.List.Memᴰ
use mathlib.Core.List.{List, [], ◌∷◌, ◌++◌, map, flat_map, Memᴰ}
use Rattle.std.proofs.Math.ListN.{length, get_or, length-append, get_or-append}
use Rattle.std.proofs.Math.Dec.{eqb_refl}
use Rattle.std.proofs.Math.Seq.{get_or_at}
use Rattle.model.specs.Base.{same, any, every, keep, first_at, alter, upto}

-- ---- tests

passed : (b : Bool) → T b → b ≡ true
passed true t = refl
passed false t = absurd t

pass : (b : Bool) → b ≡ true → T b
pass b e = subst T (sym e) tt

-- What follows where both of two tests pass, where one does, and where neither does.
pub both_left : (a b : Bool) → a && b ≡ true → a ≡ true
both_left true b e = refl
both_left false b e = e

pub both_right : (a b : Bool) → a && b ≡ true → b ≡ true
both_right true b e = e
both_right false b e = absurd (false≢true e)

pub either_cases : (a b : Bool) → a || b ≡ true → (a ≡ true) ⊎ (b ≡ true)
either_cases true b e = inl refl
either_cases false b e = inr e

pub either_left : (a b : Bool) → a ≡ true → a || b ≡ true
either_left a b e = ap (λ (x : Bool). x || b) e

pub either_right : (a b : Bool) → b ≡ true → a || b ≡ true
either_right true b e = refl
either_right false b e = e

pub neither_left : (a b : Bool) → a || b ≡ false → a ≡ false
neither_left true b e = e
neither_left false b e = refl

pub neither_right : (a b : Bool) → a || b ≡ false → b ≡ false
neither_right true b e = absurd (true≢false e)
neither_right false b e = e

-- The tests of numbers mean what they test.
pub eqb_true : (m n : ℕ) → eqb m n ≡ true → m ≡ n
eqb_true m n e = eqb→eq m n (pass (eqb m n) e)

pub eqb_same : (n : ℕ) → eqb n n ≡ true
eqb_same n = passed (eqb n n) (eqb_refl n)

pub ltb_true : (m n : ℕ) → ltb m n ≡ true → m < n
ltb_true m n e = ltb→lt m n (pass (ltb m n) e)

-- The test of names means that they are equal.
pub same_sound : (xs ys : List ℕ) → same xs ys ≡ true → xs ≡ ys
unfolding same
same_sound [] [] e = refl
same_sound [] (y ∷ ys) e = absurd (false≢true e)
same_sound (x ∷ xs) [] e = absurd (false≢true e)
same_sound (x ∷ xs) (y ∷ ys) e =
    λ i. eqb_true x y (both_left (eqb x y) (same xs ys) e) i ∷ same_sound xs ys (both_right (eqb x y) (same xs ys) e) i

pub same_refl : (xs : List ℕ) → same xs xs ≡ true
unfolding same
same_refl [] = refl
same_refl (x ∷ xs) = rw eqb_same (same_refl xs)

-- The test of names is symmetric.
pub same_comm : (xs ys : List ℕ) → same xs ys ≡ same ys xs
same_comm xs ys = go (same xs ys) (same ys xs) refl refl
  where
    go : (a b : Bool) → same xs ys ≡ a → same ys xs ≡ b → a ≡ b
    go true b p q = sym (same_refl ys) ∙ subst (λ (zs : List ℕ). same ys zs ≡ b) (same_sound xs ys p) q
    go false true p q = sym p ∙ subst (λ (zs : List ℕ). same xs zs ≡ true) (sym (same_sound ys xs q)) (same_refl xs)
    go false false p q = refl

-- ---- members

module _ {A : Type 0} where
  -- `any` passes where some member passes, and fails where none does.
  pub any_member : (p : A → Bool) (xs : List A) → any p xs ≡ true → (x : A) × Memᴰ x xs × (p x ≡ true)
  unfolding any
  any_member p [] e = absurd (false≢true e)
  any_member p (x ∷ xs) e = go (p x) refl (any_member p xs) e
    where
      go : (b : Bool) → p x ≡ b → (any p xs ≡ true → (y : A) × Memᴰ y xs × (p y ≡ true)) → b || any p xs ≡ true
          → (y : A) × Memᴰ y (x ∷ xs) × (p y ≡ true)
      go true q ih e = (x, Memᴰ.head refl, q)
      go false q ih e = ((ih e).0, Memᴰ.tail (ih e).1, (ih e).2)

  pub any_none : (p : A → Bool) {xs : List A} {x : A} → Memᴰ x xs → any p xs ≡ false → p x ≡ false
  unfolding any
  any_none p {x = x} m q = go m q
    where
      go : {ys : List A} → Memᴰ x ys → any p ys ≡ false → p x ≡ false
      go (Memᴰ.head {x = y} {xs = ys} e) q = ap p e ∙ neither_left (p y) (any p ys) q
      go (Memᴰ.tail {x = y} {xs = ys} m) q = go m (neither_right (p y) (any p ys) q)

  pub none_any : (p : A → Bool) (xs : List A) → ((x : A) → Memᴰ x xs → p x ≡ false) → any p xs ≡ false
  unfolding any
  none_any p [] f = refl
  none_any p (x ∷ xs) f = rw (f x (Memᴰ.head refl)) (none_any p xs (λ y m. f y (Memᴰ.tail m)))

  pub member_any : (p : A → Bool) {xs : List A} {x : A} → Memᴰ x xs → p x ≡ true → any p xs ≡ true
  member_any p {xs} {x} m q = go (any p xs) refl
    where
      go : (b : Bool) → any p xs ≡ b → any p xs ≡ true
      go true e = e
      go false e = absurd (true≢false (sym q ∙ any_none p m e))

  -- Each member passes where `every` does.
  pub every_member : (p : A → Bool) {xs : List A} {x : A} → Memᴰ x xs → every p xs ≡ true → p x ≡ true
  unfolding every
  every_member p {x = x} m q = go m q
    where
      go : {ys : List A} → Memᴰ x ys → every p ys ≡ true → p x ≡ true
      go (Memᴰ.head {x = y} {xs = ys} e) q = ap p e ∙ both_left (p y) (every p ys) q
      go (Memᴰ.tail {x = y} {xs = ys} m) q = go m (both_right (p y) (every p ys) q)

  -- `keep` has exactly the members that pass.
  pub in_keep : (p : A → Bool) (xs : List A) {x : A} → Memᴰ x (keep p xs) → Memᴰ x xs × (p x ≡ true)
  unfolding keep
  in_keep p [] m = absurd (Memᴰ.not-nil m)
  in_keep p (y ∷ ys) {x} m = go (p y) refl (λ n. in_keep p ys n) m
    where
      first : p y ≡ true → (x ≡ y) ⊎ Memᴰ x (keep p ys) → (Memᴰ x (keep p ys) → Memᴰ x ys × (p x ≡ true))
          → Memᴰ x (y ∷ ys) × (p x ≡ true)
      first q (inl e) ih = (Memᴰ.head e, ap p e ∙ q)
      first q (inr n) ih = (Memᴰ.tail (ih n).0, (ih n).1)

      go : (b : Bool) → p y ≡ b → (Memᴰ x (keep p ys) → Memᴰ x ys × (p x ≡ true)) → Memᴰ x (cond b (y ∷ keep p ys) (keep p ys))
          → Memᴰ x (y ∷ ys) × (p x ≡ true)
      go true q ih m = first q (Memᴰ.cases_cons m) ih
      go false q ih m = (Memᴰ.tail (ih m).0, (ih m).1)

  pub keep_in : (p : A → Bool) (xs : List A) {x : A} → Memᴰ x xs → p x ≡ true → Memᴰ x (keep p xs)
  unfolding keep
  keep_in p [] m q = absurd (Memᴰ.not-nil m)
  keep_in p (y ∷ ys) {x} m q = go (p y) refl (λ n. keep_in p ys n q) (Memᴰ.cases_cons m)
    where
      go : (b : Bool) → p y ≡ b → (Memᴰ x ys → Memᴰ x (keep p ys)) → (x ≡ y) ⊎ Memᴰ x ys
          → Memᴰ x (cond b (y ∷ keep p ys) (keep p ys))
      go true r ih (inl e) = Memᴰ.head e
      go true r ih (inr n) = Memᴰ.tail (ih n)
      go false r ih (inl e) = absurd (true≢false (sym q ∙ ap p e ∙ r))
      go false r ih (inr n) = ih n

  -- The members kept and those dropped make up the whole list.
  pub keep_length : (p : A → Bool) (xs : List A) → length (keep p xs) + length (keep (λ x. not (p x)) xs) ≡ length xs
  unfolding keep
  keep_length p [] = refl
  keep_length p (y ∷ ys) = go (p y) (keep_length p ys)
    where
      rest : List A
      rest = keep (λ x. not (p x)) ys

      go : (b : Bool) → length (keep p ys) + length rest ≡ length ys
          → length (cond b (y ∷ keep p ys) (keep p ys)) + length (cond (not b) (y ∷ rest) rest) ≡ suc (length ys)
      go true e = omega arith
      go false e = omega arith

  -- The members of a part of a list are members of the list.
  pub in_append_nil : (xs : List A) {x : A} → Memᴰ x (xs ++ []) → Memᴰ x xs
  in_append_nil xs m = ⊎_elim (λ k. k) (λ k. absurd (Memᴰ.not-nil k)) (Memᴰ.append_cases xs m)

  pub in_take : (n : ℕ) (xs : List A) {x : A} → Memᴰ x (take n xs) → Memᴰ x xs
  in_take zero xs m = absurd (Memᴰ.not-nil m)
  in_take (suc n) [] m = absurd (Memᴰ.not-nil m)
  in_take (suc n) (y ∷ ys) {x} m = go (λ k. in_take n ys k) (Memᴰ.cases_cons m)
    where
      go : (Memᴰ x (take n ys) → Memᴰ x ys) → (x ≡ y) ⊎ Memᴰ x (take n ys) → Memᴰ x (y ∷ ys)
      go ih (inl e) = Memᴰ.head e
      go ih (inr k) = Memᴰ.tail (ih k)

  pub in_drop : (n : ℕ) (xs : List A) {x : A} → Memᴰ x (drop n xs) → Memᴰ x xs
  in_drop zero xs m = m
  in_drop (suc n) [] m = absurd (Memᴰ.not-nil m)
  in_drop (suc n) (y ∷ ys) m = Memᴰ.tail (in_drop n ys m)

  -- The member at the first place that passes does pass; there is no such place where none passes.
  pub first_passes : (p : A → Bool) (d : A) (xs : List A) → first_at p xs < length xs → p (get_or xs (first_at p xs) d) ≡ true
  unfolding first_at
  first_passes p d [] h = absurd (omega arith)
  first_passes p d (x ∷ xs) h = go (p x) refl (first_passes p d xs) h
    where
      go : (b : Bool) → p x ≡ b → (first_at p xs < length xs → p (get_or xs (first_at p xs) d) ≡ true)
          → cond b 0 (suc (first_at p xs)) < suc (length xs) → p (get_or (x ∷ xs) (cond b 0 (suc (first_at p xs))) d) ≡ true
      go true q ih h = q
      go false q ih h = ih (omega arith)

  pub first_below : (p : A → Bool) (xs : List A) → any p xs ≡ true → first_at p xs < length xs
  unfolding first_at any
  first_below p [] e = absurd (false≢true e)
  first_below p (x ∷ xs) e = go (p x) (first_below p xs) e
    where
      go : (b : Bool) → (any p xs ≡ true → first_at p xs < length xs) → b || any p xs ≡ true
          → cond b 0 (suc (first_at p xs)) < suc (length xs)
      go true ih e = omega arith
      go false ih e = let h = ih e in omega arith

  pub first_past : (p : A → Bool) (xs : List A) → any p xs ≡ false → first_at p xs ≡ length xs
  unfolding first_at any
  first_past p [] e = refl
  first_past p (x ∷ xs) e = go (p x) (first_past p xs) e
    where
      go : (b : Bool) → (any p xs ≡ false → first_at p xs ≡ length xs) → b || any p xs ≡ false
          → cond b 0 (suc (first_at p xs)) ≡ suc (length xs)
      go true ih e = absurd (true≢false e)
      go false ih e = ap suc (ih e)

  -- The table of a function has the function's values.
  upto_length : (f : ℕ → A) (n : ℕ) → length (upto f n) ≡ n
  unfolding upto
  upto_length f zero = refl
  upto_length f (suc n) = length-append (upto f n) (f n ∷ []) ∙ (let e = upto_length f n in omega arith)

  pub upto_at : (f : ℕ → A) (d : A) (n k : ℕ) → k < n → get_or (upto f n) k d ≡ f k
  unfolding upto
  upto_at f d zero k h = absurd (omega arith)
  upto_at f d (suc n) k h = go (upto_at f d n k) (upto_length f n) (dec_lt k n)
    where
      go : (k < n → get_or (upto f n) k d ≡ f k) → length (upto f n) ≡ n → Dec (k < n) → get_or (upto f n ++ (f n ∷ [])) k d ≡ f k
      go ih e (yes w) = get_or-append (upto f n) (f n ∷ []) d k (omega arith) ∙ ih w
      go ih e (no w) =
          let here : k ≡ n = omega arith in
          get_or_at (upto f n) (f n) [] d k (e ∙ sym here) ∙ ap f (sym here)

  pub in_upto : (f : ℕ → A) (n k : ℕ) → k < n → Memᴰ (f k) (upto f n)
  unfolding upto
  in_upto f zero k h = absurd (omega arith)
  in_upto f (suc n) k h = go (in_upto f n k) (dec_lt k n)
    where
      go : (k < n → Memᴰ (f k) (upto f n)) → Dec (k < n) → Memᴰ (f k) (upto f n ++ (f n ∷ []))
      go ih (yes w) = Memᴰ.append_left (f n ∷ []) (ih w)
      go ih (no w) = let here : k ≡ n = omega arith in Memᴰ.append_right (upto f n) (Memᴰ.head (ap f here))

  -- Where the value at place k has a property that the default d does not have, the list has an element there.
  pub is_there : (P : A → Type 0) (d : A) (xs : List A) (k : ℕ) → (P d → ⊥) → P (get_or xs k d) → k < length xs
  is_there P d [] k none h = absurd (none h)
  is_there P d (x ∷ xs) zero none h = omega arith
  is_there P d (x ∷ xs) (suc k) none h = let t = is_there P d xs k none h in omega arith

  -- Altering one element leaves the others; altering it twice composes the two functions.
  pub alter_length : (n : ℕ) (f : A → A) (xs : List A) → length (alter n f xs) ≡ length xs
  unfolding alter
  alter_length n f [] = refl
  alter_length zero f (x ∷ xs) = refl
  alter_length (suc n) f (x ∷ xs) = ap suc (alter_length n f xs)

  pub alter_twice : (n : ℕ) (f g : A → A) (xs : List A) → alter n g (alter n f xs) ≡ alter n (λ x. g (f x)) xs
  unfolding alter
  alter_twice n f g [] = refl
  alter_twice zero f g (x ∷ xs) = refl
  alter_twice (suc n) f g (x ∷ xs) = ap (λ (ys : List A). x ∷ ys) (alter_twice n f g xs)

  pub alter_none : (n : ℕ) (xs : List A) → alter n (λ x. x) xs ≡ xs
  unfolding alter
  alter_none n [] = refl
  alter_none zero (x ∷ xs) = refl
  alter_none (suc n) (x ∷ xs) = ap (λ (ys : List A). x ∷ ys) (alter_none n xs)

  pub alter_there : (f : A → A) (d : A) (n : ℕ) (xs : List A) → n < length xs → get_or (alter n f xs) n d ≡ f (get_or xs n d)
  unfolding alter
  alter_there f d n [] h = absurd (omega arith)
  alter_there f d zero (x ∷ xs) h = refl
  alter_there f d (suc n) (x ∷ xs) h = alter_there f d n xs (omega arith)

  pub alter_else : (f : A → A) (d : A) (n k : ℕ) (xs : List A) → (k ≡ n → ⊥) → get_or (alter n f xs) k d ≡ get_or xs k d
  unfolding alter
  alter_else f d n k [] ne = refl
  alter_else f d zero zero (x ∷ xs) ne = absurd (ne refl)
  alter_else f d zero (suc k) (x ∷ xs) ne = refl
  alter_else f d (suc n) zero (x ∷ xs) ne = refl
  alter_else f d (suc n) (suc k) (x ∷ xs) ne = alter_else f d n k xs (λ e. ne (ap suc e))

  -- What holds at each place, and of the altered or appended element, holds at each place of the new list.
  pub alter_each : (P : ℕ → A → Type 0) (f : A → A) (d : A) (n : ℕ) (xs : List A) → ((k : ℕ) → P k (get_or xs k d)) → (n < length xs → P n (f (get_or xs n d)))
      → (k : ℕ) → P k (get_or (alter n f xs) k d)
  unfolding alter
  alter_each P f d n [] h new k = h k
  alter_each P f d zero (x ∷ xs) h new zero = new (omega arith)
  alter_each P f d zero (x ∷ xs) h new (suc k) = h (suc k)
  alter_each P f d (suc n) (x ∷ xs) h new zero = h 0
  alter_each P f d (suc n) (x ∷ xs) h new (suc k) = alter_each (λ j. P (suc j)) f d n xs (λ j. h (suc j)) (λ l. new (omega arith)) k

  pub append_each : (P : ℕ → A → Type 0) (d x : A) (xs : List A) → ((k : ℕ) → P k (get_or xs k d)) → P (length xs) x → (k : ℕ) → P k (get_or (xs ++ (x ∷ [])) k d)
  append_each P d x [] h new zero = new
  append_each P d x [] h new (suc k) = h (suc k)
  append_each P d x (y ∷ ys) h new zero = h 0
  append_each P d x (y ∷ ys) h new (suc k) = append_each (λ j. P (suc j)) d x ys (λ j. h (suc j)) new k

  -- What holds of the altered last element holds of the last element of the new list.
  pub alter_last : (P : A → Type 0) (f : A → A) (d : A) (xs : List A) → (length xs ≡ 0 → P d) → P (f (get_or xs (pred (length xs)) d))
      → (let ys = alter (pred (length xs)) f xs in P (get_or ys (pred (length ys)) d))
  unfolding alter
  alter_last P f d [] none h = none refl
  alter_last P f d (x ∷ xs) none h =
      let n = length xs in
      subst (λ (k : ℕ). P (get_or (alter n f (x ∷ xs)) (pred k) d)) (sym (alter_length n f (x ∷ xs)))
      (subst P (sym (alter_there f d n (x ∷ xs) (omega arith))) h)

module _ {A B : Type 0} where
  -- The members of `map` and `flat_map` are the images of the members.
  pub map_in : (f : A → B) {xs : List A} {x : A} → Memᴰ x xs → Memᴰ (f x) (map f xs)
  map_in f {x = x} m = go m
    where
      go : {ys : List A} → Memᴰ x ys → Memᴰ (f x) (map f ys)
      go (Memᴰ.head e) = Memᴰ.head (ap f e)
      go (Memᴰ.tail m) = Memᴰ.tail (go m)

  pub in_map : (f : A → B) (xs : List A) {y : B} → Memᴰ y (map f xs) → (x : A) × Memᴰ x xs × (y ≡ f x)
  in_map f [] m = absurd (Memᴰ.not-nil m)
  in_map f (x ∷ xs) {y} m = go (λ n. in_map f xs n) (Memᴰ.cases_cons m)
    where
      go : (Memᴰ y (map f xs) → (z : A) × Memᴰ z xs × (y ≡ f z)) → (y ≡ f x) ⊎ Memᴰ y (map f xs)
          → (z : A) × Memᴰ z (x ∷ xs) × (y ≡ f z)
      go ih (inl e) = (x, Memᴰ.head refl, e)
      go ih (inr n) = ((ih n).0, Memᴰ.tail (ih n).1, (ih n).2)

  pub map_at : (f : A → B) (xs : List A) (k : ℕ) (d : A) (e : B) → k < length xs → get_or (map f xs) k e ≡ f (get_or xs k d)
  map_at f [] k d e h = absurd (omega arith)
  map_at f (x ∷ xs) zero d e h = refl
  map_at f (x ∷ xs) (suc k) d e h = map_at f xs k d e (omega arith)

  pub flat_map_in : (f : A → List B) {xs : List A} {x : A} {y : B} → Memᴰ x xs → Memᴰ y (f x) → Memᴰ y (flat_map f xs)
  unfolding flat_map
  flat_map_in f {x = x} {y = y} m n = go m
    where
      go : {zs : List A} → Memᴰ x zs → Memᴰ y (flat_map f zs)
      go (Memᴰ.head {xs = zs} e) = Memᴰ.append_left (flat_map f zs) (subst (λ w. Memᴰ y (f w)) e n)
      go (Memᴰ.tail {x = z} m) = Memᴰ.append_right (f z) (go m)

  pub in_flat_map : (f : A → List B) (xs : List A) {y : B} → Memᴰ y (flat_map f xs) → (x : A) × Memᴰ x xs × Memᴰ y (f x)
  unfolding flat_map
  in_flat_map f [] m = absurd (Memᴰ.not-nil m)
  in_flat_map f (x ∷ xs) {y} m = go (λ n. in_flat_map f xs n) (Memᴰ.append_cases (f x) m)
    where
      go : (Memᴰ y (flat_map f xs) → (z : A) × Memᴰ z xs × Memᴰ y (f z))
          → Memᴰ y (f x) ⊎ Memᴰ y (flat_map f xs)
          → (z : A) × Memᴰ z (x ∷ xs) × Memᴰ y (f z)
      go ih (inl n) = (x, Memᴰ.head refl, n)
      go ih (inr n) = ((ih n).0, Memᴰ.tail (ih n).1, (ih n).2)

-- ---- tests

-- Tests that imply each other are equal.
pub same_test : (a b : Bool) → (a ≡ true → b ≡ true) → (b ≡ true → a ≡ true) → a ≡ b
same_test true true f g = refl
same_test true false f g = sym (f refl)
same_test false true f g = g refl
same_test false false f g = refl

pub fail_together : (a b : Bool) → (a ≡ false → b ≡ false) → (b ≡ false → a ≡ false) → a ≡ b
fail_together true true f g = refl
fail_together true false f g = g refl
fail_together false true f g = sym (f refl)
fail_together false false f g = refl

pub not_of : (b : Bool) → b ≡ false → not b ≡ true
not_of b e = ap not e

pub both_true : (a b : Bool) → a ≡ true → b ≡ true → a && b ≡ true
both_true a b e f = ap (λ (x : Bool). x && b) e ∙ f
