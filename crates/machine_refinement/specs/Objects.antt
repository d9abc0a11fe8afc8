-- The objects that a message visits: the model has them as a list, the words find the next one from a number on.
use Prim.Native.Nat.{ℕ, zero, suc, ◌+◌, ◌-◌, ◌≤◌, ◌<◌}
use native.Mathlib.Omega.{arith}
use Rattle.std.proofs.Math.Decide.{dec_lt}
use Rattle.std.specs.Prelude.{◌≡◌, Bool, List, [], ◌∷◌, ◌++◌}
use Rattle.std.proofs.Math.Path.{refl, ap}
use Rattle.std.proofs.Common.{sym, ap₂, subst, ◌∙◌}
use Rattle.std.proofs.Math.Bool.{true, false, cond}
use Rattle.std.proofs.Math.ListN.{length}
use Rattle.model.specs.Base.{keep, upto}
use Rattle.model.specs.Vector.{Program}
use Rattle.model.specs.Message.{Target, visited}
use Rattle.model.specs.Message as Model
use Rattle.catalog.specs.View.{object_count}
use Rattle.machine_words.specs.Turn.{target_there, in_target, first_from, object_from}
use Rattle.machine_refinement.specs.Rep.{Fits, passing, objects_from, target_by}
use Rattle.machine_refinement.specs.Tables.{object_total, target_is}

-- ---- numbers that pass a test

keep_append : (q : ℕ → Bool) (xs ys : List ℕ) → keep q (xs ++ ys) ≡ keep q xs ++ keep q ys
unfolding keep
keep_append q [] ys = refl
keep_append q (x ∷ xs) ys = go (q x) (keep_append q xs ys)
  where
    go : (b : Bool) → keep q (xs ++ ys) ≡ keep q xs ++ keep q ys
        → cond b (x ∷ keep q (xs ++ ys)) (keep q (xs ++ ys)) ≡ cond b (x ∷ keep q xs) (keep q xs) ++ keep q ys
    go true e = ap {B = List ℕ} (λ l. x ∷ l) e
    go false e = e

-- One more number at the end.
passing_last : (q : ℕ → Bool) (from n : ℕ) → passing q from (suc n) ≡ passing q from n ++ cond (q (from + n)) ((from + n) ∷ []) []
unfolding passing
passing_last q from zero = let e : from + 0 ≡ from = omega arith in rw e refl
passing_last q from (suc n) = go (q from) (passing_last q (suc from) n ∙ ap (λ (k : ℕ). passing q (suc from) n ++ last k) e)
  where
    e : suc from + n ≡ from + suc n
    e = omega arith

    last : ℕ → List ℕ
    last k = cond (q k) (k ∷ []) []

    go : (b : Bool) → passing q (suc from) (suc n) ≡ passing q (suc from) n ++ last (from + suc n)
        → cond b (from ∷ passing q (suc from) (suc n)) (passing q (suc from) (suc n))
        ≡ cond b (from ∷ passing q (suc from) n) (passing q (suc from) n) ++ last (from + suc n)
    go true h = ap {B = List ℕ} (λ l. from ∷ l) h
    go false h = h

keep_is : (q : ℕ → Bool) (n : ℕ) → keep q (upto (λ o. o) n) ≡ passing q 0 n
unfolding keep upto passing
keep_is q zero = refl
keep_is q (suc n) =
    let e : 0 + n ≡ n = omega arith in
    keep_append q (upto (λ o. o) n) (n ∷ [])
    ∙ ap₂ (λ (xs : List ℕ) (k : ℕ). xs ++ cond (q k) (k ∷ []) []) (keep_is q n) (sym e)
    ∙ sym (passing_last q 0 n)

-- The first number that passes is the same for tests that agree on these numbers.
first_same : (q r : ℕ → Bool) (from n : ℕ) → ((i : ℕ) → from ≤ i → i < from + n → q i ≡ r i) → first_from q from n ≡ first_from r from n
unfolding first_from
first_same q r from zero f = refl
first_same q r from (suc n) f =
    ap₂ (λ (b : Bool) (later : ℕ). cond b from later) (f from (omega arith) (omega arith))
    (first_same q r (suc from) n (λ i g h. f i (omega arith) (omega arith)))

module _ (q : ℕ → Bool) where
  -- It passes, and the numbers that pass are it and those after it.
  first_passes : (from n : ℕ) → let o = first_from q from n in o < from + n
      → (q o ≡ true) × (passing q from n ≡ o ∷ passing q (suc o) (from + n - suc o))
  unfolding first_from passing
  first_passes from zero h = absurd (omega arith)
  first_passes from (suc n) h = go (q from) refl (first_passes (suc from) n) h
    where
      later : ℕ
      later = first_from q (suc from) n

      go : (b : Bool) → q from ≡ b
          → (later < suc from + n → (q later ≡ true) × (passing q (suc from) n ≡ later ∷ passing q (suc later) (suc from + n - suc later)))
          → cond b from later < from + suc n
          → (q (cond b from later) ≡ true)
          × (cond b (from ∷ passing q (suc from) n) (passing q (suc from) n)
          ≡ cond b from later ∷ passing q (suc (cond b from later)) (from + suc n - suc (cond b from later)))
      go true e ih h = let m : n ≡ from + suc n - suc from = omega arith in (e, ap {B = List ℕ} (λ k. from ∷ passing q (suc from) k) m)
      go false e ih h =
          let m : suc from + n - suc later ≡ from + suc n - suc later = omega arith in
          let found = ih (omega arith) in
          (found.0, found.1 ∙ ap {B = List ℕ} (λ k. later ∷ passing q (suc later) k) m)

  -- It is at most the number past them.
  first_within : (from n : ℕ) → first_from q from n ≤ from + n
  unfolding first_from
  first_within from zero = omega arith
  first_within from (suc n) = go (q from) (first_within (suc from) n)
    where
      go : (b : Bool) → first_from q (suc from) n ≤ suc from + n → cond b from (first_from q (suc from) n) ≤ from + suc n
      go true h = omega arith
      go false h = omega arith

  -- Where there is none, none passes.
  none_passes : (from n : ℕ) → from + n ≤ first_from q from n → passing q from n ≡ []
  unfolding first_from passing
  none_passes from zero h = refl
  none_passes from (suc n) h = go (q from) (none_passes (suc from) n) h
    where
      later : ℕ
      later = first_from q (suc from) n

      go : (b : Bool) → (suc from + n ≤ later → passing q (suc from) n ≡ []) → from + suc n ≤ cond b from later
          → cond b (from ∷ passing q (suc from) n) (passing q (suc from) n) ≡ []
      go true ih h = absurd (omega arith)
      go false ih h = ih (omega arith)

-- ---- objects

-- The next object is at most the number past the last.
pub next_within : (tables : List ℕ) (kind n from : ℕ) → from ≤ object_count tables → object_from tables kind n from ≤ object_count tables
unfolding object_from
next_within tables kind n from h = omega (arith, first_within (in_target tables kind n) from (object_count tables - from))

-- The objects of a target are those from 0 on.
pub visited_is : (p : Program) (t : Target) → visited p t ≡ objects_from p t 0
unfolding visited objects_from
visited_is p t =
    let e : length p.library.objects ≡ length p.library.objects - 0 = omega arith in
    keep_is (Model.in_target p t) (length p.library.objects) ∙ ap (passing (Model.in_target p t) 0) e

module _ (text tables : List ℕ) (p : Program) (fits : Fits text tables p) where
  module _ (t : Target) (o : ℕ) where
    -- The objects from one that is in the target on, and from past the last on.
    pub objects_here : o < object_count tables → Model.in_target p t o ≡ true → objects_from p t o ≡ o ∷ objects_from p t (suc o)
    unfolding objects_from passing
    objects_here h e =
        let n = length p.library.objects in
        let m : n - o ≡ suc (n - suc o) = omega (arith, object_total text tables p fits) in
        rw (m, e) refl

    pub objects_past : object_count tables ≤ o → objects_from p t o ≡ []
    unfolding objects_from passing
    objects_past h =
        let n = length p.library.objects in
        let m : n - o ≡ 0 = omega (arith, object_total text tables p fits) in
        rw m refl

  -- The next object by the words.
  module _ (kind n from : ℕ) (there : target_there tables kind n ≡ true) where
    abbrev next : ℕ
    next = object_from tables kind n from

    abbrev target : Target
    target = target_by kind n

    abbrev left : ℕ
    left = length p.library.objects - from

    next_is : next ≡ first_from (Model.in_target p target) from left
    unfolding object_from
    next_is =
        let e : object_count tables - from ≡ left = omega (arith, object_total text tables p fits) in
        first_same (in_target tables kind n) (Model.in_target p target) from (object_count tables - from)
        (λ i g h. target_is text tables p fits kind n i there (omega arith))
        ∙ ap (first_from (Model.in_target p target) from) e

    from_past : (m o : ℕ) → m ≡ 0 → o ≡ first_from (Model.in_target p target) from m → o ≡ from
    unfolding first_from
    from_past m o e q = q ∙ ap (first_from (Model.in_target p target) from) e

    -- There is a next object: it is in the target, and the objects left are it and those after it.
    pub next_some : next < object_count tables → (Model.in_target p target next ≡ true) × (objects_from p target from ≡ next ∷ objects_from p target (suc next))
    unfolding objects_from
    next_some h = go (dec_lt from (object_count tables))
      where
        total : length p.library.objects ≡ object_count tables
        total = object_total text tables p fits

        go : Dec (from < object_count tables)
            → (Model.in_target p target next ≡ true) × (objects_from p target from ≡ next ∷ objects_from p target (suc next))
        go (yes w) =
            let m : from + left ≡ length p.library.objects = omega (arith, total) in
            subst (λ (o : ℕ). (Model.in_target p target o ≡ true) × (objects_from p target from ≡ o ∷ objects_from p target (suc o))) (sym next_is)
            (subst (λ (k : ℕ). let o = first_from (Model.in_target p target) from left in
            (Model.in_target p target o ≡ true) × (passing (Model.in_target p target) from left ≡ o ∷ passing (Model.in_target p target) (suc o) (k - suc o))) m
            (first_passes (Model.in_target p target) from left (omega (arith, next_is, total))))
        go (no w) = absurd (let z = from_past left next (omega (arith, total)) next_is in omega arith)

    -- There is no next object: no object is left.
    pub next_none : object_count tables ≤ next → objects_from p target from ≡ []
    unfolding objects_from
    next_none h = go (dec_lt from (object_count tables))
      where
        total : length p.library.objects ≡ object_count tables
        total = object_total text tables p fits

        go : Dec (from < object_count tables) → objects_from p target from ≡ []
        go (yes w) = none_passes (Model.in_target p target) from left (omega (arith, next_is, total))
        go (no w) = objects_past target from (omega arith)
