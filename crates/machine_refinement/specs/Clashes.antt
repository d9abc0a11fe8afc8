-- The test of locks: a row's masks meet the commuting masks of a send's methods exactly where the model's locks clash. A
-- lock of a method that its class does not have never clashes, since its vector has no fields.
use Rattle.std.specs.Prelude.{ℕ, zero, suc, ◌+◌, ◌^◌, ◌≤◌, ◌<◌, ◌≡◌, cond, ◌&&◌, ◌⊎◌, length}
use Rattle.std.proofs.Common.{arith, sym, subst, ◌∙◌, true≢false, ⊎_elim, pow_mono}
use Rattle.std.proofs.Math.Decide.{dec_lt}
use Rattle.std.proofs.Math.Path.{refl, ap, ap₂}
use Rattle.std.proofs.Math.Bool.{Bool, true, false, not, ◌||◌}
use mathlib.Core.List.Memᴰ
use mathlib.Core.List.{List, [], ◌∷◌, map, Memᴰ}
use Rattle.std.proofs.Math.ListN.{get_or, get_or-eq_default}
use Rattle.std.proofs.lemmas.List.{length-map}
use Rattle.std.proofs.lemmas.Bool.{not-true}
use Rattle.layout.specs.Layout.{commuting_at}
use Rattle.model.specs.Base.{same, any, every, keep, upto}
use Rattle.model.specs.Word.{Name}
use Rattle.model.specs.Library.{Member, class_at, member_place, method_names}
use Rattle.model.specs.Vector.{Program, Vector, commute, vector_of, commute_in}
use Rattle.model.specs.Lock.{Lock, on_object, on_class, lock_method, same_place, same_lock}
use Rattle.laws.specs.Bits.{bit, mask_lt, bit_mask}
use Rattle.catalog.specs.View.{class_word, class_count, member_count}
use Rattle.laws.specs.Lists.{both_left, both_right, same_sound, any_member, member_any, map_at, same_test, both_true, not_of}
use Rattle.machine_words.specs.Request.{meets}
use Rattle.machine_refinement.specs.Rep.{Fits, lock_word, lock_class, lock_bit, on_known, Holdable, held_in, Holds}
use Rattle.machine_words.specs.Meeting.{meet_at, at_meet}
use Rattle.machine_refinement.specs.Tables.{method_total}
use Rattle.machine_refinement.specs.Locks.{lock_refl, place_word, place_class, place_known, few_members}

-- ---- lists

module _ {A : Type 0} where
  pub any_same : (q r : A → Bool) (xs : List A) → ((x : A) → Memᴰ x xs → q x ≡ r x) → any q xs ≡ any r xs
  unfolding any
  any_same q r [] e = refl
  any_same q r (x ∷ xs) e = ap₂ ◌||◌ (e x (Memᴰ.head refl)) (any_same q r xs (λ y m. e y (Memᴰ.tail m)))

  pub any_or : (q r : A → Bool) (xs : List A) → (any q xs || any r xs) ≡ any (λ x. q x || r x) xs
  unfolding any
  any_or q r [] = refl
  any_or q r (x ∷ xs) = go (q x) (r x) (any q xs) (any r xs) (any_or q r xs)
    where
      go : (a b c d : Bool) → (c || d) ≡ any (λ x. q x || r x) xs → ((a || c) || (b || d)) ≡ ((a || b) || any (λ x. q x || r x) xs)
      go true b c d e = refl
      go false false c d e = e
      go false true true d e = refl
      go false true false d e = refl

  pub any_kept : {B : Type 0} (q : B → Bool) (f : A → B) (t : A → Bool) (xs : List A) → any q (map f (keep t xs)) ≡ any (λ x. t x && q (f x)) xs
  unfolding any keep
  any_kept q f t [] = refl
  any_kept q f t (x ∷ xs) = go (t x) (any_kept q f t xs)
    where
      go : (b : Bool) → any q (map f (keep t xs)) ≡ any (λ x. t x && q (f x)) xs
          → any q (map f (cond b (x ∷ keep t xs) (keep t xs))) ≡ ((b && q (f x)) || any (λ x. t x && q (f x)) xs)
      go true e = ap (λ (z : Bool). q (f x) || z) e
      go false e = e

  pub every_kept : {B : Type 0} (q : B → Bool) (f : A → B) (t : A → Bool) (xs : List A) → every q (map f (keep t xs)) ≡ not (any (λ x. t x && not (q (f x))) xs)
  unfolding any every keep
  every_kept q f t [] = refl
  every_kept q f t (x ∷ xs) = go (t x) (every_kept q f t xs)
    where
      rest : Bool
      rest = any (λ x. t x && not (q (f x))) xs

      first : (y : Bool) → (y && not rest) ≡ not (not y || rest)
      first true = refl
      first false = refl

      go : (b : Bool) → every q (map f (keep t xs)) ≡ not rest
          → every q (map f (cond b (x ∷ keep t xs) (keep t xs))) ≡ not ((b && not (q (f x))) || rest)
      go true e = ap (λ (z : Bool). q (f x) && z) e ∙ first (q (f x))
      go false e = e

-- Numbers counted up to n are below n.
pub below_count : (n : ℕ) {d : ℕ} → Memᴰ d (upto (λ k. k) n) → d < n
unfolding upto
below_count zero m = absurd (Memᴰ.not-nil m)
below_count (suc n) {d} m = go (λ k. below_count n k) (Memᴰ.append_cases (upto (λ k. k) n) m)
  where
    go : (Memᴰ d (upto (λ k. k) n) → d < n) → Memᴰ d (upto (λ k. k) n) ⊎ Memᴰ d (n ∷ []) → d < suc n
    go ih = ⊎_elim (λ k. let h = ih k in omega arith) (λ k. let e = Memᴰ.eq_of_singleton k in omega arith)

none_commutes : (v : Vector) → commute v [] ≡ true
unfolding commute
none_commutes [] = refl
none_commutes (x ∷ v) = refl

-- Whether a lock is in the place of z, for a method that does not commute with m in class c.
abbrev pub against : Program → ℕ → Name → Lock → Lock → Bool
against p c m z u = same_place z u && not (commute_in p c m (lock_method u))

-- The lock in the same place for another method.
abbrev in_place : Lock → Name → Lock
in_place (on_object o m) n = on_object o n
in_place (on_class c m w) n = on_class c n w

module _ (p : Program) where
  place_in : (z : Lock) (n : Name) → same_place z (in_place z n) ≡ true
  place_in (on_object o m) n = both_left (same_place (on_object o m) (on_object o m)) (same m m) (lock_refl (on_object o m))
  place_in (on_class c m w) n = both_left (same_place (on_class c m w) (on_class c m w)) (same m m) (lock_refl (on_class c m w))

  method_in : (z : Lock) (n : Name) → lock_method (in_place z n) ≡ n
  method_in (on_object o m) n = refl
  method_in (on_class c m w) n = refl

  in_same : (z : Lock) (n : Name) (u : Lock) → same_place (in_place z n) u ≡ same_place z u
  in_same (on_object o m) n (on_object q k) = refl
  in_same (on_object o m) n (on_class d k v) = refl
  in_same (on_class c m w) n (on_object q k) = refl
  in_same (on_class c m w) n (on_class d k v) = refl

-- ---- one method's commuting mask

module _ (text tables : List ℕ) (p : Program) (fits : Fits text tables p) (c : ℕ) (h : c < class_count tables) (m : Name) where
  abbrev ms : List Member
  ms = (class_at p.library c).methods

  abbrev place : ℕ
  place = member_place ms m

  -- A method that the class does not have, on either side, commutes with all.
  pub strange_commutes : member_count tables c 1 ≤ place → (n : Name) → commute_in p c m n ≡ true
  unfolding commute_in vector_of commute
  strange_commutes far n =
      ap (λ (v : Vector). commute v (vector_of p c n)) (get_or-eq_default (get_or p.vectors c []) [] (omega (arith, fits.rows c h)))

  commutes_strange : (n : Name) → member_count tables c 1 ≤ member_place ms n → commute_in p c m n ≡ true
  unfolding commute_in vector_of
  commutes_strange n far =
      ap (commute (vector_of p c m)) (get_or-eq_default (get_or p.vectors c []) [] (omega (arith, fits.rows c h))) ∙ none_commutes (vector_of p c m)

  module _ (has : place < member_count tables c 1) where
    abbrev commuting : ℕ
    commuting = class_word tables c (commuting_at + place)

    abbrev vs : List Vector
    vs = get_or p.vectors c []

    pub small : commuting < 4294967296
    small =
        let tests = map (commute (get_or vs place [])) vs in
        let e : length tests ≡ member_count tables c 1 = length-map vs (commute (get_or vs place [])) ∙ fits.rows c h in
        let few : length tests ≤ 32 = omega (arith, few_members tables c 1) in
        let q : 2 ^ length tests ≤ 2 ^ 32 = pow_mono few in
        omega (arith, fits.commuting c place h has, mask_lt tests)

    commuting_bit : (n : Name) → member_place ms n < member_count tables c 1 → bit commuting (member_place ms n) ≡ commute_in p c m n
    unfolding commute_in vector_of
    commuting_bit n k =
        ap (λ (w : ℕ). bit w (member_place ms n)) (fits.commuting c place h has)
        ∙ bit_mask (map (commute (get_or vs place [])) vs) (member_place ms n)
        ∙ map_at (commute (get_or vs place [])) vs (member_place ms n) [] false (omega (arith, fits.rows c h))

    -- A word of locks meets the mask where a lock of the list, in the word's place, does not commute.
    module _ (row : List ℕ) (held : List Lock) (holds : Holds p row held) (z : Lock) (known : on_known p z ≡ true) (on : lock_class p z ≡ c) where
      abbrev clashing : Lock → Bool
      clashing = against p c m z

      abbrev word : ℕ
      word = get_or row (lock_word z) 0

      total : length (class_at p.library (lock_class p z)).methods ≡ member_count tables c 1
      total = ap (λ (d : ℕ). length (class_at p.library d).methods) on ∙ method_total text tables p fits c h

      meets_some : meets word commuting ≡ true → any clashing held ≡ true
      unfolding held_in lock_bit
      meets_some e = at (meet_at word commuting small e)
        where
          -- The lock of that bit.
          named : (k : ℕ) → k < member_count tables c 1 → bit word k ≡ true → bit commuting k ≡ false → any clashing held ≡ true
          named k l b out = found (any_member (same_lock y) held (sym (holds.known y can) ∙ on_bit))
            where
              n : Name
              n = get_or (method_names p.library c) k []

              y : Lock
              y = in_place z n

              here : same_place z y ≡ true
              here = place_in p z n

              there : member_place ms n ≡ k
              there = fits.distinct c h k (omega (arith, method_total text tables p fits c h))

              bit_y : lock_bit p y ≡ k
              bit_y = ap₂ (λ (d : ℕ) (x : Name). member_place (class_at p.library d).methods x) (sym (place_class p z y here) ∙ on) (method_in p z n) ∙ there

              can : Holdable p y
              can = (
                place_known p z y here known,
                subst (λ (d : ℕ). lock_bit p y < length (class_at p.library d).methods) (place_class p z y here)
                    (omega (arith, bit_y, total)),
              )

              on_bit : held_in p row y ≡ true
              on_bit = ap₂ (λ (i d : ℕ). bit (get_or row i 0) d) (sym (place_word z y here)) bit_y ∙ b

              found : ((u : Lock) × Memᴰ u held × (same_lock y u ≡ true)) → any clashing held ≡ true
              found (u, inside, q) =
                  let method : n ≡ lock_method u = sym (method_in p z n) ∙ same_sound (lock_method y) (lock_method u)
                  (both_right (same_place y u) (same (lock_method y) (lock_method u)) q) in
                  let clash : commute_in p c m (lock_method u) ≡ false =
                  ap (commute_in p c m) (sym method) ∙ sym (commuting_bit n (omega (arith, there))) ∙ ap (bit commuting) there ∙ out in
                  member_any clashing inside (both_true (same_place z u) (not (commute_in p c m (lock_method u)))
                  (sym (in_same p z n u) ∙ both_left (same_place y u) (same (lock_method y) (lock_method u)) q) (not_of (commute_in p c m (lock_method u)) clash))

          at : ((k : ℕ) × (k < 32) × (bit word k ≡ true) × (bit commuting k ≡ false)) → any clashing held ≡ true
          at (k, l, b, out) = go (dec_lt k (member_count tables c 1))
            where
              go : Dec (k < member_count tables c 1) → any clashing held ≡ true
              go (yes w) = named k w b out
              go (no w) = absurd (true≢false (sym b ∙ holds.spare z known k (omega (arith, total))))

      some_meets : any clashing held ≡ true → meets word commuting ≡ true
      unfolding held_in lock_bit
      some_meets e = found (any_member clashing held e)
        where
          found : ((u : Lock) × Memᴰ u held × (clashing u ≡ true)) → meets word commuting ≡ true
          found (u, inside, q) = go (dec_lt (member_place ms (lock_method u)) (member_count tables c 1))
            where
              here : same_place z u ≡ true
              here = both_left (same_place z u) (not (commute_in p c m (lock_method u))) q

              out : commute_in p c m (lock_method u) ≡ false
              out = not-true (commute_in p c m (lock_method u)) (both_right (same_place z u) (not (commute_in p c m (lock_method u))) q)

              bit_u : lock_bit p u ≡ member_place ms (lock_method u)
              bit_u = ap (λ (d : ℕ). member_place (class_at p.library d).methods (lock_method u)) (sym (place_class p z u here) ∙ on)

              go : Dec (member_place ms (lock_method u) < member_count tables c 1) → meets word commuting ≡ true
              go (no w) = absurd (true≢false (sym (commutes_strange (lock_method u) (omega arith)) ∙ out))
              go (yes w) =
                  let can : Holdable p u = (
                    place_known p z u here known,
                    subst (λ (d : ℕ). lock_bit p u < length (class_at p.library d).methods) (place_class p z u here)
                        (omega (arith, bit_u, total)),
                  ) in
                  let on_bit : held_in p row u ≡ true = holds.known u can ∙ member_any (same_lock u) inside (lock_refl u) in
                  at_meet word commuting small (member_place ms (lock_method u)) (omega (arith, few_members tables c 1))
                  (ap₂ (λ (i d : ℕ). bit (get_or row i 0) d) (place_word z u here) (sym bit_u) ∙ on_bit) (commuting_bit (lock_method u) w ∙ out)

      -- So the word meets the mask exactly where the list has a lock against the method.
      pub word_meets : meets word commuting ≡ any (against p c m z) held
      word_meets = same_test (meets word commuting) (any clashing held) meets_some some_meets
