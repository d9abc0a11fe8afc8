-- Marks of numbered vertices, 0 not met, 1 met, 2 followed: following every vertex that is met, until none is left, marks
-- those reached.
use Prim.Native.Nat.{ℕ, zero, suc, ◌+◌, ◌<◌}
use Rattle.std.specs.Prelude.{◌≡◌, ◌⊎◌, Bool, cond, set, Option, MatchOption}
use Rattle.std.proofs.Math.Path.{refl, ap, subst}
use Rattle.std.proofs.Common.{sym, ◌∙◌, add-one, get_or-set_other}
use Rattle.std.proofs.Math.Logic.{inl, inr, ⊎_elim}
use Rattle.std.proofs.Math.Bool.{true, false}
use mathlib.Core.List.{List, [], ◌∷◌}
use native.Mathlib.Omega.{arith}
use Rattle.std.proofs.Math.ListN.{length, get_or, length-set, get_or-eq_default}
use Rattle.std.proofs.Math.Seq.{get_or-set_same, set_out}
use Rattle.std.proofs.Math.Dec.{eqb, ltb}
use borrow.Author.Tests.{eqb-true, eqb-false, ltb-true, ltb-false, eq-eqb, ne_eqb}
use Rattle.model.specs.Base.{digit}
use Rattle.model.specs.Graph.{Star, here, further}

-- The marks with a vertex met, where it is not yet; unchanged where there is no such vertex.
unfoldable pub touch : ℕ → List ℕ → List ℕ
touch y ms = cond (eqb (get_or ms y 0) 0) (set ms y 1) ms

-- The marks with g 0, g 1, .. g (n - 1) met.
unfoldable pub touched : (ℕ → ℕ) → ℕ → List ℕ → List ℕ
unfolding touch
touched g zero ms = ms
touched g (suc n) ms = touch (g n) (touched g n ms)

pub touch_new : (y : ℕ) (ms : List ℕ) → get_or ms y 0 ≡ 0 → set ms y 1 ≡ touch y ms
unfolding touch
touch_new y ms e = rw (eq-eqb (get_or ms y 0) 0 e)

pub touch_old : (y : ℕ) (ms : List ℕ) → (get_or ms y 0 ≡ 0 → ⊥) → ms ≡ touch y ms
unfolding touch
touch_old y ms e = rw (ne_eqb (get_or ms y 0) 0 e)

pub touched_more : (g : ℕ → ℕ) (n : ℕ) (ms : List ℕ) → touch (g n) (touched g n ms) ≡ touched g (n + 1) ms
unfolding touched
touched_more g n ms = rw add-one

-- The number of vertices that are not followed.
unfoldable pub left : List ℕ → ℕ
left [] = 0
left (m ∷ ms) = digit (ltb m 2) + left ms

left_set : (ms : List ℕ) (i v : ℕ) → i < length ms → left (set ms i v) + digit (ltb (get_or ms i 0) 2) ≡ left ms + digit (ltb v 2)
unfolding left
left_set [] i v h = absurd (omega arith)
left_set (m ∷ ms) zero v h = omega arith
left_set (m ∷ ms) (suc i) v h = let e = left_set ms i v (omega arith) in omega arith

-- ---- one vertex met

module _ (y : ℕ) (ms : List ℕ) where
  -- The mark of z is as it was, or z is y and was not met.
  abbrev Touched : ℕ → Type 0
  Touched z = (get_or (touch y ms) z 0 ≡ get_or ms z 0) ⊎ ((y ≡ z) × (z < length ms) × (get_or (touch y ms) z 0 ≡ 1))

  touch_at : (z : ℕ) → Touched z
  unfolding touch
  touch_at z = go (eqb (get_or ms y 0) 0) (eqb z y) (ltb y (length ms)) refl refl refl
    where
      go : (a b d : Bool) → eqb (get_or ms y 0) 0 ≡ a → eqb z y ≡ b → ltb y (length ms) ≡ d
          → (get_or (cond a (set ms y 1) ms) z 0 ≡ get_or ms z 0) ⊎ ((y ≡ z) × (z < length ms) × (get_or (cond a (set ms y 1) ms) z 0 ≡ 1))
      go false b d p q r = inl refl
      go true false d p q r = inl (get_or-set_other ms y z 1 0 (eqb-false z y q))
      go true true false p q r = inl (ap (λ (l : List ℕ). get_or l z 0) (set_out ms y 1 (ltb-false y (length ms) r)))
      go true true true p q r =
          let e = eqb-true z y q in
          let h = ltb-true y (length ms) r in
          inr (sym e, omega arith, ap (λ (i : ℕ). get_or (set ms y 1) i 0) e ∙ get_or-set_same ms y 1 0 h)

  touch_met : y < length ms → 0 < get_or (touch y ms) y 0
  unfolding touch
  touch_met h = go (eqb (get_or ms y 0) 0) refl
    where
      go : (a : Bool) → eqb (get_or ms y 0) 0 ≡ a → 0 < get_or (cond a (set ms y 1) ms) y 0
      go true p = omega (arith, get_or-set_same ms y 1 0 h)
      go false p = omega (arith, eqb-false (get_or ms y 0) 0 p)

  touch_length : length (touch y ms) ≡ length ms
  unfolding touch
  touch_length = go (eqb (get_or ms y 0) 0)
    where
      go : (a : Bool) → length (cond a (set ms y 1) ms) ≡ length ms
      go true = length-set ms y 1
      go false = refl

  touch_left : left (touch y ms) ≡ left ms
  unfolding touch
  touch_left = go (eqb (get_or ms y 0) 0) (ltb y (length ms)) refl refl
    where
      go : (a d : Bool) → eqb (get_or ms y 0) 0 ≡ a → ltb y (length ms) ≡ d → left (cond a (set ms y 1) ms) ≡ left ms
      go false d p r = refl
      go true false p r = ap left (set_out ms y 1 (ltb-false y (length ms) r))
      go true true p r =
          let z : digit (ltb (get_or ms y 0) 2) ≡ 1 = ap (λ (m : ℕ). digit (ltb m 2)) (eqb-true (get_or ms y 0) 0 p) in
          omega (arith, left_set ms y 1 (ltb-true y (length ms) r))

-- ---- several met

module _ (g : ℕ → ℕ) (ms : List ℕ) where
  pub touched_length : (n : ℕ) → length (touched g n ms) ≡ length ms
  unfolding touched
  touched_length zero = refl
  touched_length (suc n) = touch_length (g n) (touched g n ms) ∙ touched_length n

  touched_left : (n : ℕ) → left (touched g n ms) ≡ left ms
  unfolding touched
  touched_left zero = refl
  touched_left (suc n) = touch_left (g n) (touched g n ms) ∙ touched_left n

  touched_kept : (n z : ℕ) → 0 < get_or ms z 0 → 0 < get_or (touched g n ms) z 0
  unfolding touched
  touched_kept zero z h = h
  touched_kept (suc n) z h = let k = touched_kept n z h in ⊎_elim (λ e. omega arith) (λ e. omega (arith, e.2)) (touch_at (g n) (touched g n ms) z)

  touched_high : (n z : ℕ) → 1 < get_or (touched g n ms) z 0 → 1 < get_or ms z 0
  unfolding touched
  touched_high zero z h = h
  touched_high (suc n) z h = touched_high n z (⊎_elim (λ e. omega arith) (λ e. absurd (omega (arith, e.2))) (touch_at (g n) (touched g n ms) z))

  touched_met : (n j : ℕ) → j < n → g j < length ms → 0 < get_or (touched g n ms) (g j) 0
  unfolding touched
  touched_met zero j h k = absurd (omega arith)
  touched_met (suc n) j h k = go (eqb j n) refl (touched_met n j)
    where
      go : (t : Bool) → eqb j n ≡ t → (j < n → g j < length ms → 0 < get_or (touched g n ms) (g j) 0) → 0 < get_or (touch (g n) (touched g n ms)) (g j) 0
      go true t r =
          let e = eqb-true j n t in
          let l = touched_length n in
          subst (λ (i : ℕ). 0 < get_or (touch (g n) (touched g n ms)) (g i) 0) (sym e)
          (touch_met (g n) (touched g n ms) (subst (λ (i : ℕ). g i < length (touched g n ms)) e (omega arith)))
      go false t r =
          let m = r (omega (arith, eqb-false j n t)) k in
          ⊎_elim (λ e. omega arith) (λ e. omega (arith, e.2)) (touch_at (g n) (touched g n ms) (g j))

  touched_only : (n z : ℕ) → 0 < get_or (touched g n ms) z 0 → (0 < get_or ms z 0) ⊎ ((j : ℕ) × (j < n) × (g j ≡ z) × (z < length ms))
  unfolding touched
  touched_only zero z h = inl h
  touched_only (suc n) z h = go (touched_only n z) (touch_at (g n) (touched g n ms) z)
    where
      later : (0 < get_or ms z 0) ⊎ ((j : ℕ) × (j < n) × (g j ≡ z) × (z < length ms)) → (0 < get_or ms z 0) ⊎ ((j : ℕ) × (j < suc n) × (g j ≡ z) × (z < length ms))
      later (inl k) = inl k
      later (inr (j, k, e, l)) = inr (j, omega arith, e, l)

      go : (0 < get_or (touched g n ms) z 0 → (0 < get_or ms z 0) ⊎ ((j : ℕ) × (j < n) × (g j ≡ z) × (z < length ms))) → Touched (g n) (touched g n ms) z
          → (0 < get_or ms z 0) ⊎ ((j : ℕ) × (j < suc n) × (g j ≡ z) × (z < length ms))
      go r (inl e) = later (r (omega arith))
      go r (inr (e, k, q)) = inr (n, omega arith, e, omega (arith, touched_length n))

-- Following a vertex leaves one less to follow.
turn_less : (g : ℕ → ℕ) (n : ℕ) (ms : List ℕ) (x : ℕ) → get_or ms x 0 ≡ 1 → x < length ms → left (touched g n (set ms x 2)) < left ms
turn_less g n ms x met inside =
    let d : digit (ltb (get_or ms x 0) 2) ≡ 1 = ap (λ (m : ℕ). digit (ltb m 2)) met in
    omega (arith, touched_left g (set ms x 2) n, left_set ms x 2 inside)

-- ---- the worklist

module _ (E : ℕ → ℕ → Type 0) (r : ℕ) where
  -- What is met is reached, and what is followed has all that it leads to met.
  pub record Partly (ms : List ℕ) : Type 0 where
    pub size : length ms ≡ 512
    pub root : 0 < get_or ms r 0
    pub reached : (x : ℕ) → 0 < get_or ms x 0 → Star E r x
    pub followed : (x y : ℕ) → 1 < get_or ms x 0 → E x y → 0 < get_or ms y 0

  -- What is met is what is reached.
  pub record Closed (ms : List ℕ) : Type 0 where
    pub size : length ms ≡ 512
    pub sound : (x : ℕ) → 0 < get_or ms x 0 → Star E r x
    pub complete : (x : ℕ) → Star E r x → 0 < get_or ms x 0

  -- At first one vertex is met.
  pub partly_root : (ms : List ℕ) → length ms ≡ 512 → r < 512 → ((x : ℕ) → get_or ms x 0 ≡ 0) → Partly (touch r ms)
  partly_root ms e h none = record {
    size = touch_length r ms ∙ e;
    root = touch_met r ms (omega arith);
    reached = λ x k. ⊎_elim (λ q. absurd (omega (arith, none x))) (λ q. subst (Star E r) q.0 here) (touch_at r ms x);
    followed = λ x y k c. absurd (⊎_elim (λ q. omega (arith, none x)) (λ q. omega (arith, q.2)) (touch_at r ms x));
  }

  -- A vertex that is followed, whose calls are g 0 .. g (n - 1).
  module _ (ms : List ℕ) (i : Partly ms) (x : ℕ) (met : get_or ms x 0 ≡ 1) (inside : x < length ms) (g : ℕ → ℕ) (n : ℕ) where
    abbrev after : List ℕ
    after = touched g n (set ms x 2)

    set_kept : (z : ℕ) → 0 < get_or ms z 0 → 0 < get_or (set ms x 2) z 0
    set_kept z h = go (eqb z x) refl
      where
        go : (t : Bool) → eqb z x ≡ t → 0 < get_or (set ms x 2) z 0
        go true t = rw (eqb-true z x t) (omega (arith, get_or-set_same ms x 2 0 inside))
        go false t = omega (arith, get_or-set_other ms x z 2 0 (eqb-false z x t))

    set_only : (z : ℕ) → 0 < get_or (set ms x 2) z 0 → 0 < get_or ms z 0
    set_only z h = go (eqb z x) refl
      where
        go : (t : Bool) → eqb z x ≡ t → 0 < get_or ms z 0
        go true t = rw (eqb-true z x t) (omega arith)
        go false t = omega (arith, get_or-set_other ms x z 2 0 (eqb-false z x t))

    set_high : (z : ℕ) → 1 < get_or (set ms x 2) z 0 → (z ≡ x) ⊎ (1 < get_or ms z 0)
    set_high z h = go (eqb z x) refl
      where
        go : (t : Bool) → eqb z x ≡ t → (z ≡ x) ⊎ (1 < get_or ms z 0)
        go true t = inl (eqb-true z x t)
        go false t = inr (omega (arith, get_or-set_other ms x z 2 0 (eqb-false z x t)))

    kept : (z : ℕ) → 0 < get_or ms z 0 → 0 < get_or after z 0
    kept z h = touched_kept g (set ms x 2) n z (set_kept z h)

    pub turn_partly : ((j : ℕ) → j < n → g j < 512 → E x (g j)) → ((y : ℕ) → E x y → (j : ℕ) × (j < n) × (g j ≡ y) × (y < 512)) → Partly after
    turn_partly sound complete = record {
      size = touched_length g (set ms x 2) n ∙ length-set ms x 2 ∙ i.size;
      root = kept r i.root;
      reached = λ z h. ⊎_elim (λ k. i.reached z (set_only z k)) (λ k. new z k) (touched_only g (set ms x 2) n z h);
      followed = λ z y h k. ⊎_elim (λ e. here_followed z y e k) (λ m. kept y (i.followed z y m k)) (set_high z (touched_high g (set ms x 2) n z h));
    }
      where
        long : length (set ms x 2) ≡ 512
        long = length-set ms x 2 ∙ i.size

        new : (z : ℕ) → ((j : ℕ) × (j < n) × (g j ≡ z) × (z < length (set ms x 2))) → Star E r z
        new z (j, h, e, l) = subst (Star E r) e (further (i.reached x (omega arith)) (sound j h (omega (arith, long))))

        here_followed : (z y : ℕ) → z ≡ x → E z y → 0 < get_or after y 0
        here_followed z y e k =
            let (j, h, q, l) = complete y (subst (λ (v : ℕ). E v y) e k) in
            subst (λ (v : ℕ). 0 < get_or after v 0) q (touched_met g (set ms x 2) n j h (omega (arith, long)))

  -- Where no vertex is left to follow, what is met is what is reached.
  pub partly_closed : (ms : List ℕ) → Partly ms → ((x : ℕ) → get_or ms x 0 ≡ 1 → ⊥) → Closed ms
  partly_closed ms i none = record { size = i.size; sound = i.reached; complete = complete }
    where
      complete : (x : ℕ) → Star E r x → 0 < get_or ms x 0
      complete x here = i.root
      complete x (further {v = u} s k) = let h = complete u s in i.followed u x (omega (arith, none u)) k

-- ---- what the code's steps answer

-- A vertex to follow, or none where none is left.
abbrev pub NextMet : List ℕ → Option ℕ → Type 0
NextMet ms r = MatchOption r ((x : ℕ) → x < 512 → get_or ms x 0 ≡ 1 → ⊥) (λ x. get_or ms x 0 ≡ 1)

-- All that x leads to is met.
pub record CallsMet (E : ℕ → ℕ → Type 0) (x : ℕ) (ms ms' : List ℕ) : Type 0 where
  pub call : ℕ → ℕ
  pub count : ℕ
  pub sound : (j : ℕ) → j < count → call j < 512 → E x (call j)
  pub complete : (y : ℕ) → E x y → (j : ℕ) × (j < count) × (call j ≡ y) × (y < 512)
  pub result : ms' ≡ touched call count ms

-- A vertex x that was met is followed.
pub record Followed (E : ℕ → ℕ → Type 0) (x : ℕ) (ms ms' : List ℕ) : Type 0 where
  pub size : length ms' ≡ length ms
  pub less : get_or ms x 0 ≡ 1 → left ms' < left ms
  pub partly : get_or ms x 0 ≡ 1 → (r : ℕ) → Partly E r ms → Partly E r ms'

met_inside : (ms : List ℕ) (x : ℕ) → get_or ms x 0 ≡ 1 → x < length ms
met_inside ms x e = go (ltb x (length ms)) refl
  where
    go : (t : Bool) → ltb x (length ms) ≡ t → x < length ms
    go true t = ltb-true x (length ms) t
    go false t = absurd (omega (arith, get_or-eq_default ms 0 (ltb-false x (length ms) t)))

pub followed : (E : ℕ → ℕ → Type 0) (x : ℕ) (ms ms₁ ms' : List ℕ) → ms₁ ≡ set ms x 2 → CallsMet E x ms₁ ms' → Followed E x ms ms'
followed E x ms ms₁ ms' q m =
    let result : ms' ≡ touched m.call m.count (set ms x 2) = m.result ∙ ap (touched m.call m.count) q in
    record {
      size = ap length result ∙ touched_length m.call (set ms x 2) m.count ∙ length-set ms x 2;
      less = λ e. subst (λ (l : List ℕ). left l < left ms) (sym result) (turn_less m.call m.count ms x e (met_inside ms x e));
      partly = λ e r i. subst (Partly E r) (sym result) (turn_partly E r ms i x e (met_inside ms x e) m.call m.count m.sound m.complete);
    }

-- The state of the worklist: what it began with is kept.
pub record Closing (E : ℕ → ℕ → Type 0) (ms₀ ms : List ℕ) : Type 0 where
  pub size : length ms ≡ length ms₀
  pub partly : (r : ℕ) → Partly E r ms₀ → Partly E r ms

module _ (E : ℕ → ℕ → Type 0) (ms₀ : List ℕ) where
  pub closing_start : Closing E ms₀ ms₀
  closing_start = record { size = refl; partly = λ r i. i }

  pub closing_more : (ms : List ℕ) (x : ℕ) (ms' : List ℕ) → Closing E ms₀ ms → get_or ms x 0 ≡ 1 → Followed E x ms ms' → Closing E ms₀ ms'
  closing_more ms x ms' c h f = record { size = f.size ∙ c.size; partly = λ r i. f.partly h r (c.partly r i) }

  pub closing_end : (ms : List ℕ) → Closing E ms₀ ms → ((x : ℕ) → x < 512 → get_or ms x 0 ≡ 1 → ⊥) → (r : ℕ) → Partly E r ms₀ → Closed E r ms
  closing_end ms c none r i =
      let p = c.partly r i in
      partly_closed E r ms p (λ y e. none y (omega (arith, met_inside ms y e, p.size)) e)
