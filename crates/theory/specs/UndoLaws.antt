-- Undo: an abort puts back the values before the transaction's first sets and takes back its additions, whatever other transactions
-- set elsewhere or added in the same places.
use Rattle.std.specs.Prelude.{ℕ, zero, suc, ◌+◌, ◌%◌, ◌<◌, ◌≡◌, refl, List, [], ◌∷◌, length, get_or, set}
use Rattle.std.proofs.Common.{arith, sym, ap, subst, ◌∙◌, length-set, get_or-set_same, get_or-set_other}
use Rattle.std.proofs.Math.Decide.{ℕ_discrete}
use Rattle.model.specs.Base.{put}
use Rattle.model.specs.Form.{Change, replace, increase}
use Rattle.model.specs.Vector.{Program}
use Rattle.model.specs.Message.{Message, changed, Effect, idle, store, act}
use Rattle.model.specs.Undo.{Note, sum_added, old_value, Undo, renoted, noted, restored, put_back}
use Rattle.laws.specs.PutBack.{back_same}
use Rattle.laws.specs.Sums.{nothing_back, added_back, addition_stays}
use Rattle.laws.specs.Basics.{put_same, put_other}
use Rattle.theory.specs.Footprint.{May, Agree, Free, Beside, Aside}
use Rattle.theory.specs.Locality.{alter, both_add}

-- ---- at one place

-- Putting back a change just noted gives what putting back before it gives.
change_back : (how : Change) (note : Note) (x v : ℕ) → restored (renoted how note x v) (changed how x v) ≡ restored note x
change_back replace (sum_added sum) x v = refl
change_back replace (old_value u) x v = refl
change_back increase (sum_added sum) x v = added_back x v sum
change_back increase (old_value u) x v = refl

-- Putting back goes past a change that its note does not meet.
change_stays : (how : Change) (note : Note) → Beside how note → (x v : ℕ) → restored note (changed how x v) ≡ changed how (restored note x) v
change_stays replace note e x v = ap (λ (n : Note). restored n v) e ∙ nothing_back v
change_stays increase note (sum, e) x v = rw e (addition_stays x v sum)

-- ---- all places

-- Putting back after an effect and its note gives what putting back before it gives.
pub back_noted : (u : Undo) (e : Effect) (fields : List ℕ) → put_back (noted u e fields) (act e fields) ≡ put_back u fields
back_noted u idle fields = refl
back_noted u (store how k v) fields =
    back_same (put u k note) u (set fields k y) fields (length-set fields k y) (λ i h. go i (let a = length-set fields k y in omega arith) (ℕ_discrete i k))
  where
    x : ℕ
    x = get_or fields k 0

    y : ℕ
    y = changed how x v

    note : Note
    note = renoted how (u k) x v

    go : (i : ℕ) → i < length fields → Dec (i ≡ k) → restored (put u k note i) (get_or (set fields k y) i 0) ≡ restored (u i) (get_or fields i 0)
    go i h (yes e) = rw (e, put_same, get_or-set_same fields k y 0 (omega arith)) (change_back how (u k) x v)
    go i h (no ne) = rw (put_other u k note i ne, get_or-set_other fields k i y 0 ne) refl

-- There are no notes at first.
pub aside_clean : (e : Effect) → Aside (λ k. sum_added 0) e
aside_clean idle = tt
aside_clean (store replace k v) = refl
aside_clean (store increase k v) = (0, refl)

alter_back : (u : Undo) (k : ℕ) (f : ℕ → ℕ) (fields : List ℕ) → ((x : ℕ) → restored (u k) (f x) ≡ f (restored (u k) x))
    → put_back u (alter fields k f) ≡ alter (put_back u fields) k f
unfolding put_back
alter_back u k f [] h = refl
alter_back u zero f (x ∷ xs) h = ap {B = List ℕ} (λ y. y ∷ put_back (λ k. u (suc k)) xs) (h x)
alter_back u (suc k) f (x ∷ xs) h = ap {B = List ℕ} (λ ys. restored (u zero) x ∷ ys) (alter_back (λ k. u (suc k)) k f xs h)

-- Putting back commutes with an effect that the notes do not meet.
pub aside_back : (u : Undo) (e : Effect) (fields : List ℕ) → Aside u e → put_back u (act e fields) ≡ act e (put_back u fields)
aside_back u idle fields a = refl
aside_back u (store how k v) fields a = alter_back u k (λ x. changed how x v) fields (λ x. change_stays how (u k) a x v)

module _ (p : Program) (m : Message) where
  -- A message makes the same notes in fields that agree wherever it may read.
  pub noted_local : (u : Undo) (e : Effect) (fields others : List ℕ) → May p m e → Agree p m fields others → noted u e fields ≡ noted u e others
  noted_local u idle fields others y a = refl
  noted_local u (store replace k v) fields others y a = ap (λ x. put u k (renoted replace (u k) x v))
      (subst (λ x. get_or fields x 0 ≡ get_or others x 0) (sym y.there) (a.alike y.on y.at y.visits y.inside (y.allowed.depend refl)))
  noted_local u (store increase k v) fields others y a = ap (put u k) (unread (u k))
    where
      unread : (note : Note) → renoted increase note (get_or fields k 0) v ≡ renoted increase note (get_or others k 0) v
      unread (sum_added sum) = refl
      unread (old_value w) = refl

  -- Its notes do not meet the changes that a message which is free of it may make.
  pub aside_noted : (n : Message) (u : Undo) (d e : Effect) (fields : List ℕ) → Free p m n → May p m d → May p n e → Aside u e
      → Aside (noted u d fields) e
  aside_noted n u idle e fields f x y a = a
  aside_noted n u (store how j v) idle fields f x y a = tt
  aside_noted n u (store how j v) (store how' k w) fields f x y a = go (ℕ_discrete k j)
    where
      note : Note
      note = renoted how (u j) (get_or fields j 0) v

      summed : (sum : ℕ) → u j ≡ sum_added sum → renoted increase (u j) (get_or fields j 0) v ≡ sum_added ((sum + v) % 4294967296)
      summed sum e = ap (λ (z : Note). renoted increase z (get_or fields j 0) v) e

      added : (how how' : Change) → (how ≡ increase) × (how' ≡ increase) → Beside how' (u j) → Beside how' (renoted how (u j) (get_or fields j 0) v)
      added how how' (a, b) c =
          subst (λ z. Beside z (renoted how (u j) (get_or fields j 0) v)) (sym b)
          (subst (λ z. Beside increase (renoted z (u j) (get_or fields j 0) v)) (sym a)
          (let t = subst (λ z. Beside z (u j)) b c in ((t.0 + v) % 4294967296, summed t.0 t.1)))

      go : Dec (k ≡ j) → Beside how' (put u j note k)
      go (yes e) =
          subst (Beside how') (sym (ap (put u j note) e ∙ put_same u j note))
          (added how how' (both_add p m n f how how' j k x y (sym e)) (subst (λ i. Beside how' (u i)) e a))
      go (no ne) = subst (Beside how') (sym (put_other u j note k ne)) a
