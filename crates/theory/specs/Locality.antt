-- Free messages do not interfere: their effects commute, and neither sees the other's.
use Rattle.std.specs.Prelude.{ℕ, zero, suc, ◌+◌, ◌<◌, ◌≡◌, refl, ◌≢◌, true, List, [], ◌∷◌, length, get_or, set}
use Rattle.std.proofs.Common.{arith, sym, ap, subst, subst₂, ◌∙◌, true≢false, length-set, get_or-set_other}
use Rattle.model.specs.Form.{Change, replace, increase}
use Rattle.model.specs.Mode.{depends, changes}
use Rattle.model.specs.Vector.{Program, mode_of}
use Rattle.model.specs.Message.{Message, size_of, base_of, changed, Effect, idle, store, act}
use Rattle.laws.specs.Sums.{additions_swap}
use Rattle.laws.specs.Modes.{clash_sym, depends_clashes}
use Rattle.theory.specs.Places.{one_object, one_field}
use Rattle.theory.specs.Footprint.{Visits, mode_at, Changes, May, Agree, Free}

-- ---- one value changed by a function of it

abbrev pub alter : List ℕ → ℕ → (ℕ → ℕ) → List ℕ
alter fields k f = set fields k (f (get_or fields k 0))

-- Lists of one length that agree at a place still do after the same change of both.
alter_alike : (fields others : List ℕ) (k : ℕ) (f : ℕ → ℕ) (i : ℕ) → length fields ≡ length others → get_or fields i 0 ≡ get_or others i 0
    → get_or (alter fields k f) i 0 ≡ get_or (alter others k f) i 0
alter_alike [] [] k f i long e = refl
alter_alike [] (y ∷ ys) k f i long e = absurd (omega arith)
alter_alike (x ∷ xs) [] k f i long e = absurd (omega arith)
alter_alike (x ∷ xs) (y ∷ ys) zero f zero long e = ap f e
alter_alike (x ∷ xs) (y ∷ ys) zero f (suc i) long e = e
alter_alike (x ∷ xs) (y ∷ ys) (suc k) f zero long e = e
alter_alike (x ∷ xs) (y ∷ ys) (suc k) f (suc i) long e = alter_alike xs ys k f i (omega arith) e

-- Two changes commute, at one place where the functions do.
alter_swap : (fields : List ℕ) (j k : ℕ) (f g : ℕ → ℕ) → (j ≡ k → (x : ℕ) → f (g x) ≡ g (f x)) → alter (alter fields k g) j f ≡ alter (alter fields j f) k g
alter_swap [] j k f g h = refl
alter_swap (x ∷ xs) zero zero f g h = ap {B = List ℕ} (λ y. y ∷ xs) (h refl x)
alter_swap (x ∷ xs) zero (suc k) f g h = refl
alter_swap (x ∷ xs) (suc j) zero f g h = refl
alter_swap (x ∷ xs) (suc j) (suc k) f g h = ap {B = List ℕ} (λ ys. x ∷ ys) (alter_swap xs j k f g (λ e. h (ap suc e)))

-- A statement that changes a field has a mode that does.
mode_changes : (how : Change) → changes (mode_of how) ≡ true
mode_changes replace = refl
mode_changes increase = refl

module _ (p : Program) (m : Message) where
  -- Agreement wherever the message may read is an equivalence.
  pub agree_refl : (fields : List ℕ) → Agree p m fields fields
  agree_refl fields = record { long = refl; alike = λ o k a h d. refl }

  pub agree_sym : (fields others : List ℕ) → Agree p m fields others → Agree p m others fields
  agree_sym fields others x = record { long = sym x.long; alike = λ o k a h d. sym (x.alike o k a h d) }

  pub agree_trans : (fields others last : List ℕ) → Agree p m fields others → Agree p m others last → Agree p m fields last
  agree_trans fields others last x y = record { long = x.long ∙ y.long; alike = λ o k a h d. x.alike o k a h d ∙ y.alike o k a h d }

  -- The same effect on both preserves agreement.
  pub agree_act : (e : Effect) (fields others : List ℕ) → Agree p m fields others → Agree p m (act e fields) (act e others)
  agree_act idle fields others x = x
  agree_act (store how k v) fields others x = record {
    long = length-set fields k (changed how (get_or fields k 0) v) ∙ x.long ∙ sym (length-set others k (changed how (get_or others k 0) v));
    alike = λ o j a h d. alter_alike fields others k (λ y. changed how y v) (base_of p o + j) x.long (x.alike o j a h d);
  }

module _ (p : Program) (m n : Message) where
  -- Freedom is symmetric.
  pub free_sym : Free p m n → Free p n m
  free_sym f = record { apart = λ o k a b h. clash_sym (mode_at p n o k) (mode_at p m o k) ∙ f.apart o k b a h }

  -- Where one message may read, the other changes nothing.
  free_elsewhere : Free p m n → (how : Change) (place o k : ℕ) → Changes p n how place → Visits p m o → k < size_of p o → depends (mode_at p m o k) ≡ true
      → base_of p o + k ≡ place → ⊥
  free_elsewhere f how place o k s visits h d e =
      true≢false (sym (depends_clashes (mode_at p m o k) (mode_at p n o k) d there_changed) ∙ f.apart o k visits there h)
    where
      same_object : o ≡ s.on
      same_object = one_object p o s.on k s.at h s.inside (e ∙ s.there)

      same_field : k ≡ s.at
      same_field = one_field p o s.on k s.at same_object (e ∙ s.there)

      there : Visits p n o
      there = subst (Visits p n) (sym same_object) s.visits

      there_changed : changes (mode_at p n o k) ≡ true
      there_changed = subst₂ (λ x y. changes (mode_at p n x y) ≡ true) (sym same_object) (sym same_field) (s.allowed.change (mode_changes how))

  -- Where one sets, the other changes nothing.
  pub free_apart : Free p m n → (how : Change) (j k : ℕ) → Changes p m replace j → Changes p n how k → j ≢ k
  free_apart f how j k s t e = free_elsewhere f how k s.on s.at t s.visits s.inside (s.allowed.depend refl) (sym s.there ∙ e)

module _ (p : Program) (m n : Message) where
  -- At one place both only add.
  pub both_add : Free p m n → (how how' : Change) (j k : ℕ) → Changes p m how j → Changes p n how' k → j ≡ k → (how ≡ increase) × (how' ≡ increase)
  both_add f replace how' j k x y e = absurd (free_apart p m n f how' j k x y e)
  both_add f increase replace j k x y e = absurd (free_apart p n m (free_sym p m n f) increase k j y x (sym e))
  both_add f increase increase j k x y e = (refl, refl)

  -- Their effects commute.
  pub free_commute : (d e : Effect) (fields : List ℕ) → Free p m n → May p m d → May p n e → act d (act e fields) ≡ act e (act d fields)
  free_commute idle e fields f x y = refl
  free_commute (store how j v) idle fields f x y = refl
  free_commute (store how j v) (store how' k w) fields f x y =
      alter_swap fields j k (λ z. changed how z v) (λ z. changed how' z w) (λ e z. swap z (both_add f how how' j k x y e))
    where
      swap : (z : ℕ) → (how ≡ increase) × (how' ≡ increase) → changed how (changed how' z w) v ≡ changed how' (changed how z v) w
      swap z (a, b) = rw (a, b) (additions_swap z w v)

  -- Neither sees the other's effect.
  pub free_agree : (e : Effect) (fields : List ℕ) → Free p m n → May p n e → Agree p m fields (act e fields)
  free_agree idle fields f y = agree_refl p m fields
  free_agree (store how k v) fields f y = record {
    long = sym (length-set fields k (changed how (get_or fields k 0) v));
    alike = λ o j a h d. sym (get_or-set_other fields k (base_of p o + j) (changed how (get_or fields k 0) v) 0 (free_elsewhere p m n f how k o j y a h d));
  }
