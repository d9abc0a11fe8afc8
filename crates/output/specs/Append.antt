-- Numbers written into a lent list, one run after the other: the list that results, and where the next run goes. What the
-- list has no room for is left out.
use Rattle.std.specs.Prelude.{ℕ, zero, suc, ◌+◌, ◌≤◌, ◌≡◌, refl, length, take, drop, set}
use Rattle.std.proofs.Common.{sym, ap, subst, ◌∙◌, add-zero, arith, length-append, drop_of_length-le, take_all}
use mathlib.Core.List.{List, [], ◌∷◌, ◌++◌, flat_map, append-nil}
use Rattle.std.proofs.lemmas.List.Edits.{sets}
use Rattle.std.proofs.Math.Seq.{length-sets, take-nil}
use Rattle.model.specs.Base.{upto}
use Rattle.output.specs.Each.{numbers, each_more}

-- The list with a run written over its front.
abbrev pub over : List ℕ → List ℕ → List ℕ
over run list = take (length list) run ++ drop (length run) list

-- The run is written over the front, and `size` is its length.
pub record Printed (run list : List ℕ) (size : ℕ) (list' : List ℕ) : Type 0 where
  pub bytes : list' ≡ over run list
  pub count : size ≡ length run

-- The run stands from `at` on, and `end` is the place after it.
pub record Appended (run list : List ℕ) (at end : ℕ) (list' : List ℕ) : Type 0 where
  pub stored : list' ≡ sets list at run
  pub behind : end ≡ at + length run

pub over_fits : (run list : List ℕ) → length run ≤ length list → over run list ≡ run ++ drop (length run) list
over_fits run list h = ap (λ (l : List ℕ). l ++ drop (length run) list) (take_all (length list) run h)

pub over_whole : (run list : List ℕ) → length run ≡ length list → over run list ≡ run
over_whole run list e =
    let h : length list ≤ length run = omega arith in
    over_fits run list (omega arith) ∙ ap (λ (l : List ℕ). run ++ l) (drop_of_length-le list h) ∙ append-nil run

sets_append : (xs ys list : List ℕ) (i : ℕ) → sets list i (xs ++ ys) ≡ sets (sets list i xs) (i + length xs) ys
sets_append [] ys list i = ap (λ (k : ℕ). sets list k ys) (sym (add-zero i))
sets_append (x ∷ xs) ys list i =
    let e : suc i + length xs ≡ i + suc (length xs) = omega arith in
    sets_append xs ys (set list i x) (suc i) ∙ ap (λ (k : ℕ). sets (sets (set list i x) (suc i) xs) k ys) e

pub appended_none : (list : List ℕ) (at : ℕ) → Appended [] list at at list
appended_none list at = record { stored = refl; behind = omega arith }

pub appended_then : {xs ys list list₁ list₂ : List ℕ} {at middle end : ℕ}
    → Appended xs list at middle list₁ → Appended ys list₁ middle end list₂ → Appended (xs ++ ys) list at end list₂
appended_then {xs} {ys} {list} {list₁} {list₂} {at} {middle} h k = record {
  stored =
      k.stored
      ∙ ap (λ (l : List ℕ). sets l middle ys) h.stored
      ∙ ap (λ (i : ℕ). sets (sets list at xs) i ys) h.behind
      ∙ sym (sets_append xs ys list at);
  behind = omega (arith, h.behind, k.behind, length-append xs ys);
}

pub appended_as : {xs ys list list' : List ℕ} {at end : ℕ} → xs ≡ ys → Appended xs list at end list' → Appended ys list at end list'
appended_as {xs} {ys} {list} {list'} {at} {end} e h = subst (λ (run : List ℕ). Appended run list at end list') e h

pub appended_length : {xs list list' : List ℕ} {at end : ℕ} → Appended xs list at end list' → length list' ≡ length list
appended_length {xs} {list} {list'} {at} h = ap length h.stored ∙ length-sets list at xs

-- A loop that appends a run at each turn: before the first, and one more.
module _ (f : ℕ → List ℕ) where
  pub each_first : (list : List ℕ) (at : ℕ) → Appended (flat_map f (numbers 0)) list at at list
  unfolding flat_map upto
  each_first list at = appended_none list at

  pub each_next : (n : ℕ) {list list₁ list₂ : List ℕ} {at middle end : ℕ}
      → Appended (flat_map f (numbers n)) list at middle list₁ → Appended (f n) list₁ middle end list₂ → Appended (flat_map f (numbers (n + 1))) list at end list₂
  each_next n h k = appended_as (sym (each_more f n)) (appended_then h k)

-- ---- from the front

sets_behind : (x i : ℕ) (run list : List ℕ) → sets (x ∷ list) (suc i) run ≡ x ∷ sets list i run
sets_behind x i [] list = refl
sets_behind x i (y ∷ run) list = sets_behind x (suc i) run (set list i y)

sets_nowhere : (i : ℕ) (run : List ℕ) → sets [] i run ≡ []
sets_nowhere i [] = refl
sets_nowhere zero (y ∷ run) = sets_nowhere 1 run
sets_nowhere (suc i) (y ∷ run) = sets_nowhere (suc (suc i)) run

sets_over : (run list : List ℕ) → sets list 0 run ≡ over run list
sets_over [] list = ap (λ (l : List ℕ). l ++ list) (sym (take-nil (length list)))
sets_over (x ∷ run) [] = sets_nowhere 0 (x ∷ run)
sets_over (x ∷ run) (y ∷ list) = sets_behind x 0 run list ∙ ap (λ (l : List ℕ). x ∷ l) (sets_over run list)

pub appended_over : {run list list' : List ℕ} {end : ℕ} → Appended run list 0 end list' → list' ≡ over run list
appended_over {run} {list} h = h.stored ∙ sets_over run list

pub appended_printed : {run list list' : List ℕ} {end : ℕ} → Appended run list 0 end list' → Printed run list end list'
appended_printed h = record { bytes = appended_over h; count = omega (arith, h.behind) }
