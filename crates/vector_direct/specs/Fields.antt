-- The members of a class that the tables show: how many there are, and its fields as a loop over the tables counts them.
use Prim.Native.Nat.{ℕ, zero, suc, ◌+◌, ◌*◌}
use Rattle.std.specs.Prelude.{◌≡◌, Bool}
use Rattle.std.proofs.Math.Path.{refl, ap}
use Rattle.std.proofs.Common.{◌∙◌, arith}
use mathlib.Core.List.{List, [], ◌∷◌, ◌++◌, map}
use Rattle.model.specs.Base.{upto}
use Rattle.model.specs.Word.{Name}
use Rattle.model.specs.Library.{Member, field_names}
use Rattle.catalog.specs.View.{name_of, class_word, member_at, library_of}
use Rattle.catalog.specs.Look.{shown_count, shown_members}

module _ {A B : Type 0} (f : A → B) where
  map_append : (xs ys : List A) → map f (xs ++ ys) ≡ map f xs ++ map f ys
  map_append [] ys = refl
  map_append (x ∷ xs) ys = ap (λ (l : List B). f x ∷ l) (map_append xs ys)

  pub map_upto : (g : ℕ → A) (n : ℕ) → map f (upto g n) ≡ upto (λ j. f (g j)) n
  unfolding upto
  map_upto g zero = refl
  map_upto g (suc n) = map_append (upto g n) (g n ∷ []) ∙ ap (λ (l : List B). l ++ (f (g n) ∷ [])) (map_upto g n)

module _ (text ws : List ℕ) (c : ℕ) where
  -- The names of a class's fields, and the word of one.
  abbrev pub fields_in : List Name
  fields_in = field_names (library_of text ws) c

  abbrev pub field_name : ℕ → Name
  field_name j = name_of text (class_word ws c (8 + (0 * 64 + j)))

  pub each_field : (test : Name → Bool) → map test fields_in ≡ upto (λ j. test (field_name j)) (shown_count ws c 0)
  unfolding member_at
  each_field test =
      ap (λ (ms : List Member). map test (map (λ m. m.name) ms)) (shown_members text ws c 0 (omega arith))
      ∙ ap (map test) (map_upto (λ m. m.name) (member_at text ws c 0) (shown_count ws c 0))
      ∙ map_upto test (λ j. (member_at text ws c 0 j).name) (shown_count ws c 0)
