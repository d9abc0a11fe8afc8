-- Where the words represent a library and hold the masks of its vectors, what is written from them is the library's image and
-- its printed lines.
use Prim.Native.Nat.{ℕ, zero, suc, ◌+◌, ◌*◌, ◌<◌}
use Rattle.std.specs.Prelude.{◌≡◌}
use Rattle.std.proofs.Math.Path.{refl, sym, ap, ap₂}
use Rattle.std.proofs.Common.{subst, ◌∙◌}
use mathlib.Core.List.{List, [], ◌∷◌, ◌++◌, map, flat_map, append-nil, append_assoc}
use native.Mathlib.Omega.{arith}
use Rattle.std.proofs.Math.ListN.{length, get_or}
use Rattle.std.proofs.lemmas.List.{length-map}
use Rattle.layout.specs.Layout.{class_name_at, names_at, kind_words, method_names_at, read_masks_at, write_masks_at, commuting_at, add_masks_at}
use Rattle.model.specs.Base.{bytes, upto}
use Rattle.model.specs.Word.{Name}
use Rattle.model.specs.Library.{Library, Member, Class, Placed, class_at, as_recorded, field_names, method_names}
use Rattle.model.specs.Vector.{Vector, program, vectors_of, transitive, commute}
use Rattle.model.specs.Image.{u32_bytes, read_mask, write_mask, add_mask, commute_mask, places_part, masks_part, commute_part, adds_part, with_pairs, image_of}
use Rattle.model.specs.Tables.{letters, yes_or_no, method_printed, methods_printed, class_printed, program_printed}
use Rattle.catalog.specs.View.{name_of, class_word, class_count, statement_count, member_count, member_at, members_of, class_of, placed_of, library_of}
use Rattle.laws.specs.Bits.{bit}
use Rattle.laws.specs.Upto.{length_upto, get_d_upto}
use Rattle.catalog.specs.Look.{class_count_law, class_at_law, member_count_law}
use Rattle.output.specs.Each.{numbers, map_upto, each_upto, each_listed, each_suc, each_same, listed}
use Rattle.image.specs.Written.{places_from, each_method, masks_from, commute_from, adds_from, image_from, letters_from, method_letters, line_from, tables_from}
use Rattle.image.specs.Letters.{letters_are, flags_are}

abbrev vectors_in : Library → ℕ → List Vector
vectors_in l c = vectors_of l (as_recorded l) c

abbrev pub vector_in : Library → ℕ → ℕ → Vector
vector_in l c j = get_or (vectors_in l c) j []

-- The words of each method hold the masks of its vector.
pub record Masks (ws : List ℕ) (l : Library) : Type 0 where
  pub read : (c j : ℕ) → c < class_count ws → j < member_count ws c 1 → class_word ws c (read_masks_at + j) ≡ read_mask (vector_in l c j)
  pub write : (c j : ℕ) → c < class_count ws → j < member_count ws c 1 → class_word ws c (write_masks_at + j) ≡ write_mask (vector_in l c j)
  pub commuting : (c j : ℕ) → c < class_count ws → j < member_count ws c 1
      → class_word ws c (commuting_at + j) ≡ commute_mask (vectors_of l (as_recorded l) c) (vector_in l c j)
  pub add : (c j : ℕ) → c < class_count ws → j < member_count ws c 1 → class_word ws c (add_masks_at + j) ≡ add_mask (vector_in l c j)

-- ---- a program by counting

program_vectors : (l : Library) → (program l).vectors ≡ upto (vectors_in l) (length l.classes)
unfolding program
program_vectors l = refl

program_library : (l : Library) → (program l).library ≡ l
unfolding program
program_library l = refl

module _ (text ws : List ℕ) where
  abbrev l : Library
  l = library_of text ws

  places_are : places_from ws ≡ places_part l
  unfolding places_from places_part library_of placed_of
  places_are = sym (each_upto (λ (s : Placed). u32_bytes s.at ++ u32_bytes s.size) (placed_of text ws) (statement_count ws))

  -- What is written of the vectors of each class, by counting.
  by_counting : (f : List Vector → List ℕ) → flat_map f (program l).vectors ≡ flat_map (λ c. f (vectors_in l c)) (numbers (class_count ws))
  by_counting f =
      ap (flat_map f) (program_vectors l)
      ∙ each_upto f (vectors_in l) (length l.classes)
      ∙ ap (λ (n : ℕ). flat_map (λ c. f (vectors_in l c)) (numbers n)) (class_count_law text ws)

  module _ (c : ℕ) (known : c < class_count ws) where
    methods_are : method_names l c ≡ upto (λ j. (member_at text ws c 1 j).name) (member_count ws c 1)
    unfolding class_of members_of
    methods_are =
        ap (λ (k : Class). map (λ (m : Member). m.name) k.methods) (class_at_law text ws c known)
        ∙ map_upto (λ (m : Member). m.name) (member_at text ws c 1) (member_count ws c 1)

    vectors_are : vectors_in l c ≡ upto (λ j. transitive l (as_recorded l) c (member_at text ws c 1 j).name) (member_count ws c 1)
    vectors_are =
        ap (map (transitive l (as_recorded l) c)) methods_are
        ∙ map_upto (transitive l (as_recorded l) c) (λ j. (member_at text ws c 1 j).name) (member_count ws c 1)

    vector_count : length (vectors_in l c) ≡ member_count ws c 1
    vector_count = ap length vectors_are ∙ length_upto (λ j. transitive l (as_recorded l) c (member_at text ws c 1 j).name) (member_count ws c 1)

    each_vector : (f : Vector → List ℕ) → flat_map f (vectors_in l c) ≡ flat_map (λ j. f (vector_in l c j)) (numbers (member_count ws c 1))
    each_vector f =
        each_listed [] f (vectors_in l c) ∙ ap (λ (n : ℕ). flat_map (λ j. f (vector_in l c j)) (numbers n)) vector_count

  -- What is written of each method is what the words hold.
  each_are : (f : ℕ → ℕ → List ℕ) (g : List Vector → Vector → List ℕ)
      → ((c j : ℕ) → c < class_count ws → j < member_count ws c 1 → f c j ≡ g (vectors_in l c) (vector_in l c j))
      → each_method ws f ≡ flat_map (λ vs. flat_map (g vs) vs) (program l).vectors
  unfolding each_method
  each_are f g h =
      each_same (λ c. flat_map (f c) (numbers (member_count ws c 1))) (λ c. flat_map (g (vectors_in l c)) (vectors_in l c)) (class_count ws)
      (λ c k. each_same (f c) (λ j. g (vectors_in l c) (vector_in l c j)) (member_count ws c 1) (λ j m. h c j k m) ∙ sym (each_vector c k (g (vectors_in l c))))
      ∙ sym (by_counting (λ vs. flat_map (g vs) vs))

  module _ (m : Masks ws l) where
    masks_are : masks_from ws ≡ masks_part (program l)
    unfolding masks_from masks_part
    masks_are =
        each_are (λ c j. u32_bytes (class_word ws c (read_masks_at + j)) ++ u32_bytes (class_word ws c (write_masks_at + j))) (λ vs v. u32_bytes (read_mask v) ++ u32_bytes (write_mask v))
        (λ c j h k i. u32_bytes (m.read c j h k i) ++ u32_bytes (m.write c j h k i))

    commuting_are : commute_from ws ≡ commute_part (program l)
    unfolding commute_from commute_part
    commuting_are = each_are (λ c j. u32_bytes (class_word ws c (commuting_at + j))) (λ vs v. u32_bytes (commute_mask vs v)) (λ c j h k i. u32_bytes (m.commuting c j h k i))

    adds_are : adds_from ws ≡ adds_part (program l)
    unfolding adds_from adds_part
    adds_are = each_are (λ c j. u32_bytes (class_word ws c (add_masks_at + j))) (λ vs v. u32_bytes (add_mask v)) (λ c j h k i. u32_bytes (m.add c j h k i))

    image_are : image_from ws ≡ image_of (program l)
    unfolding image_from image_of
    image_are =
        let p : places_from ws ≡ places_part (program l).library = places_are ∙ ap places_part (sym (program_library l)) in
        λ i. with_pairs (p i) (masks_are i) (commuting_are i) (adds_are i)

-- ---- the printed lines

module _ (c : Name) (vs : List Vector) where
  printed_append : (ms ms' : List Name) (us us' : List Vector) → length ms ≡ length us
      → methods_printed c vs (ms ++ ms') (us ++ us') ≡ methods_printed c vs ms us ++ methods_printed c vs ms' us'
  printed_append [] ms' [] us' e = refl
  printed_append [] ms' (u ∷ us) us' e = absurd (omega arith)
  printed_append (m ∷ ms) ms' [] us' e = absurd (omega arith)
  printed_append (m ∷ ms) ms' (u ∷ us) us' e =
      ap (λ (l : List ℕ). method_printed c vs m u ++ l) (printed_append ms ms' us us' (omega arith))
      ∙ sym (append_assoc (method_printed c vs m u) (methods_printed c vs ms us) (methods_printed c vs ms' us'))

  printed_counting : (a : ℕ → Name) (b : ℕ → Vector) (n : ℕ)
      → methods_printed c vs (upto a n) (upto b n) ≡ flat_map (λ j. method_printed c vs (a j) (b j)) (numbers n)
  unfolding upto flat_map
  printed_counting a b zero = refl
  printed_counting a b (suc n) =
      printed_append (upto a n) (a n ∷ []) (upto b n) (b n ∷ []) (length_upto a n ∙ sym (length_upto b n))
      ∙ ap₂ ◌++◌ (printed_counting a b n) (append-nil (method_printed c vs (a n) (b n)))
      ∙ sym (each_suc (λ j. method_printed c vs (a j) (b j)) n)

vector_length : (l : Library) (c : ℕ) (m : Name) → length (transitive l (as_recorded l) c m) ≡ length (class_at l c).fields
unfolding transitive
vector_length l c m = length-map (field_names l c) _ ∙ length-map (class_at l c).fields (λ (f : Member). f.name)

module _ (text ws : List ℕ) (m : Masks ws (library_of text ws)) (c : ℕ) (known : c < class_count ws) where
  class_named : name_of text (class_word ws c class_name_at) ≡ (class_at (l text ws) c).name
  unfolding class_of
  class_named = sym (ap (λ (k : Class). k.name) (class_at_law text ws c known))

  method_named : (j : ℕ) → name_of text (class_word ws c (method_names_at + j)) ≡ (member_at text ws c 1 j).name
  unfolding member_at
  method_named j = let e : method_names_at + j ≡ names_at + (1 * kind_words + j) = omega arith in ap (λ (k : ℕ). name_of text (class_word ws c k)) e

  fields_long : (j : ℕ) → j < member_count ws c 1 → member_count ws c 0 ≡ length (vector_in (l text ws) c j)
  unfolding class_of
  fields_long j h = sym
      (ap (λ (vs : List Vector). length (get_or vs j [])) (vectors_are text ws c known)
      ∙ ap length (get_d_upto (λ j. transitive (l text ws) (as_recorded (l text ws)) c (member_at text ws c 1 j).name) (member_count ws c 1) j [] h)
      ∙ vector_length (l text ws) c (member_at text ws c 1 j).name
      ∙ ap (λ (k : Class). length k.fields) (class_at_law text ws c known)
      ∙ member_count_law text ws c 0)

  method_letters_law : (j : ℕ) → j < member_count ws c 1 → method_letters ws c j ≡ letters (vector_in (l text ws) c j)
  unfolding method_letters
  method_letters_law j h =
      (λ i. letters_from (m.read c j known h i) (m.write c j known h i) (m.add c j known h i) (fields_long j h i)) ∙ letters_are (vector_in (l text ws) c j)

  method_flags : (j : ℕ) → j < member_count ws c 1
      → map (λ i. yes_or_no (bit (class_word ws c (commuting_at + j)) i)) (numbers (member_count ws c 1))
      ≡ map (λ w. yes_or_no (commute (vector_in (l text ws) c j) w)) (vectors_in (l text ws) c)
  method_flags j h =
      (λ i. map (λ k. yes_or_no (bit (m.commuting c j known h i) k)) (numbers (sym (vector_count text ws c known) i)))
      ∙ flags_are (vectors_in (l text ws) c) (vector_in (l text ws) c j)

  line_is : (j : ℕ) → j < member_count ws c 1
      → line_from text ws c j ≡ method_printed (class_at (l text ws) c).name (vectors_in (l text ws) c) (member_at text ws c 1 j).name (vector_in (l text ws) c j)
  unfolding line_from method_printed
  line_is j h i =
      class_named i ++ bytes " " ++ method_named j i ++ bytes " " ++ method_letters_law j h i ++ bytes " " ++ method_flags j h i ++ bytes "\n"

  class_vectors : get_or (program (l text ws)).vectors c [] ≡ vectors_in (l text ws) c
  class_vectors =
      ap (λ (v : List (List Vector)). get_or v c []) (program_vectors (l text ws))
      ∙ get_d_upto (vectors_in (l text ws)) (length (l text ws).classes) c [] (omega (arith, class_count_law text ws))

  class_is : flat_map (line_from text ws c) (numbers (member_count ws c 1)) ≡ class_printed (program (l text ws)) c
  unfolding class_printed
  class_is =
      let lib = l text ws in
      let n = member_count ws c 1 in
      let vs = vectors_in lib c in
      let owner = (class_at lib c).name in
      let name : ℕ → Name = λ j. (member_at text ws c 1 j).name in
      let vector : ℕ → Vector = λ j. vector_in lib c j in
      let names : method_names (program lib).library c ≡ upto name n = ap (λ (k : Library). method_names k c) (program_library lib) ∙ methods_are text ws c known in
      let vectors : get_or (program lib).vectors c [] ≡ upto vector n = class_vectors ∙ listed [] vs ∙ ap (upto vector) (vector_count text ws c known) in
      each_same (line_from text ws c) (λ j. method_printed owner vs (name j) (vector j)) n line_is
      ∙ sym (printed_counting owner vs name vector n)
      ∙ sym (λ i. methods_printed (class_at (program_library lib i) c).name (class_vectors i) (names i) (vectors i))

-- ---- the laws

module _ (text ws : List ℕ) (m : Masks ws (library_of text ws)) where
  tables_are : tables_from text ws ≡ program_printed (program (l text ws))
  unfolding tables_from each_method program_printed
  tables_are =
      let lib = l text ws in
      let count : class_count ws ≡ length (program lib).vectors = sym (ap length (program_vectors lib) ∙ length_upto (vectors_in lib) (length lib.classes) ∙ class_count_law text ws) in
      each_same (λ c. flat_map (line_from text ws c) (numbers (member_count ws c 1))) (class_printed (program lib)) (class_count ws) (class_is text ws m)
      ∙ ap (λ (n : ℕ). flat_map (class_printed (program lib)) (numbers n)) count

module _ (text ws : List ℕ) (lib : Library) (e : library_of text ws ≡ lib) (m : Masks ws lib) where
  masks_of : Masks ws (library_of text ws)
  masks_of = subst (Masks ws) (sym e) m

  pub image_law : image_from ws ≡ image_of (program lib)
  image_law = image_are text ws masks_of ∙ ap (λ (k : Library). image_of (program k)) e

  pub tables_law : tables_from text ws ≡ program_printed (program lib)
  tables_law = tables_are text ws masks_of ∙ ap (λ (k : Library). program_printed (program k)) e
