-- The number of methods, the length of the image, and the number of the objects' values.
use Rattle.std.specs.Prelude.{ℕ, ◌+◌, ◌*◌, ◌≤◌, ◌≡◌, refl, Bool, ltb}
use Rattle.std.proofs.Common.{◌∙◌}
use Rattle.std.proofs.Math.Bool.{true, false, cond}
use mathlib.Core.List.{List, [], ◌∷◌, ◌++◌, map, flat_map}
use native.Mathlib.Omega.{arith}
use Rattle.std.proofs.Math.ListN.{length, replicate, length-append, length-take, length-replicate}
use Rattle.layout.specs.Layout.{read_masks_at, write_masks_at, commuting_at, add_masks_at, object_class_at, object_line_at}
use Rattle.model.specs.Image.{u32_bytes, pairs_from}
use Rattle.text_lex.specs.Piece.{words_after}
use Rattle.catalog.specs.View.{part_of, value_of, class_word, object_word, statement_word, class_count, statement_count, object_count, member_count}
use Rattle.catalog.specs.Look.{shown_count}
use Rattle.output.specs.Each.{numbers, total, total_le, total_same, total_times, total_all, length_each, each_le}
use Rattle.image.specs.Written.{place_bytes, places_from, each_method, masks_from, commute_from, adds_from, image_from, values_from, starting_from, tables_from}
use Rattle.image.specs.declared.method.Part.TheVariants.{Line}
use Rattle.image.specs.Cells.{members_le, classes_le}

abbrev pub method_count : List ℕ → ℕ
method_count ws = total (λ c. member_count ws c 1) (class_count ws)

-- The number of values: as many as the fields of the objects' classes.
abbrev pub value_count : List ℕ → ℕ
value_count ws = total (λ o. shown_count ws (object_word ws o object_class_at) 0) (object_count ws)

-- The four pairs for parts of these lengths.
abbrev pub pairs : ℕ → ℕ → ℕ → ℕ → List ℕ
pairs a b c d = pairs_from 32 (a ∷ b ∷ c ∷ d ∷ [])

module _ (ws : List ℕ) where
  pub shown_le : (c p : ℕ) → shown_count ws c p ≤ 32
  unfolding shown_count
  shown_le c p = go (ltb c (class_count ws))
    where
      go : (t : Bool) → cond t (member_count ws c p) 0 ≤ 32
      go true = members_le ws c p
      go false = omega arith

  pub values_le : (n : ℕ) → total (λ o. shown_count ws (object_word ws o object_class_at) 0) n ≤ n * 32
  values_le n = total_le 32 (λ o. shown_count ws (object_word ws o object_class_at) 0) n (λ o. shown_le (object_word ws o object_class_at) 0)

  pub total_methods_le : (n : ℕ) → total (λ c. member_count ws c 1) n ≤ n * 32
  total_methods_le n = total_le 32 (λ c. member_count ws c 1) n (λ c. members_le ws c 1)

  pub places_length : length (places_from ws) ≡ 8 * statement_count ws
  unfolding places_from
  places_length =
      let n = statement_count ws in
      omega (arith, length_each (λ s. place_bytes (statement_word ws s)) n, total_all 8 n)

  each_method_length : (w : ℕ) (f : ℕ → ℕ → List ℕ) → ((c j : ℕ) → length (f c j) ≡ w) → length (each_method ws f) ≡ w * method_count ws
  unfolding each_method
  each_method_length w f h =
      length_each (λ c. flat_map (f c) (numbers (member_count ws c 1))) (class_count ws)
      ∙ total_same (λ c. length (flat_map (f c) (numbers (member_count ws c 1)))) (λ c. w * member_count ws c 1) (class_count ws)
      (λ c. length_each (f c) (member_count ws c 1) ∙ total_same (λ j. length (f c j)) (λ j. w) (member_count ws c 1) (h c) ∙ total_all w (member_count ws c 1))
      ∙ total_times w (λ c. member_count ws c 1) (class_count ws)

  pub masks_length : length (masks_from ws) ≡ 8 * method_count ws
  unfolding masks_from
  masks_length = each_method_length 8 (λ c j. u32_bytes (class_word ws c (read_masks_at + j)) ++ u32_bytes (class_word ws c (write_masks_at + j))) (λ c j. refl)

  pub commute_length : length (commute_from ws) ≡ 4 * method_count ws
  unfolding commute_from
  commute_length = each_method_length 4 (λ c j. u32_bytes (class_word ws c (commuting_at + j))) (λ c j. refl)

  pub adds_length : length (adds_from ws) ≡ 4 * method_count ws
  unfolding adds_from
  adds_length = each_method_length 4 (λ c j. u32_bytes (class_word ws c (add_masks_at + j))) (λ c j. refl)

  -- The pairs that the code writes are the image's.
  pub image_pairs : (statements methods : ℕ) → statements ≡ statement_count ws → methods ≡ method_count ws
      → pairs (8 * statements) (8 * methods) (4 * methods) (4 * methods)
      ≡ pairs (length (places_from ws)) (length (masks_from ws)) (length (commute_from ws)) (length (adds_from ws))
  image_pairs statements methods e k =
      let a : 8 * statements ≡ length (places_from ws) = omega (arith, places_length) in
      let b : 8 * methods ≡ length (masks_from ws) = omega (arith, masks_length) in
      let c : 4 * methods ≡ length (commute_from ws) = omega (arith, commute_length) in
      let d : 4 * methods ≡ length (adds_from ws) = omega (arith, adds_length) in
      λ i. pairs (a i) (b i) (c i) (d i)

  pub image_length : length (image_from ws) ≡ 32 + 8 * statement_count ws + 16 * method_count ws
  unfolding image_from
  image_length =
      let a = places_from ws in
      let b = masks_from ws in
      let c = commute_from ws in
      let d = adds_from ws in
      let p = pairs (length a) (length b) (length c) (length d) in
      omega (arith, length-append (p ++ a ++ b ++ c) d, length-append (p ++ a ++ b) c, length-append (p ++ a) b, length-append p a, places_length, masks_length, commute_length, adds_length)

  pub image_le : length (image_from ws) ≤ 40992
  image_le = omega (arith, image_length, total_methods_le (class_count ws))

module _ (text ws : List ℕ) where
  pub tables_le : length (tables_from text ws) ≤ 66560
  unfolding tables_from each_method
  tables_le = omega (arith, classes_le text ws Line (class_count ws))

  values_length : (o : ℕ) → length (values_from text ws o) ≡ shown_count ws (object_word ws o object_class_at) 0
  unfolding values_from
  values_length o =
      let n = shown_count ws (object_word ws o object_class_at) 0 in
      let said = map value_of (words_after (part_of text (object_word ws o object_line_at))) in
      omega (arith, length-take n (said ++ replicate n 0), length-append said (replicate n 0), length-replicate {A = ℕ} n 0)

  pub starting_length : length (starting_from text ws) ≡ value_count ws
  unfolding starting_from
  starting_length =
      length_each (values_from text ws) (object_count ws)
      ∙ total_same (λ o. length (values_from text ws o)) (λ o. shown_count ws (object_word ws o object_class_at) 0) (object_count ws) values_length

  pub starting_le : (n : ℕ) → length (flat_map (values_from text ws) (numbers n)) ≤ n * 32
  starting_le n = each_le 32 (values_from text ws) n (λ o. omega (arith, values_length o, shown_le ws (object_word ws o object_class_at) 0))
