-- What is written from the tables' words: the image, the starting values and the lines that `tables` prints. Stated over the
-- words alone; Laws and Starting relate each to the model's definition where the words represent a library and its vectors.
use Rattle.std.specs.Prelude.{ℕ, zero, suc, ◌+◌, ◌/◌, ◌%◌, cond, take, replicate}
use mathlib.Core.List.{List, ◌++◌, map, flat_map}
use Rattle.layout.specs.Layout.{class_name_at, method_names_at, read_masks_at, write_masks_at, commuting_at, add_masks_at, object_class_at, object_line_at}
use Rattle.model.specs.Base.{bytes, upto}
use Rattle.model.specs.Image.{u32_bytes, with_pairs}
use Rattle.model.specs.Tables.{yes_or_no}
use Rattle.output.specs.Each.{numbers}
use Rattle.text_lex.specs.Piece.{words_after}
use Rattle.catalog.specs.View.{name_of, part_of, value_of, class_word, statement_word, object_word, class_count, statement_count, object_count, member_count}
use Rattle.laws.specs.Bits.{bit}
use Rattle.catalog.specs.Look.{shown_count}

-- ---- the image

-- Statement s: its place and length in the text.
abbrev pub place_bytes : ℕ → List ℕ
place_bytes w = u32_bytes (w / 65536) ++ u32_bytes (w % 65536)

unfoldable pub places_from : List ℕ → List ℕ
unfolding flat_map upto statement_word
places_from ws = flat_map (λ s. place_bytes (statement_word ws s)) (numbers (statement_count ws))

-- What is written of each method of each class, in order.
unfoldable pub each_method : List ℕ → (ℕ → ℕ → List ℕ) → List ℕ
unfolding flat_map upto member_count
each_method ws f = flat_map (λ c. flat_map (f c) (numbers (member_count ws c 1))) (numbers (class_count ws))

unfoldable pub masks_from : List ℕ → List ℕ
unfolding each_method class_word
masks_from ws = each_method ws (λ c j. u32_bytes (class_word ws c (read_masks_at + j)) ++ u32_bytes (class_word ws c (write_masks_at + j)))

unfoldable pub commute_from : List ℕ → List ℕ
unfolding each_method class_word
commute_from ws = each_method ws (λ c j. u32_bytes (class_word ws c (commuting_at + j)))

unfoldable pub adds_from : List ℕ → List ℕ
unfolding each_method class_word
adds_from ws = each_method ws (λ c j. u32_bytes (class_word ws c (add_masks_at + j)))

unfoldable pub image_from : List ℕ → List ℕ
unfolding places_from masks_from commute_from adds_from
image_from ws = with_pairs (places_from ws) (masks_from ws) (commute_from ws) (adds_from ws)

-- ---- starting values

-- Object o's values, absent ones 0: as many as its class has fields, and none for an unknown class.
unfoldable pub values_from : List ℕ → List ℕ → ℕ → List ℕ
unfolding object_word shown_count part_of value_of
values_from text ws o =
    let n = shown_count ws (object_word ws o object_class_at) 0 in
    take n (map value_of (words_after (part_of text (object_word ws o object_line_at))) ++ replicate n 0)

unfoldable pub starting_from : List ℕ → List ℕ → List ℕ
unfolding flat_map upto values_from
starting_from text ws = flat_map (values_from text ws) (numbers (object_count ws))

-- ---- what `tables` prints

-- The letter of field k: W where it is written, R where it is read, A where it is added to, else N.
unfoldable pub letter_from : ℕ → ℕ → ℕ → ℕ → ℕ
unfolding bit
letter_from read write add k = cond (bit write k) 87 (cond (bit read k) 82 (cond (bit add k) 65 78))

-- "(`-` if no fields)"
abbrev pub letters_from : ℕ → ℕ → ℕ → ℕ → List ℕ
letters_from read write add zero = bytes "-"
letters_from read write add (suc n) = map (letter_from read write add) (numbers (suc n))

-- The letters of class c's method j, by its masks.
unfoldable pub method_letters : List ℕ → ℕ → ℕ → List ℕ
unfolding class_word member_count letter_from upto
method_letters ws c j =
    letters_from (class_word ws c (read_masks_at + j)) (class_word ws c (write_masks_at + j)) (class_word ws c (add_masks_at + j)) (member_count ws c 0)

-- The line of class c's method j: "class, method, one letter N, R or W a field .., then y or n for each method".
unfoldable pub line_from : List ℕ → List ℕ → ℕ → ℕ → List ℕ
unfolding name_of class_word member_count method_letters bit upto
line_from text ws c j =
    name_of text (class_word ws c class_name_at) ++ bytes " " ++ name_of text (class_word ws c (method_names_at + j)) ++ bytes " "
    ++ method_letters ws c j ++ bytes " "
    ++ map (λ i. yes_or_no (bit (class_word ws c (commuting_at + j)) i)) (numbers (member_count ws c 1)) ++ bytes "\n"

unfoldable pub tables_from : List ℕ → List ℕ → List ℕ
unfolding each_method line_from
tables_from text ws = each_method ws (line_from text ws)
