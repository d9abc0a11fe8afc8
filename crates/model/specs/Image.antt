-- The image of a text, the look-up of a statement, and the starting values (01, "Image" and what follows it).
use Rattle.std.specs.Prelude.{ℕ, ◌+◌, ◌*◌, ◌/◌, ◌%◌, Bool, not, cond, ◌&&◌, length, take, drop, replicate, eqb, ltb}
use mathlib.Core.List.{List, [], ◌∷◌, ◌++◌, map, flat_map}
use Rattle.model.specs.Base.{digit}
use Rattle.model.specs.Library.{Library, Placed, Object, class_at}
use Rattle.model.specs.Read.{Reading, accepted, refused, read}
use Rattle.model.specs.Told.{Told, done, refusal, or_fault, fitted, into}
use Rattle.model.specs.Mode.{Mode, depends, changes}
use Rattle.model.specs.Vector.{Vector, Program, program, commute}

-- "u32 is an unsigned 32-bit number, little-endian in bytes"
abbrev pub u32_bytes : ℕ → List ℕ
u32_bytes n = n % 256 ∷ n / 256 % 256 ∷ n / 65536 % 256 ∷ n / 16777216 % 256 ∷ []

-- "bit k is field k", or method k
unfoldable pub mask : List Bool → ℕ
mask [] = 0
mask (b ∷ bs) = mask bs * 2 + digit b

-- "a written field's read bit is 0"; "a field's bit is set in at most one mask": Read, Write and Add by their two tests.
abbrev pub is_read : Mode → Bool
is_read m = depends m && not (changes m)

abbrev pub is_write : Mode → Bool
is_write m = depends m && changes m

abbrev pub is_add : Mode → Bool
is_add m = changes m && not (depends m)

abbrev pub read_mask : Vector → ℕ
read_mask v = mask (map is_read v)

abbrev pub write_mask : Vector → ℕ
write_mask v = mask (map is_write v)

abbrev pub add_mask : Vector → ℕ
add_mask v = mask (map is_add v)

-- "a u32 whose bit j says that i and j commute"
abbrev pub commute_mask : List Vector → Vector → ℕ
commute_mask vs v = mask (map (commute v) vs)

-- "1. One pair for each statement in text order: its place in the text, LF excluded."
unfoldable pub places_part : Library → List ℕ
unfolding flat_map
places_part l = flat_map (λ s. u32_bytes s.at ++ u32_bytes s.size) l.statements

-- "2. For each class and method in order: a read mask, then a write mask, both u32"
unfoldable pub masks_part : Program → List ℕ
unfolding flat_map mask
masks_part p = flat_map (flat_map (λ v. u32_bytes (read_mask v) ++ u32_bytes (write_mask v))) p.vectors

-- "3. For each class and method i: a u32 whose bit j says that i and j commute."
unfoldable pub commute_part : Program → List ℕ
unfolding flat_map mask commute
commute_part p = flat_map (λ vs. flat_map (λ v. u32_bytes (commute_mask vs v)) vs) p.vectors

-- "a fourth part last .. with one add mask a method" (02, Ticket 6)
unfoldable pub adds_part : Program → List ℕ
unfolding flat_map mask
adds_part p = flat_map (flat_map (λ v. u32_bytes (add_mask v))) p.vectors

-- Pairs of "offset and length (u32 each), sorted by offset, .. parts without gaps", for parts of these lengths, the first at `at`.
abbrev pub pairs_from : ℕ → List ℕ → List ℕ
pairs_from at [] = []
pairs_from at (n ∷ ns) = u32_bytes at ++ u32_bytes n ++ pairs_from (at + n) ns

-- Four pairs, so that "the first offset is 32", then the parts.
abbrev pub with_pairs : List ℕ → List ℕ → List ℕ → List ℕ → List ℕ
with_pairs a b c d = pairs_from 32 (length a ∷ length b ∷ length c ∷ length d ∷ []) ++ a ++ b ++ c ++ d

unfoldable pub image_of : Program → List ℕ
unfolding places_part masks_part commute_part adds_part
image_of p = with_pairs (places_part p.library) (masks_part p) (commute_part p) (adds_part p)

abbrev pub image_in : Reading → List ℕ
image_in (accepted l) = image_of (program l)
image_in (refused fault line) = []

-- The image of an accepted text; nothing for a refused one.
unfoldable pub image : List ℕ → List ℕ
unfolding read image_of program
image text = image_in (read text)

-- "21 image buffer shorter than the image": the answer of compiling into a buffer of `size` bytes.
unfoldable pub compile_answer : List ℕ → ℕ → Told
unfolding read image
compile_answer text size = or_fault (read text) (λ l. fitted (image text) size)

-- The contents of the buffer after compiling.
unfoldable pub compiled_into : List ℕ → List ℕ → List ℕ
unfolding image into
compiled_into text buffer = into (image text) buffer

-- "23 statement count too high"
unfoldable pub statement_answer : List ℕ → ℕ → Told
unfolding read
statement_answer text count = or_fault (read text) (λ l. cond (ltb count (length l.statements)) (done 0) (refusal 23 0))

-- The place and the size of a statement; 0 and 0 where there is none.
abbrev pub place_and_size : List Placed → ℕ × ℕ
place_and_size [] = (0, 0)
place_and_size (s ∷ ss) = (s.at, s.size)

abbrev pub place_in : Reading → ℕ → ℕ × ℕ
place_in (accepted l) count = place_and_size (drop count l.statements)
place_in (refused fault line) count = (0, 0)

-- The place and the size of the statement with this count in the text; 0 and 0 where the look-up is refused.
unfoldable pub statement_place : List ℕ → ℕ → ℕ × ℕ
unfolding read
statement_place text count = place_in (read text) count

-- "the statement is handed back as that part of the caller's text. A refusal hands back an empty part"
unfoldable pub statement_part : List ℕ → ℕ → List ℕ
unfolding statement_place
statement_part text count = let s = statement_place text count in take s.1 (drop s.0 text)

-- "optional starting values in field order; absent ones are 0"
abbrev pub values_of : Library → Object → List ℕ
values_of l o = let n = length (class_at l o.class).fields in take n (o.values ++ replicate n 0)

-- "a lent list of u32 values, object by object": the text's starting values.
unfoldable pub starting_values : Library → List ℕ
unfolding flat_map
starting_values l = flat_map (values_of l) l.objects

-- "22 values of another count than the fields", for a list of `count` values.
abbrev pub counted : Library → ℕ → Told
counted l count = cond (eqb count (length (starting_values l))) (done 0) (refusal 22 0)

unfoldable pub values_answer : List ℕ → ℕ → Told
unfolding read starting_values
values_answer text count = or_fault (read text) (λ l. counted l count)

abbrev pub written_in : Reading → List ℕ → List ℕ
written_in (accepted l) values = cond (eqb (length values) (length (starting_values l))) (starting_values l) values
written_in (refused fault line) values = values

-- "another call writes the text's starting values into such a list": the contents of the list after it.
unfoldable pub starting_values_into : List ℕ → List ℕ → List ℕ
unfolding read starting_values
starting_values_into text values = written_in (read text) values
