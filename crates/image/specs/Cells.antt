-- What is written of one method, part by part, and its greatest length.
use Prim.Native.Nat.{ℕ, zero, suc, ◌+◌, ◌*◌, ◌/◌, ◌%◌, ◌≤◌}
use Rattle.std.specs.Prelude.{◌≡◌, refl, Bool, true, false, cond, length, drop, get_or}
use Rattle.std.proofs.Common.{sym, ap, ◌∙◌, arith, length-take}
use mathlib.Core.List.{List, ◌++◌, map, flat_map, append_assoc}
use Rattle.std.proofs.Math.ListN.{length-append}
use Rattle.std.proofs.lemmas.List.{length-map}
use Rattle.layout.specs.Layout.{class_name_at, method_names_at, read_masks_at, write_masks_at, commuting_at, add_masks_at}
use Rattle.model.specs.Base.{bytes, upto}
use Rattle.model.specs.Image.{u32_bytes}
use Rattle.model.specs.Tables.{yes_or_no}
use Rattle.catalog.specs.View.{name_of, class_word, member_count}
use Rattle.laws.specs.Bits.{bit}
use Rattle.laws.specs.Upto.{length_upto, upto_same}
use Rattle.image.specs.declared.method.Part.{Part}
use Rattle.image.specs.declared.method.Part.TheVariants.{Masks, Commuting, Adds, Line}
use Rattle.output.specs.Each.{numbers, map_numbers, each_le}
use Rattle.image.specs.Written.{letter_from, letters_from, method_letters, line_from}

-- The part of class c's method j.
abbrev pub cell_from : List ℕ → List ℕ → Part → ℕ → ℕ → List ℕ
cell_from text ws Masks c j = u32_bytes (class_word ws c (read_masks_at + j)) ++ u32_bytes (class_word ws c (write_masks_at + j))
cell_from text ws Commuting c j = u32_bytes (class_word ws c (commuting_at + j))
cell_from text ws Adds c j = u32_bytes (class_word ws c (add_masks_at + j))
cell_from text ws Line c j = line_from text ws c j

-- The part of all methods of class c.
abbrev pub methods_from : List ℕ → List ℕ → Part → ℕ → List ℕ
methods_from text ws part c = flat_map (cell_from text ws part c) (numbers (member_count ws c 1))

-- The pieces of a line, each with the byte that follows it: a name, the letters, and `y` or `n` for each method.
abbrev pub name_from : List ℕ → ℕ → List ℕ
name_from text w = name_of text w ++ bytes " "

abbrev pub vector_from : List ℕ → ℕ → ℕ → List ℕ
vector_from ws c j = method_letters ws c j ++ bytes " "

abbrev pub flags_from : List ℕ → ℕ → ℕ → List ℕ
flags_from ws c j = map (λ i. yes_or_no (bit (class_word ws c (commuting_at + j)) i)) (numbers (member_count ws c 1)) ++ bytes "\n"

-- ---- marks

-- The mark of the first of three masks that has bit k; the fourth where none has it.
abbrev pub mark_of : ℕ → ℕ → ℕ → List ℕ → ℕ → ℕ
mark_of first second third marks k =
    cond (bit first k) (get_or marks 0 0) (cond (bit second k) (get_or marks 1 0) (cond (bit third k) (get_or marks 2 0) (get_or marks 3 0)))

pub letters_marked : (read write add n : ℕ) → (n ≡ 0 → ⊥) → upto (mark_of write read add (bytes "WRAN")) n ≡ letters_from read write add n
unfolding letter_from
letters_marked read write add zero h = absurd (h refl)
letters_marked read write add (suc n) h = sym (map_numbers (letter_from read write add) (suc n))

pub letters_none : (read write add n : ℕ) → n ≡ 0 → bytes "-" ≡ letters_from read write add n
letters_none read write add n e = rw e

flag : (t : Bool) → cond t 121 (cond t 110 (cond t 110 110)) ≡ yes_or_no t
flag true = refl
flag false = refl

pub flags_marked : (m n : ℕ) → upto (mark_of m m m (bytes "ynnn")) n ≡ map (λ i. yes_or_no (bit m i)) (numbers n)
flags_marked m n =
    upto_same (λ i. yes_or_no (bit m i)) (mark_of m m m (bytes "ynnn")) n (λ i h. flag (bit m i)) ∙ sym (map_numbers (λ i. yes_or_no (bit m i)) n)

-- ---- lengths

pub name_le : (text : List ℕ) (w : ℕ) → length (name_of text w) ≤ 31
unfolding name_of
name_le text w = let e = length-take (w % 32) (drop (w / 32 % 32768) text) in omega arith

pub named_le : (text : List ℕ) (w : ℕ) → length (name_from text w) ≤ 32
named_le text w = omega (arith, length-append (name_of text w) (bytes " "), name_le text w)

pub members_le : (ws : List ℕ) (c p : ℕ) → member_count ws c p ≤ 32
unfolding member_count
members_le ws c p = omega arith

pub letters_le : (read write add n : ℕ) → n ≤ 32 → length (letters_from read write add n) ≤ 32
letters_le read write add zero h = omega arith
letters_le read write add (suc n) h =
    let e = length-map (numbers (suc n)) (letter_from read write add) in
    omega (arith, length_upto (λ k. k) (suc n))

line_joined : (a b c d : List ℕ)
    → (a ++ bytes " ") ++ ((b ++ bytes " ") ++ ((c ++ bytes " ") ++ (d ++ bytes "\n"))) ≡ a ++ bytes " " ++ b ++ bytes " " ++ c ++ bytes " " ++ d ++ bytes "\n"
line_joined a b c d = simp append_assoc

module _ (ws : List ℕ) (c j : ℕ) where
  pub vector_le : length (vector_from ws c j) ≤ 33
  unfolding method_letters
  vector_le =
      let word : ℕ → ℕ = λ at. class_word ws c (at + j) in
      omega (arith, length-append (method_letters ws c j) (bytes " "), letters_le (word read_masks_at) (word write_masks_at) (word add_masks_at) (member_count ws c 0) (members_le ws c 0))

  flags_le : length (flags_from ws c j) ≤ 33
  flags_le =
      let flag : ℕ → ℕ = λ i. yes_or_no (bit (class_word ws c (commuting_at + j)) i) in
      let n = member_count ws c 1 in
      omega (arith, length-append (map flag (numbers n)) (bytes "\n"), length-map (numbers n) flag, length_upto (λ k. k) n, members_le ws c 1)

module _ (text ws : List ℕ) (c j : ℕ) where
  -- A line in the four pieces that are written.
  pub line_pieces : name_from text (class_word ws c class_name_at) ++ (name_from text (class_word ws c (method_names_at + j)) ++ (vector_from ws c j ++ flags_from ws c j)) ≡ line_from text ws c j
  unfolding line_from
  line_pieces =
      line_joined (name_of text (class_word ws c class_name_at)) (name_of text (class_word ws c (method_names_at + j)))
      (method_letters ws c j)
      (map (λ i. yes_or_no (bit (class_word ws c (commuting_at + j)) i)) (numbers (member_count ws c 1)))

  line_le : length (line_from text ws c j) ≤ 130
  line_le =
      let a = name_from text (class_word ws c class_name_at) in
      let b = name_from text (class_word ws c (method_names_at + j)) in
      let v = vector_from ws c j in
      let f = flags_from ws c j in
      let sum = length-append a (b ++ (v ++ f)) in
      let rest = length-append b (v ++ f) in
      omega (arith, ap length line_pieces, length-append v f, named_le text (class_word ws c class_name_at), named_le text (class_word ws c (method_names_at + j)), vector_le ws c j, flags_le ws c j)

module _ (text ws : List ℕ) where
  pub cell_le : (part : Part) (c j : ℕ) → length (cell_from text ws part c j) ≤ 130
  cell_le Masks c j = omega arith
  cell_le Commuting c j = omega arith
  cell_le Adds c j = omega arith
  cell_le Line c j = line_le text ws c j

  pub methods_le : (part : Part) (c n : ℕ) → length (flat_map (cell_from text ws part c) (numbers n)) ≤ n * 130
  methods_le part c n = each_le 130 (cell_from text ws part c) n (cell_le part c)

  pub classes_le : (part : Part) (n : ℕ) → length (flat_map (methods_from text ws part) (numbers n)) ≤ n * 4160
  classes_le part n =
      each_le 4160 (methods_from text ws part) n (λ c. omega (arith, methods_le part c (member_count ws c 1), members_le ws c 1))
