-- The lines of the objects as loops over objects and values write them.
use Rattle.std.specs.Prelude.{ℕ, ◌+◌, ◌*◌, ◌/◌, ◌%◌, ◌≤◌, ◌≡◌, refl, length, take}
use Rattle.std.proofs.Math.Numerals.{add-one}
use native.Mathlib.Omega.{arith}
use Rattle.std.proofs.Math.Path.{sym, ap}
use Rattle.std.proofs.Common.{◌∙◌, length-append, length-take, drop-drop}
use mathlib.Core.List.{List, [], ◌∷◌, ◌++◌, flat_map, append_assoc, append-nil}
use Rattle.std.proofs.Math.ListN.{drop}
use Rattle.layout.specs.Layout.{object_name_at, object_class_at}
use Rattle.model.specs.Base.{bytes, upto}
use Rattle.model.specs.Library.{Library, Object, class_at}
use Rattle.model.specs.Tables.{digits}
use Rattle.model.specs.Rehearsal.{objects_printed}
use Rattle.catalog.specs.View.{name_of, object_word, object_of, library_of}
use Rattle.catalog.specs.Look.{shown_count, shown_le}
use Rattle.output.specs.Digits.{digits_le}
use Rattle.image.specs.Starting.{fields_shown}

-- ---- the values of an object

abbrev pub value_printed : ℕ → List ℕ
value_printed v = bytes " " ++ digits 10 v

values_append : (xs ys : List ℕ) → flat_map value_printed (xs ++ ys) ≡ flat_map value_printed xs ++ flat_map value_printed ys
unfolding flat_map
values_append [] ys = refl
values_append (x ∷ xs) ys = ap (λ (l : List ℕ). value_printed x ++ l) (values_append xs ys) ∙ sym (append_assoc (value_printed x) (flat_map value_printed xs) (flat_map value_printed ys))

-- One value more.
pub values_push : (vs : List ℕ) (v : ℕ) → flat_map value_printed (vs ++ (v ∷ [])) ≡ flat_map value_printed vs ++ value_printed v
unfolding flat_map
values_push vs v = values_append vs (v ∷ []) ∙ ap (λ (l : List ℕ). flat_map value_printed vs ++ l) (append-nil (value_printed v))

values_few : (vs : List ℕ) → length (flat_map value_printed vs) ≤ 11 * length vs
unfolding flat_map
values_few [] = omega arith
values_few (v ∷ vs) = omega (arith, length-append (value_printed v) (flat_map value_printed vs), digits_le 10 v, values_few vs)

-- ---- the line of an object

-- The line of object o, whose values are at the front.
unfoldable pub object_printed : List ℕ → List ℕ → ℕ → List ℕ → List ℕ
unfolding name_of object_word shown_count flat_map digits
object_printed text ws o values =
    name_of text (object_word ws o object_name_at) ++ (flat_map value_printed (take (shown_count ws (object_word ws o object_class_at) 0) values) ++ bytes "\n")

-- A name has at most 31 bytes.
pub name_few : (text : List ℕ) (w : ℕ) → length (name_of text w) ≤ 31
unfolding name_of
name_few text w = omega (arith, length-take (w % 32) (drop (w / 32 % 32768) text))

pub printed_few : (values : List ℕ) (n : ℕ) → n ≤ 32 → length (flat_map value_printed (take n values)) ≤ 352
printed_few values n h = omega (arith, values_few (take n values), length-take n values)

-- The line of an object has at most 384 bytes.
pub object_few : (text ws : List ℕ) (o : ℕ) (values : List ℕ) → length (object_printed text ws o values) ≤ 384
unfolding object_printed
object_few text ws o values =
    let name = name_of text (object_word ws o object_name_at) in
    let n = shown_count ws (object_word ws o object_class_at) 0 in
    let said = flat_map value_printed (take n values) in
    omega (
      arith,
      length-append name (said ++ bytes "\n"),
      length-append said (bytes "\n"),
      name_few text (object_word ws o object_name_at),
      printed_few values n (shown_le ws (object_word ws o object_class_at) 0),
    )

-- ---- all objects

module _ (l : Library) where
  unfoldable pub fields_in : Object → ℕ
  fields_in x = length (class_at l x.class).fields

  unfoldable pub line_in : Object → List ℕ → List ℕ
  unfolding fields_in flat_map digits
  line_in x values = x.name ++ flat_map value_printed (take (fields_in x) values) ++ bytes "\n"

  -- The number of the values of these objects.
  unfoldable pub values_of : List Object → ℕ
  unfolding fields_in
  values_of [] = 0
  values_of (x ∷ xs) = fields_in x + values_of xs

  values_one : (xs : List Object) (x : Object) → values_of (xs ++ (x ∷ [])) ≡ values_of xs + fields_in x
  unfolding values_of
  values_one [] x = omega arith
  values_one (y ∷ ys) x = omega (arith, values_one ys x)

  -- One object more: its values follow those of the others.
  objects_one : (xs : List Object) (x : Object) (values : List ℕ)
      → objects_printed l (xs ++ (x ∷ [])) values ≡ objects_printed l xs values ++ line_in x (drop (values_of xs) values)
  unfolding objects_printed line_in values_of fields_in
  objects_one [] x values = append-nil (line_in x values)
  objects_one (y ∷ ys) x values =
      let n = fields_in y in
      let rest = drop n values in
      ap (λ (k : List ℕ). line_in y values ++ k) (objects_one ys x rest ∙ ap (λ (v : List ℕ). objects_printed l ys rest ++ line_in x v) (drop-drop (values_of ys) n values))
      ∙ sym (append_assoc (line_in y values) (objects_printed l ys rest) (line_in x (drop (n + values_of ys) values)))

module _ (text ws : List ℕ) where
  line_is : (o : ℕ) (values : List ℕ) → object_printed text ws o values ≡ line_in (library_of text ws) (object_of text ws o) values
  unfolding object_printed object_of line_in fields_in
  line_is o values =
      let name = name_of text (object_word ws o object_name_at) in
      let n = shown_count ws (object_word ws o object_class_at) 0 in
      sym (append_assoc name (flat_map value_printed (take n values)) (bytes "\n"))
      ∙ ap (λ (k : ℕ). name ++ flat_map value_printed (take k values) ++ bytes "\n") (fields_shown text ws (object_word ws o object_class_at))

  -- The lines of the first n objects, and the number of their values.
  unfoldable pub lines_to : List ℕ → ℕ → List ℕ
  unfolding upto objects_printed library_of object_of
  lines_to values n = objects_printed (library_of text ws) (upto (object_of text ws) n) values

  unfoldable pub values_to : ℕ → ℕ
  unfolding upto library_of object_of values_of
  values_to n = values_of (library_of text ws) (upto (object_of text ws) n)

  pub values_next : (n : ℕ) → values_to (n + 1) ≡ values_to n + shown_count ws (object_word ws n object_class_at) 0
  unfolding values_to upto object_of fields_in
  values_next n =
      rw add-one (values_one (library_of text ws) (upto (object_of text ws) n) (object_of text ws n)
      ∙ ap (λ (k : ℕ). values_to n + k) (sym (fields_shown text ws (object_word ws n object_class_at))))

  pub lines_next : (values : List ℕ) (n : ℕ) → lines_to values (n + 1) ≡ lines_to values n ++ object_printed text ws n (drop (values_to n) values)
  unfolding lines_to values_to upto
  lines_next values n =
      rw add-one (objects_one (library_of text ws) (upto (object_of text ws) n) (object_of text ws n) values
      ∙ ap (λ (k : List ℕ). lines_to values n ++ k) (sym (line_is n (drop (values_to n) values))))
