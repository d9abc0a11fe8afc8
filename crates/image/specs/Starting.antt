-- Where the words represent a library, the values written from them are its starting values.
use Rattle.std.specs.Prelude.{ℕ, ◌≡◌, List, ◌++◌, length}
use Rattle.std.proofs.Math.Path.{sym, ap}
use Rattle.std.proofs.Common.{◌∙◌, arith}
use Rattle.std.proofs.Math.ListN.{take, replicate}
use Rattle.layout.specs.Layout.{object_class_at, object_line_at}
use Rattle.model.specs.Library.{Library, class_at}
use Rattle.model.specs.Image.{values_of, starting_values}
use Rattle.catalog.specs.View.{part_of, numbers_in, object_word, object_count, object_of, member_at, library_of}
use Rattle.laws.specs.Upto.{length_upto}
use Rattle.catalog.specs.Look.{shown_count, shown_members}
use Rattle.image.specs.Written.{values_from, starting_from}
use Rattle.output.specs.Each.{each_upto, each_same}

module _ (text ws : List ℕ) where
  -- A class shows as many fields as it has.
  pub fields_shown : (k : ℕ) → shown_count ws k 0 ≡ length (class_at (library_of text ws) k).fields
  fields_shown k = sym (ap length (shown_members text ws k 0 (omega arith)) ∙ length_upto (member_at text ws k 0) (shown_count ws k 0))

  values_are : (o : ℕ) → values_from text ws o ≡ values_of (library_of text ws) (object_of text ws o)
  unfolding values_from object_of
  values_are o = ap (λ (n : ℕ). take n (numbers_in (part_of text (object_word ws o object_line_at)) ++ replicate n 0)) (fields_shown (object_word ws o object_class_at))

  starting_are : starting_from text ws ≡ starting_values (library_of text ws)
  unfolding starting_from starting_values library_of
  starting_are =
      each_same (values_from text ws) (λ o. values_of (library_of text ws) (object_of text ws o)) (object_count ws) (λ o h. values_are o)
      ∙ sym (each_upto (values_of (library_of text ws)) (object_of text ws) (object_count ws))

pub starting_law : (text ws : List ℕ) (l : Library) → library_of text ws ≡ l → starting_from text ws ≡ starting_values l
starting_law text ws l e = starting_are text ws ∙ ap starting_values e
