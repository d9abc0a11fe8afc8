-- From tables with their masks, and with what a start works out from them stored, to tables that a start has filled.
use Rattle.std.specs.Prelude.{ℕ, ◌+◌, ◌%◌, ◌<◌, ◌≡◌, List, [], length, get_or}
use Rattle.std.proofs.Math.Path.{sym, ap}
use Rattle.std.proofs.Common.{subst, ◌∙◌, arith}
use Rattle.layout.specs.Layout.{value_count_at, commuting_at, table_words}
use Rattle.model.specs.Library.{Library}
use Rattle.model.specs.Read.{accepted, read}
use Rattle.model.specs.Vector.{program}
use Rattle.model.specs.Image.{commute_mask}
use Rattle.model.specs.Message.{base_of}
use Rattle.catalog.specs.View.{class_word, class_count, object_count, member_count, library_of}
use Rattle.vector_compiler.specs.Filled.{Filled, same_classes, same_methods, program_masks}
use Rattle.image.specs.Sizes.{value_count}
use Rattle.machine_refinement.specs.Rep.{Fits}
use Rattle.machine_start.specs.Worked.{first_value}
use Rattle.machine_start.specs.Beside.{beside_classes, beside_objects, beside_members, beside_high, beside_library}
use Rattle.machine_start.specs.Stored.{Stored}
use Rattle.machine_start.specs.Started.{Started, Fill}
use Rattle.machine_start.specs.Fitting.{accepted_size, base_is, fitting}

module _ (text ws ws₁ ws' : List ℕ) (size : length ws ≡ table_words) (f : Filled text ws ws₁) (s : Stored ws₁ (length text % 65536) ws') where
  same_library : library_of text ws' ≡ library_of text ws
  same_library = beside_library s.beside text ∙ f.library

  module _ (e : read text ≡ accepted (library_of text ws)) where
    masks : (c j : ℕ) → c < class_count ws' → j < member_count ws' c 1
        → let vs = get_or (program (library_of text ws)).vectors c [] in class_word ws' c (commuting_at + j) ≡ commute_mask vs (get_or vs j [])
    unfolding member_count
    masks c j h k =
        let a : c < class_count ws = omega (arith, beside_classes s.beside, same_classes f.only) in
        let b : j < member_count ws c 1 = omega (arith, beside_members s.beside c 1 (omega arith) (omega arith), same_methods f.only c (omega arith)) in
        beside_high s.beside c (commuting_at + j) (omega arith) (omega arith) (omega arith) ∙ (program_masks text ws ws₁ f (omega arith) c j a b).commuting

    fits : Fits text ws' (program (library_of text ws))
    fits =
        let back = sym same_library in
        subst (λ (l : Library). Fits text ws' (program l)) same_library
        (fitting text ws' (e ∙ ap accepted back) s.worked
        (subst (λ (l : Library). (c j : ℕ) → c < class_count ws' → j < member_count ws' c 1
        → let vs = get_or (program l).vectors c [] in class_word ws' c (commuting_at + j) ≡ commute_mask vs (get_or vs j [])) back masks))

    same_objects : object_count ws' ≡ object_count ws
    same_objects = omega (arith, beside_objects s.beside, f.only.counts 2 (omega arith) (omega arith))

    value_count_law : get_or ws' value_count_at 0 ≡ value_count ws
    unfolding first_value
    value_count_law = fits.total ∙ ap (base_of (program (library_of text ws))) same_objects ∙ sym (base_is text ws (object_count ws) (omega arith))

    started : Started text ws ws'
    started = record {
      size = s.beside.size ∙ f.only.size ∙ size;
      fits = fits;
      few = s.few;
      values = value_count_law;
      text_length = omega (arith, s.text_length, accepted_size text (library_of text ws) e);
      marked = s.marked;
    }

  -- The tables that `fill` leaves.
  pub filled : Fill text ws ws'
  filled = record { size = s.beside.size ∙ f.only.size ∙ size; started = started }
