-- The result of a line of the second pass: its fault, or the library with the line added.
use Rattle.std.specs.Prelude.{ℕ, ◌≤◌, ◌≡◌, ◌≢◌, List, length}
use Rattle.std.proofs.Common.{arith}
use Rattle.refusals.specs.Numbers.{fault_number}
use Rattle.refusals.specs.declared.Fault.{Fault}
use Rattle.refusals.specs.declared.Fault.TheVariants.{TooLong, Misplaced, Repeated, Unknown, FieldsDiffer, NoAncestor, TooMany}
use Rattle.layout.specs.Layout.{table_words}
use Rattle.model.specs.Text.{words}
use Rattle.model.specs.Word.{Name}
use Rattle.model.specs.Form.{Form, Line, class_line, field_line, method_line, form_of}
use Rattle.model.specs.Library.{Library, add, last_number, last_class}
use Rattle.model.specs.Fault.{class_fault, field_fault, method_fault}
use Rattle.catalog.specs.View.{library_of}

-- No fault has the number 0.
pub fault_some : (f : Fault) → fault_number f ≢ 0
fault_some TooLong e = omega arith
fault_some Misplaced e = omega arith
fault_some Repeated e = omega arith
fault_some Unknown e = omega arith
fault_some FieldsDiffer e = omega arith
fault_some NoAncestor e = omega arith
fault_some TooMany e = omega arith

pub record Took (l : Library) (line : Line) (f : Form) (fault r : ℕ) (after : Library) : Type 0 where
  pub number : r ≡ fault
  pub known : r ≡ 0 → after ≡ add l line f

-- The line from `at` to `end` lies in the text, and text and tables have their sizes.
pub record Lent (text ws : List ℕ) (at end : ℕ) : Type 0 where
  pub order : at ≤ end
  pub within : end ≤ length text
  pub small : length text ≤ 32768
  pub room : length ws ≡ table_words

module _ (text ws part : List ℕ) (r : ℕ) (ws' : List ℕ) where
  -- The results of the three line functions for a part of the text that has the form.
  abbrev pub ClassTook : Type 0
  ClassTook =
      (line : Line) (n : Name) (ps : List Name) → form_of (words part) ≡ class_line n ps
      → Took (library_of text ws) line (class_line n ps) (class_fault (library_of text ws) n ps) r (library_of text ws')

  abbrev pub FieldTook : Type 0
  FieldTook =
      (line : Line) (n : Name) → form_of (words part) ≡ field_line n
      → Took (library_of text ws) line (field_line n) (field_fault (last_class (library_of text ws)) n) r (library_of text ws')

  abbrev pub MethodTook : Type 0
  MethodTook =
      (line : Line) (n : Name) → form_of (words part) ≡ method_line n
      → Took (library_of text ws) line (method_line n) (method_fault (last_number (library_of text ws)) (last_class (library_of text ws)) n) r (library_of text ws')
