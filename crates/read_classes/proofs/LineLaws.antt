-- Lines that change the last class: the change of the class determines that of the library.
use Prim.Native.Nat.{ℕ, suc, pred, ◌/◌}
use mathlib.Core.Path.{◌≡◌, refl, sym, ap, subst, subst₂, subst₃, ◌∙◌}
use mathlib.Core.List.{List}
use native.Mathlib.Omega.{arith}
use lib.ListN.{length}
use Rattle.model.specs.Base.{any, alter}
use Rattle.model.specs.Word.{Name}
use Rattle.model.specs.Text.{words}
use Rattle.model.specs.Form.{Form, Line, field_line, method_line, form_of}
use Rattle.model.specs.Library.{Class, Library, no_class, among, class_at, with_field, with_method, last_number, last_class, alter_last, add}
use Rattle.model.specs.Fault.{field_fault, writes, method_fault}
use Rattle.catalog.specs.View.{name_of, class_count, class_of, library_of}
use Rattle.laws.specs.Upto.{alter_out}
use Rattle.catalog.specs.Frames.{around_altered}
use Rattle.catalog.specs.Look.{class_count_law, statement_count_law, class_at_law, class_past}
use Rattle.read_classes.specs.Lines.{line_of, line_word, line_origin, field_name, method_name}
use Rattle.read_classes.specs.Took.{Took, Lent}
use Rattle.read_classes.specs.Made.{Altered, FieldAdded, MethodAdded}

module _ (text ws : List ℕ) where
  abbrev l : Library
  l = library_of text ws

  -- The library with its last class changed.
  abbrev pub last_altered : (Class → Class) → Library
  last_altered g = record { classes = alter_last g l; statements = l.statements; objects = l.objects }

  pub last_number_law : (c : ℕ) → suc c ≡ class_count ws → last_number l ≡ c
  last_number_law c e = let q : length l.classes ≡ suc c = class_count_law text ws ∙ sym e in ap pred q

  module _ (line : Line) (f : Form) (fault : Class → ℕ) (g : Class → Class) (a : add l line f ≡ last_altered g) where
    -- There is no class.
    pub took_none : class_count ws ≡ 0 → fault no_class ≡ 0 → Took l line f (fault (last_class l)) 0 l
    took_none e h = record {
      number = sym (ap fault (class_past text ws (last_number l) (omega arith)) ∙ h);
      known = λ z.
          (λ i. record {
            classes = sym (alter_out (last_number l) g l.classes (omega (arith, class_count_law text ws))) i;
            statements = l.statements;
            objects = l.objects;
          })
          ∙ sym a;
    }

    pub took_last : (c : ℕ) → suc c ≡ class_count ws → (r : ℕ) (ws' : List ℕ) → Altered text ws c g (fault (class_of text ws c)) r ws'
        → Took l line f (fault (last_class l)) r (library_of text ws')
    took_last c e r ws' t =
        let n = last_number_law c e in
        record {
          number = t.number ∙ ap fault (sym (ap (class_at l) n ∙ class_at_law text ws c (omega arith)));
          known = λ z.
              around_altered text (t.around z) g (omega arith) (t.class z)
              ∙ (λ i. record { classes = alter (sym n i) g l.classes; statements = l.statements; objects = l.objects })
              ∙ sym a;
        }

  module _ (line : Line) (n : Name) where
    pub field_none : class_count ws ≡ 0 → Took l line (field_line n) (field_fault (last_class l) n) 0 l
    unfolding add field_fault among any
    field_none e = took_none line (field_line n) (λ k. field_fault k n) (with_field (last_number l) n) refl e refl

    pub method_none : class_count ws ≡ 0 → Took l line (method_line n) (method_fault (last_number l) (last_class l) n) 0 l
    unfolding add method_fault writes among any
    method_none e = took_none line (method_line n) (λ k. method_fault (last_number l) k n) (with_method (last_number l) n (length l.statements)) refl e refl

    -- The line from `at` to `end`, by its name's word w for the last class.
    module _ (c : ℕ) (e : suc c ≡ class_count ws) (at end : ℕ) (z : Lent text ws at end) (w : ℕ) (k : w ≡ line_word text at end c) (r : ℕ) (ws' : List ℕ) where
      origin : w / 1048576 ≡ last_number l
      origin = ap (λ (x : ℕ). x / 1048576) k ∙ line_origin text at end c (omega arith) ∙ sym (last_number_law c e)

      pub field_took : FieldAdded text ws c w r ws' → form_of (words (line_of text at end)) ≡ field_line n
          → Took l line (field_line n) (field_fault (last_class l) n) r (library_of text ws')
      unfolding add
      field_took t f =
          took_last line (field_line n) (λ k. field_fault k n) (with_field (last_number l) n) refl c e r ws'
          (subst₂ (λ (d : ℕ) (m : Name). Altered text ws c (with_field d m) (field_fault (class_of text ws c) m) r ws') origin
          (ap (name_of text) k ∙ field_name text at end z.order z.within z.small n c f) t)

      pub method_took : MethodAdded text ws c w r ws' → form_of (words (line_of text at end)) ≡ method_line n
          → Took l line (method_line n) (method_fault (last_number l) (last_class l) n) r (library_of text ws')
      unfolding add
      method_took t f =
          took_last line (method_line n) (λ k. method_fault (last_number l) k n) (with_method (last_number l) n (length l.statements)) refl c e r ws'
          (subst (λ (x : ℕ). Altered text ws c (with_method (last_number l) n (length l.statements)) (method_fault x (class_of text ws c) n) r ws')
          (sym (last_number_law c e))
          (subst₃ (λ (x : ℕ) (m : Name) (s : ℕ). Altered text ws c (with_method x m s) (method_fault c (class_of text ws c) m) r ws') origin
          (ap (name_of text) k ∙ method_name text at end z.order z.within z.small n c f) (sym (statement_count_law text ws)) t))
