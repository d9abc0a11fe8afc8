-- One small text with its words: they are those of a fresh start, so that what is proved of such words holds of these unconditionally.
use Rattle.std.specs.Prelude.{ℕ, zero, suc, ◌+◌, ◌/◌, ◌%◌, ◌≤◌, ◌<◌, ◌≡◌, refl, Bool, true, false, ◌&&◌, List, [], ◌∷◌, ◌++◌, length, get_or, set, replicate, eqb, ltb}
use Rattle.std.proofs.Common.{arith, sym, ap, subst, ◌∙◌, ne_eqb, le-ltb}
use Rattle.std.proofs.Math.Path.{fun_ext}
use Rattle.std.proofs.lemmas.Bool.{false≢true}
use Rattle.std.proofs.Math.Option.{none}
use Rattle.std.proofs.lemmas.List.Edits.{sets}
use Rattle.layout.specs.Layout.{domain_at, names_at, method_names_at, method_bodies_at, write_masks_at, commuting_at, object_class_at, object_values_at, classes_at, objects_at, statements_at, table_words, slots_words}
use Rattle.model.specs.Base.{bytes, any, same}
use Rattle.model.specs.Expression.{field, argument, apply, plus}
use Rattle.model.specs.Text.{words, pieces}
use Rattle.model.specs.Form.{replace, assign, statement_line, form_of}
use Rattle.model.specs.Library.{Library, no_member, class_at, member, member_place, among, as_recorded, statements_of, method_names}
use Rattle.model.specs.Fault.{strange}
use Rattle.model.specs.Read.{library}
use Rattle.model.specs.Vector.{Program, program, commute}
use Rattle.model.specs.Image.{mask, commute_mask}
use Rattle.model.specs.Message.{base_of, in_domain}
use Rattle.model.specs.Machine.{Call}
use Rattle.text_theory.specs.Copies.{Copied}
use Rattle.text_theory.specs.Named.{NamedBody, Names}
use Rattle.catalog.specs.View.{part_of, class_word, object_word, statement_word, class_count, member_count, library_of}
use Rattle.laws.specs.Bits.{bit, bit_zero, bit_one}
use Rattle.vector_theory.specs.VectorLaws.{program_compiled}
use Rattle.machine_words.specs.Row.{blank}
use Rattle.machine_words.specs.Line.{count_in}
use Rattle.machine_words.specs.Calls.{Lent, lending, row_of, phase_of, misfit_of, mark}
use Rattle.machine_refinement.specs.Rep.{statement_at, Distinct, Fits, Fresh}
use Rattle.guarantees.specs.Course.{called_all, InOrder, in_order}

abbrev text : List ℕ
text = bytes "class c\nfield f\nmethod m\nset f + f arg\nend\nobject o c\n"

abbrev tables : List ℕ
tables =
    let head = sets (replicate table_words 0) 0 (1 ∷ 1 ∷ 1 ∷ 1 ∷ 54 ∷ mark ∷ []) in
    let class = sets head classes_at (193 ∷ 1 ∷ 1 ∷ 0 ∷ 0 ∷ 1 ∷ []) in
    let field = set class (classes_at + names_at) 449 in
    let method = set (set field (classes_at + method_names_at) 737) (classes_at + method_bodies_at) 1 in
    let masks = set method (classes_at + write_masks_at) 1 in
    let object = sets masks objects_at (1601 ∷ 0 ∷ 0 ∷ 3473408 ∷ []) in
    set object statements_at 1638413

abbrev p : Program
p = program (library text)

only : (P : ℕ → Type 0) → P 0 → (k : ℕ) → k < 1 → P k
only P h zero l = h
only P h (suc k) l = absurd (omega arith)

-- The library, for any ancestors of its class.
abbrev with_ancestors : (ℕ → Bool) → Library
with_ancestors above =
    record {
      classes = record {
        name = bytes "c";
        ancestors = above;
        fields = record { origin = 0; name = bytes "f"; first = 0; count = 0 } ∷ [];
        methods = record { origin = 0; name = bytes "m"; first = 0; count = 1 } ∷ [];
        latest = 0;
      } ∷ [];
      statements = record { statement = record { guard = none; action = assign replace (bytes "f") (apply plus (field (bytes "f")) argument) }; at = 25; size = 13 } ∷ [];
      objects = record { name = bytes "o"; class = 0; values = [] } ∷ [];
    }

words_library : library_of text tables ≡ with_ancestors (bit 0)
unfolding library_of
words_library = refl

text_library : library text ≡ with_ancestors (λ d. false)
unfolding library
text_library = refl

-- The names of its one body are known, and its class has no ancestors.
plain_names : Names (with_ancestors (λ d. false))
unfolding statements_of strange among any same
plain_names =
    record {
      bodies = body;
      fields = λ c d up. absurd (none_above c d up);
      methods = λ c d up. absurd (none_above c d up);
      ancestors = λ c d e up. absurd (none_above c d up);
    }
  where
    l : Library
    l = with_ancestors (λ d. false)

    body : (c j : ℕ) → j < length (class_at l c).methods → NamedBody l (class_at l c) (statements_of l (get_or (class_at l c).methods j no_member))
    body zero zero h = (refl, tt)
    body zero (suc j) h = absurd (omega arith)
    body (suc c) j h = absurd (omega arith)

    none_above : (c d : ℕ) → (class_at l c).ancestors d ≡ true → ⊥
    none_above zero d up = false≢true up
    none_above (suc c) d up = false≢true up

fits : Fits text tables p
unfolding program library member_count class_word object_word bit mask commute member member_place as_recorded base_of part_of statement_word form_of pieces among any same
fits =
    record {
      library = words_library ∙ ap with_ancestors (fun_ext bit_zero) ∙ sym text_library;
      resolve = refl;
      commuting = λ c j h. only (λ k. (i : ℕ) → i < member_count tables k 1
          → class_word tables k (commuting_at + i) ≡ commute_mask (get_or p.vectors k []) (get_or (get_or p.vectors k []) i []))
          (only (λ i. class_word tables 0 (commuting_at + i) ≡ commute_mask (get_or p.vectors 0 []) (get_or (get_or p.vectors 0 []) i [])) refl) c h j;
      rows = only (λ k. length (get_or p.vectors k []) ≡ member_count tables k 1) refl;
      domains = λ c d h. only (λ k. bit (class_word tables k domain_at) d ≡ (ltb d 1 && in_domain p k d)) (bit_one 0 d (omega arith) ∙ first d) c h;
      bases = only (λ o. object_word tables o object_values_at ≡ base_of p o) refl;
      total = refl;
      known = only (λ o. object_word tables o object_class_at < class_count tables) (omega arith);
      distinct = only (Distinct p) (only (λ j. member_place (class_at p.library 0).methods (get_or (method_names p.library 0) j []) ≡ j) refl);
      bodies = λ c j h. only (λ k. (i : ℕ) → i < member_count tables k 1 → let b = get_or (class_at p.library k).methods i no_member in b.first + b.count ≤ 1)
          (only (λ i. let b = get_or (class_at p.library 0).methods i no_member in b.first + b.count ≤ 1) (omega arith)) c h j;
      copies = λ c j h. only (λ k. (i : ℕ) → i < member_count tables k 1 → Copied p.library (get_or (class_at p.library k).methods i no_member))
          (only (λ i. Copied p.library (get_or (class_at p.library 0).methods i no_member)) (refl, refl)) c h j;
      lines = only (λ s. form_of (words (part_of text (statement_word tables s))) ≡ statement_line (statement_at p.library s)) refl;
      places = only (λ s. let w = statement_word tables s in w / 65536 + w % 65536 ≤ length text) (omega arith);
      names = subst Names (sym text_library) plain_names;
    }
  where
    first : (d : ℕ) → eqb 0 d ≡ (ltb d 1 && in_domain p 0 d)
    first zero = refl
    first (suc d) = ne_eqb 0 (suc d) (omega arith) ∙ sym (ap (λ (b : Bool). b && in_domain p 0 (suc d)) (le-ltb (suc d) 1 (omega arith)))

-- The words of a start.
abbrev state : List ℕ
state = tables ++ replicate slots_words 0

-- What is lent, with the one value v.
abbrev start : ℕ → Lent
start v = lending text state (v ∷ [])

-- The words are those of a fresh start.
pub example_fresh : (v : ℕ) → Fresh (start v) p
unfolding misfit_of row_of count_in
example_fresh v = record { fit = refl; fits = fits; rows = row; line = refl }
  where
    row : (t : ℕ) → t < 8 → row_of state t ≡ blank
    row zero h = refl
    row (suc zero) h = refl
    row (suc (suc zero)) h = refl
    row (suc (suc (suc zero))) h = refl
    row (suc (suc (suc (suc zero)))) h = refl
    row (suc (suc (suc (suc (suc zero))))) h = refl
    row (suc (suc (suc (suc (suc (suc zero)))))) h = refl
    row (suc (suc (suc (suc (suc (suc (suc zero))))))) h = refl
    row (suc (suc (suc (suc (suc (suc (suc (suc t)))))))) h = absurd (omega arith)

-- Demand 3 for these words, whatever the calls.
pub example_in_order : (v : ℕ) (cs : List Call) → ((t : ℕ) → t < 8 → phase_of (row_of (called_all (start v) cs).lent.words t) ≡ 0)
    → InOrder p (v ∷ []) cs (called_all (start v) cs)
example_in_order v cs shut = in_order (start v) p (program_compiled (library text)) (example_fresh v) cs shut
