-- From what the reader, the vector compiler and the image's writer ensure to the entries' answers.
use Rattle.std.specs.Prelude.{ℕ, zero, suc, ◌+◌, ◌/◌, ◌%◌, ◌≤◌, ◌<◌, ◌≡◌, take, drop}
use Rattle.std.proofs.Common.{arith, subst, ◌∙◌}
use Rattle.std.proofs.Math.Path.{refl, sym, ap}
use mathlib.Core.List.{List, [], ◌∷◌, ◌++◌}
use Rattle.std.proofs.Math.ListN.{length, get_or, drop_of_length-le}
use Rattle.std.proofs.Math.Seq.{drop-cons, drop-nil}
use borrow.Author.Tests.{lt-ltb, le-ltb, eq-eqb, ne_eqb}
use Rattle.layout.specs.Layout.{statements_at, table_words}
use Rattle.model.specs.Library.{Placed}
use Rattle.model.specs.Read.{Reading, accepted, refused, read, library_in, library}
use Rattle.model.specs.Base.{upto}
use Rattle.model.specs.Told.{done, refusal, or_fault, fitted, into}
use Rattle.model.specs.Image.{image, image_in, compile_answer, compiled_into, statement_answer, place_and_size, place_in, statement_place, statement_part, starting_values, values_answer, starting_values_into}
use Rattle.model.specs.Tables.{refusal_printed, printed_for, printed, print_answer, printed_into}
use Rattle.laws.specs.Basics.{All}
use Rattle.text_theory.specs.Accepted.{Inside, library_within}
use Rattle.catalog.specs.View.{statement_word, class_count, statement_count, member_count, placed_of, library_of}
use Rattle.laws.specs.Upto.{get_d_upto}
use Rattle.catalog.specs.Look.{statement_count_law}
use Rattle.std.specs.Prelude.{Result, Ok, Err, IsErrAnd}
use Rattle.std.proofs.lemmas.Result.{err_from_is_err_and}
use Rattle.refusals.specs.Numbers.{fault_number}
use Rattle.refusals.specs.declared.Refusal.TheVariants.{TooShort, OtherCount}
use Rattle.reader.specs.Verdicts.{Verdict, Tells, ReadInto}
use Rattle.reader.specs.declared.Refused.{Refused}
use Rattle.vector_compiler.specs.Filled.{Filled, same_classes, same_methods}
use Rattle.image.specs.Written.{image_from, starting_from, tables_from}
use Rattle.image.specs.Sizes.{value_count, starting_length}
use Rattle.output.specs.Append.{Printed, over, over_fits, over_whole}
use Rattle.image.specs.Starting.{starting_law}
use Rattle.image.specs.Laws.{Masks, image_law, tables_law}
use Rattle.cishmolaq.specs.declared.Error.{Error}
use Rattle.cishmolaq.specs.declared.Error.TheVariants.{Text, Lent as Unfit}
use Rattle.cishmolaq.specs.declared.Place.{Place}
use Rattle.cishmolaq.specs.Answers.{Fits, Compiles, Prints, Stands, Starts}

-- Filled tables hold the masks of the library that they represent.
pub filled_masks : (text ws ws' : List ℕ) → Filled text ws ws' → length ws ≡ table_words → Masks ws' (library_of text ws)
filled_masks text ws ws' f size = record {
  read = λ c j h k. (f.masks (omega arith) c j (known c h) (below c j h k)).read;
  write = λ c j h k. (f.masks (omega arith) c j (known c h) (below c j h k)).write;
  commuting = λ c j h k. (f.masks (omega arith) c j (known c h) (below c j h k)).commuting;
  add = λ c j h k. (f.masks (omega arith) c j (known c h) (below c j h k)).add;
}
  where
    known : (c : ℕ) → c < class_count ws' → c < class_count ws
    known c h = omega (arith, same_classes f.only)

    below : (c j : ℕ) → c < class_count ws' → j < member_count ws' c 1 → j < member_count ws c 1
    below c j h k = omega (arith, same_methods f.only c (omega arith))

-- ---- a run written into a buffer

module _ (run buffer : List ℕ) where
  -- A buffer that is too short: 21, and nothing is written.
  pub fits_short : length buffer < length run → Fits run buffer (Err (Unfit TooShort)) buffer
  unfolding into
  fits_short h = record { says = rw (lt-ltb (length buffer) (length run) h); bytes = rw (lt-ltb (length buffer) (length run) h); kept = refl }

  -- The run is written, and what lies past it is unchanged.
  pub fits_done : length run ≤ length buffer → (n : ℕ) → n ≡ length run → (after : List ℕ) → after ≡ over run buffer → Fits run buffer (Ok n) after
  unfolding into
  fits_done h n e after w = record {
    says = rw (le-ltb (length buffer) (length run) h) (ap done e);
    bytes = rw (le-ltb (length buffer) (length run) h) (w ∙ over_fits run buffer h);
    kept = tt;
  }

  -- The run is printed into no bytes first, which writes nothing and gives its length, then into the buffer where there is room.
  module _ (n : ℕ) (last : List ℕ) (p : Printed run [] n last) where
    nothing_written : last ++ buffer ≡ buffer
    nothing_written = ap (λ (l : List ℕ). l ++ buffer) (p.bytes ∙ drop-nil (length run))

    pub print_short : length (last ++ buffer) < n → Fits run buffer (Err (Unfit TooShort)) (last ++ buffer)
    print_short h =
        subst (λ (l : List ℕ). Fits run buffer (Err (Unfit TooShort)) l) (sym nothing_written)
        (fits_short (omega (arith, ap length nothing_written, p.count)))

    pub print_done : n ≤ length (last ++ buffer) → (m : ℕ) (after : List ℕ) → Printed run (last ++ buffer) m after → Fits run buffer (Ok n) after
    print_done h m after q =
        fits_done (omega (arith, ap length nothing_written, p.count)) n p.count after (q.bytes ∙ ap (over run) nothing_written)

-- ---- compile

module _ (text buffer : List ℕ) where
  image_none : (number line : ℕ) → read text ≡ refused number line → image text ≡ []
  unfolding image
  image_none number line e = ap image_in e

  -- A refused text: its fault, and nothing is written.
  pub compile_refused : (r : Refused) → read text ≡ refused (fault_number r.fault) r.line → Compiles text buffer (Err (Text r)) buffer
  unfolding compile_answer compiled_into into
  compile_refused r e =
      record { says = rw e; bytes = rw (image_none (fault_number r.fault) r.line e, le-ltb (length buffer) 0 (omega arith)); kept = refl }

  module _ (ws ws' : List ℕ) (size : length ws ≡ table_words) (f : Filled text ws ws') (e : read text ≡ accepted (library_of text ws)) where
    image_is : image text ≡ image_from ws'
    unfolding image
    image_is = ap image_in e ∙ sym (image_law text ws' (library_of text ws) f.library (filled_masks text ws ws' f size))

    -- An accepted text: its image, where it fits.
    pub compile_fits : {r : Result ℕ Error} {after : List ℕ} → Fits (image_from ws') buffer r after → Compiles text buffer r after
    unfolding compile_answer compiled_into
    compile_fits h = record {
      says = h.says ∙ sym (ap (λ (x : Reading). or_fault x (λ l. fitted (image text) (length buffer))) e ∙ ap (λ (l : List ℕ). fitted l (length buffer)) image_is);
      bytes = h.bytes ∙ ap (λ (l : List ℕ). into l buffer) (sym image_is);
      kept = h.kept;
    }

-- ---- a statement by its count

module _ (text : List ℕ) (count : ℕ) where
  -- A refused text hands back nothing.
  pub statement_refused : (number line : ℕ) → read text ≡ refused number line → (statement_place text count ≡ (0, 0)) × (refusal number line ≡ statement_answer text count)
  unfolding statement_place statement_answer
  statement_refused number line e = (rw e, rw e)

  module _ (ws : List ℕ) (e : read text ≡ accepted (library_of text ws)) where
    statements_are : (library_of text ws).statements ≡ upto (placed_of text ws) (statement_count ws)
    unfolding library_of
    statements_are = refl

    pub statement_past : statement_count ws ≤ count → (statement_place text count ≡ (0, 0)) × (refusal 23 0 ≡ statement_answer text count)
    unfolding statement_place statement_answer
    statement_past h =
        let long : length (library_of text ws).statements ≤ count = omega (arith, statement_count_law text ws) in
        (rw (e, drop_of_length-le (library_of text ws).statements long), rw (e, le-ltb count (length (library_of text ws).statements) long))

    -- The place and the size that the statement's word has.
    pub statement_found : count < statement_count ws → (w : ℕ) → w ≡ get_or ws (statements_at + count) 0
        → (statement_place text count ≡ (w / 65536, w % 65536)) × (done 0 ≡ statement_answer text count)
    unfolding statement_place statement_answer placed_of statement_word
    statement_found h w q =
        let within : count < length (library_of text ws).statements = omega (arith, statement_count_law text ws) in
        let at : get_or (library_of text ws).statements count (placed_of text ws count) ≡ placed_of text ws count =
        ap (λ (l : List Placed). get_or l count (placed_of text ws count)) statements_are ∙ get_d_upto (placed_of text ws) (statement_count ws) count (placed_of text ws count) h in (
          rw (e, drop-cons (library_of text ws).statements count (placed_of text ws count) within, at, q),
          rw (e, lt-ltb count (length (library_of text ws).statements) within),
        )

-- A statement's place lies within the text.
place_within : (text : List ℕ) (count : ℕ) → let s = statement_place text count in s.0 + s.1 ≤ length text
unfolding statement_place library
place_within text count = go (read text) (library_within text)
  where
    within : (ss : List Placed) → All (Inside text) ss → (n : ℕ) → let s = place_and_size (drop n ss) in s.0 + s.1 ≤ length text
    within [] h zero = omega arith
    within [] h (suc n) = omega arith
    within (s ∷ ss) h zero = h.0
    within (s ∷ ss) h (suc n) = within ss h.1 n

    go : (x : Reading) → All (Inside text) (library_in x).statements → let s = place_in x count in s.0 + s.1 ≤ length text
    go (accepted l) h = within l.statements h count
    go (refused number line) h = omega arith

-- The place of a statement.
pub stands : (text : List ℕ) (count : ℕ) {r : Place} → statement_place text count ≡ (r.at, r.size) → Stands text count r
stands text count e = record { place = e; within = subst (λ (s : ℕ × ℕ). s.0 + s.1 ≤ length text) e (place_within text count) }

-- The part of the text at the place of a statement.
pub part_at : (text : List ℕ) (count at size : ℕ) → statement_place text count ≡ (at, size) → take size (drop at text) ≡ statement_part text count
unfolding statement_part
part_at text count at size e = rw e

-- ---- starting values

module _ (text list : List ℕ) where
  pub values_refused : (r : Refused) → read text ≡ refused (fault_number r.fault) r.line → Starts text list (Err (Text r)) list
  unfolding values_answer starting_values_into
  values_refused r e = record { says = rw e; values = rw e; kept = refl }

  module _ (ws : List ℕ) (e : read text ≡ accepted (library_of text ws)) where
    starting_is : starting_from text ws ≡ starting_values (library_of text ws)
    starting_is = starting_law text ws (library_of text ws) refl

    pub count_is : value_count ws ≡ length (starting_values (library_of text ws))
    count_is = sym (starting_length text ws) ∙ ap length starting_is

    pub values_other : (length list ≡ value_count ws → ⊥) → Starts text list (Err (Unfit OtherCount)) list
    unfolding values_answer starting_values_into
    values_other h =
        let other : length list ≡ length (starting_values (library_of text ws)) → ⊥ = λ q. h (q ∙ sym count_is) in
        record {
          says = rw (e, ne_eqb (length list) (length (starting_values (library_of text ws))) other);
          values = rw (e, ne_eqb (length list) (length (starting_values (library_of text ws))) other);
          kept = refl;
        }

    pub values_done : length list ≡ value_count ws → (after : List ℕ) → after ≡ over (starting_from text ws) list → Starts text list (Ok tt) after
    unfolding values_answer starting_values_into
    values_done h after w =
        let same : length list ≡ length (starting_values (library_of text ws)) = h ∙ count_is in
        record {
          says = rw (e, eq-eqb (length list) (length (starting_values (library_of text ws))) same);
          values = rw (e, eq-eqb (length list) (length (starting_values (library_of text ws))) same)
              (w ∙ ap (λ (l : List ℕ). over l list) starting_is ∙ over_whole (starting_values (library_of text ws)) list (sym same));
          kept = tt;
        }

-- ---- what `tables` prints

module _ (text : List ℕ) {buffer : List ℕ} {r : Result ℕ Error} {after : List ℕ} where
  printed_fits : (run : List ℕ) → run ≡ printed text → Fits run buffer r after → Prints text buffer r after
  unfolding print_answer printed_into
  printed_fits run e h = record {
    says = h.says ∙ ap (λ (l : List ℕ). fitted l (length buffer)) e;
    bytes = h.bytes ∙ ap (λ (l : List ℕ). into l buffer) e;
    kept = h.kept;
  }

  -- A refused text prints its refusal ..
  pub refusal_printed_law : (number line : ℕ) → read text ≡ refused number line → Fits (refusal_printed number line) buffer r after → Prints text buffer r after
  unfolding printed
  refusal_printed_law number line e = printed_fits (refusal_printed number line) (rw e)

  -- .. an accepted one its lines.
  pub tables_printed : (ws ws' : List ℕ) → length ws ≡ table_words → Filled text ws ws' → read text ≡ accepted (library_of text ws) → Fits (tables_from text ws') buffer r after
      → Prints text buffer r after
  unfolding printed
  tables_printed ws ws' size f e =
      printed_fits (tables_from text ws') (tables_law text ws' (library_of text ws) f.library (filled_masks text ws ws' f size) ∙ sym (ap printed_for e))

-- ---- from a verdict to the reading

module _ {text ws : List ℕ} {r : Verdict} (h : ReadInto text r ws) where
  pub refused_by : (e : Refused) → r ≡ Err e → read text ≡ refused (fault_number e.fault) e.line
  refused_by e q = subst (λ (v : Verdict). Tells v (library_of text ws) (read text)) q h.tells

  pub accepted_by : {x : Unit {0}} → r ≡ Ok x → read text ≡ accepted (library_of text ws)
  accepted_by q = subst (λ (v : Verdict). Tells v (library_of text ws) (read text)) q h.tells

-- What a `?` after the reading answers of a refused text.
pub refused_text : {T : Type 0} {r : Result T Error} {e : Refused} (P : Result T Error → Type 0) → IsErrAnd r (λ x. x ≡ Text e) → P (Err (Text e)) → P r
refused_text {r = r} P h p = let q = err_from_is_err_and r h in subst P (sym (q.1 ∙ ap Err q.2)) p
