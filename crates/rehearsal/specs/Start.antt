-- What the start of a rehearsal promises, from what the reader and the entries ensure.
use Rattle.std.specs.Prelude.{Ok, Err, ℕ, ◌≤◌, ◌≡◌, refl, List, ◌++◌, length, take, drop}
use Rattle.std.proofs.Common.{arith, sym, ap, subst, ◌∙◌, length-append, length-take-le, take_at, drop_at, le-ltb, eq-eqb}
use Rattle.layout.specs.Layout.{state_words, values_most}
use Rattle.model.specs.Read.{Reading, accepted, refused, read, library_in, library}
use Rattle.model.specs.Told.{Told, done}
use Rattle.model.specs.Vector.{program}
use Rattle.model.specs.Image.{starting_values, starting_values_into}
use Rattle.model.specs.Tables.{refusal_printed}
use Rattle.model.specs.Machine.{start_answer}
use Rattle.catalog.specs.View.{object_count, library_of}
use Rattle.image.specs.Sizes.{value_count, values_le}
use Rattle.output.specs.Append.{Printed}
use Rattle.machine_words.specs.Calls.{Lent, lending}
use Rattle.machine_refinement.specs.Rep.{Fresh}
use Rattle.cishmolaq.specs.Answers.{Done, Starts, StartLeaves, Begins}
use Rattle.cishmolaq.specs.Laws.{count_is}
use Rattle.rehearsal.specs.declared.NotReady.{NotReady}
use Rattle.rehearsal.specs.Ready.{StartsOn, with_first, Readied, PreparesOn, Prepares}

-- The entries are done where the list has as many values as the text, and the state is long enough.
pub starts_on : (text list ws : List ℕ) → state_words ≤ length ws → {a b : Done} {values state : List ℕ}
    → Starts text list a values → Begins (lending text ws values) b (lending text state values) → StartsOn (lending text ws list) (lending text state values)
unfolding starting_values_into start_answer library
starts_on text list ws long {a} {b} {values} {state} h k l e n =
    let all : values ≡ starting_values l = h.values ∙ rw (e, eq-eqb (length list) (length (starting_values l)) n) in
    let count : length values ≡ length (starting_values l) = ap length all in
    let well : start_answer state_words text (length values) (length ws) ≡ done 0 = rw (e, le-ltb (length ws) state_words long, eq-eqb (length values) (length (starting_values l)) count) in
    let y : Lent = lending text state values in
    let leaves : StartLeaves (lending text ws values) (done 0) y = subst (λ (t : Told). StartLeaves (lending text ws values) t y) (k.says ∙ well) k.leaves in
    record { starting = all; fresh = subst (λ (r : Reading). Fresh y (program (library_in r))) e leaves.0; past = leaves.1 }

-- A text has at most 2,048 values.
pub values_few : (tables : List ℕ) {count : ℕ} → count ≡ value_count tables → count ≤ values_most
values_few tables e = omega (arith, values_le tables (object_count tables))

module _ (x : Lent) {out : List ℕ} where
  pub prepares_refused : (fault line : ℕ) → read x.text ≡ refused fault line → {out' : List ℕ} {n : NotReady}
      → Printed (refusal_printed fault line) out n.size out' → Prepares x out (Err n) x out'
  prepares_refused fault line e {out'} {n} h =
      record { by_reading = subst (λ (r : Reading). PreparesOn x out r (Err n) x out') (sym e) (h, refl) }

  -- The values started on are the first of those lent.
  pub prepares_ready : (tables : List ℕ) → read x.text ≡ accepted (library_of x.text tables) → values_most ≤ length x.values → {count : ℕ} → count ≡ value_count tables
      → {values state : List ℕ} → StartsOn (with_first count x) (lending x.text state values)
      → Prepares x out (Ok count) (lending x.text state (values ++ drop count x.values)) out
  prepares_ready tables e long {count} c {values} {state} h =
      let l = library_of x.text tables in
      let rest = drop count x.values in
      let y : Lent = lending x.text state (values ++ rest) in
      let size : length (take count x.values) ≡ count = length-take-le count x.values (omega (arith, values_few tables c)) in
      let same : count ≡ length (starting_values l) = c ∙ count_is x.text x.values tables e in
      let s = h l e (size ∙ same) in
      let all : length values ≡ count = ap length s.starting ∙ sym same in
      let first : take count y.values ≡ values = take_at values rest count all in
      let ready : Readied x l count y =
      record {
        within = omega (arith, length-append values rest);
        started = record {
          starting = first ∙ s.starting;
          fresh = subst (λ (v : List ℕ). Fresh (lending x.text state v) (program l)) (sym first) s.fresh;
          past = s.past;
        };
        rest = drop_at values rest count all;
      } in
      record { by_reading = subst (λ (r : Reading). PreparesOn x out r (Ok count) y out) (sym e) (ready, refl) }
