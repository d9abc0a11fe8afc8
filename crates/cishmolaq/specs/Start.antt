-- From what filling and laying the tables ensure to the answer of `start`, and the state after it.
use Rattle.std.specs.Prelude.{ℕ, ◌≤◌, ◌<◌, ◌≡◌, drop}
use Rattle.std.proofs.Math.Path.{refl, sym, ap, subst}
use Rattle.std.proofs.Common.{◌∙◌}
use mathlib.Core.List.{List}
use Rattle.std.proofs.Math.ListN.{length}
use borrow.Author.Tests.{lt-ltb, le-ltb, eq-eqb, ne_eqb}
use Rattle.layout.specs.Layout.{state_words}
use Rattle.model.specs.Library.{Library}
use Rattle.model.specs.Read.{accepted, refused, read, library_in, library}
use Rattle.model.specs.Image.{starting_values}
use Rattle.model.specs.Vector.{program}
use Rattle.catalog.specs.View.{library_of}
use Rattle.image.specs.Sizes.{value_count}
use Rattle.model.specs.Machine.{start_answer}
use Rattle.machine_words.specs.Calls.{Lent, with_words}
use Rattle.machine_refinement.specs.Rep.{Fresh}
use Rattle.machine_start.specs.Started.{Fill}
use Rattle.machine_start.specs.Installed.{installed, rest_there, fresh_start}
use Rattle.std.specs.Prelude.{Ok, Err}
use Rattle.refusals.specs.Numbers.{fault_number}
use Rattle.refusals.specs.declared.Refusal.TheVariants.{TooShort, OtherCount}
use Rattle.reader.specs.declared.Refused.{Refused}
use Rattle.cishmolaq.specs.declared.Error.TheVariants.{Text, Lent as Unfit}
use Rattle.cishmolaq.specs.Answers.{Begins}
use Rattle.cishmolaq.specs.Laws.{count_is}

module _ (x : Lent) where
  abbrev text : List ℕ
  text = x.text

  -- A refused text: its fault, and nothing altered.
  pub start_refused : (r : Refused) → read text ≡ refused (fault_number r.fault) r.line → Begins x (Err (Text r)) x
  unfolding start_answer
  start_refused r e = record { says = rw e; leaves = refl }

  module _ (tables : List ℕ) (e : read text ≡ accepted (library_of text tables)) where
    library_is : library_of text tables ≡ library text
    unfolding library
    library_is = sym (ap library_in e)

    -- The number of the text's values.
    abbrev many : ℕ
    many = length (starting_values (library_of text tables))

    -- A state that is too short: 21, and nothing altered.
    pub start_short : length x.words < state_words → Begins x (Err (Unfit TooShort)) x
    unfolding start_answer
    start_short h = record { says = rw (e, lt-ltb (length x.words) state_words h); leaves = refl }

    module _ (long : state_words ≤ length x.words) where
      -- A list with another number of values: 22, and nothing altered.
      pub start_other : (length x.values ≡ value_count tables → ⊥) → Begins x (Err (Unfit OtherCount)) x
      unfolding start_answer
      start_other h =
          let other : length x.values ≡ many → ⊥ = λ q. h (q ∙ sym (count_is text x.values tables e)) in
          record { says = rw (e, le-ltb (length x.words) state_words long, ne_eqb (length x.values) many other); leaves = refl }

      -- A fresh start in the state's words, and what lies past them unchanged.
      pub start_done : length x.values ≡ value_count tables → (filled after : List ℕ) → Fill text tables filled
          → after ≡ installed filled (drop state_words x.words) → Begins x (Ok tt) (with_words x after)
      unfolding start_answer
      start_done h filled after f q =
          let same : length x.values ≡ many = h ∙ count_is text x.values tables e in
          let new = fresh_start text tables filled x.values (drop state_words x.words) (f.started e) h in
          record {
            says = rw (e, le-ltb (length x.words) state_words long, eq-eqb (length x.values) many same);
            leaves = (
              subst (λ (l : Library). Fresh (with_words x after) (program l)) library_is
                  (subst (λ (l : List ℕ). Fresh (with_words x l) (program (library_of text tables))) (sym q) new),
              ap (drop state_words) q ∙ rest_there filled (drop state_words x.words) f.size,
              refl,
            );
          }
