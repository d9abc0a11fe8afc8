-- How much room is enough for what a rehearsal writes at its start and at its end.
use Rattle.std.specs.Prelude.{Ok, Err, ℕ, zero, suc, ◌*◌, ◌≤◌, ◌≡◌, List, [], ◌∷◌, ◌++◌, length, drop}
use Rattle.std.proofs.Common.{add-one, arith, ap, subst, length-append}
use Rattle.std.proofs.Math.Path.{refl}
use Rattle.model.specs.Base.{bytes, upto}
use Rattle.model.specs.Read.{Reading, accepted, refused, read}
use Rattle.model.specs.Tables.{digits, refusal_printed}
use Rattle.model.specs.Rehearsal.{unended, objects_printed}
use Rattle.catalog.specs.View.{object_count, library_of}
use Rattle.machine_words.specs.Calls.{Lent, tables_of}
use Rattle.output.specs.Digits.{digits_le}
use Rattle.call_lines.specs.Lent.{lent_last, on_lent}
use Rattle.call_lines.specs.Objects.{object_printed, object_few, lines_to, values_to, lines_next}
use Rattle.rehearsal.specs.Parts.{ended}
use Rattle.rehearsal.specs.declared.NotReady.{NotReady}
use Rattle.rehearsal.specs.Ready.{refusal_most, Prepared, PreparesOn, Prepares}
use Rattle.rehearsal.specs.Feeds.{end_most}

-- The line of a refused text: two numbers of at most ten digits.
pub refusal_few : (fault line : ℕ) → length (refusal_printed fault line) ≤ refusal_most
unfolding refusal_printed
refusal_few fault line =
    let a = digits 10 fault in
    let b = digits 10 line in
    omega (
      arith,
      digits_le 10 fault,
      digits_le 10 line,
      length-append (bytes "refused " ++ a ++ bytes " " ++ b) (bytes "\n"),
      length-append (bytes "refused " ++ a ++ bytes " ") b,
      length-append (bytes "refused " ++ a) (bytes " "),
      length-append (bytes "refused ") a,
    )

-- What `prepare` answers: the size of that line, or a number of values that are there.
module _ {x y : Lent} {out out' : List ℕ} {r : Prepared} (p : Prepares x out r y out') where
  pub refused_size : (n : NotReady) → r ≡ Err n → n.size ≤ refusal_most
  refused_size n e = go (read x.text) (subst (λ (q : Prepared). PreparesOn x out (read x.text) q y out') e p.by_reading)
    where
      go : (t : Reading) → PreparesOn x out t (Err n) y out' → n.size ≤ refusal_most
      go (refused fault line) h = omega (arith, h.0.count, refusal_few fault line)
      go (accepted l) h = absurd h

  pub ready_count : (count : ℕ) → r ≡ Ok count → count ≤ length y.values
  ready_count count e = go (read x.text) (subst (λ (q : Prepared). PreparesOn x out (read x.text) q y out') e p.by_reading)
    where
      go : (t : Reading) → PreparesOn x out t (Ok count) y out' → count ≤ length y.values
      go (refused fault line) h = absurd h
      go (accepted l) h = h.0.within

-- ---- the end

module _ (text ws values : List ℕ) where
  lines_none : length (lines_to text ws values 0) ≡ 0
  unfolding lines_to upto objects_printed
  lines_none = refl

  lines_few : (n : ℕ) → length (lines_to text ws values n) ≤ 384 * n
  lines_few zero = omega (arith, lines_none)
  lines_few (suc n) =
      let rest = drop (values_to text ws n) values in
      omega (
        arith,
        ap (λ (k : ℕ). length (lines_to text ws values k)) (add-one n),
        ap length (lines_next text ws values n),
        length-append (lines_to text ws values n) (object_printed text ws n rest),
        object_few text ws n rest,
        lines_few n,
      )

-- A line for each of at most 64 objects.
last_few : (x : Lent) → length (lent_last x) ≤ 24576
unfolding lines_to library_of
last_few x = let ws = tables_of x.words in omega (arith, lines_few x.text ws x.values (object_count ws))

pub unended_few : (line : List ℕ) → length (unended line) ≤ 3
unended_few [] = omega arith
unended_few (b ∷ line) = omega arith

-- The last lines, after 51 for an unfinished line.
pub ended_few : (x : Lent) (line : List ℕ) → length (ended on_lent x line) ≤ end_most
unfolding on_lent
ended_few x line = omega (arith, length-append (unended line) (lent_last x), unended_few line, last_few x)
