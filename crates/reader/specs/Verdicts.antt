-- What a verdict means for a text, and for the tables that it was read into.
use Rattle.std.specs.Prelude.{ℕ, zero, suc, ◌≤◌, ◌<◌, refl, ◌≢◌, List, length, Result, Ok, Err, IsOk}
use Rattle.std.proofs.lemmas.Bool.{false≢true}
use Rattle.std.proofs.Math.Path.{◌≡◌, sym}
use Rattle.std.proofs.Common.{ap, subst, ◌∙◌, lt-ltb, le-ltb}
use Rattle.std.proofs.Math.Option.{Option, none, some}
use Rattle.model.specs.Text.{lines_and_rest}
use Rattle.model.specs.Form.{lines_from, rest_of, at_start, first_misplaced}
use Rattle.model.specs.Library.{Library, nothing}
use Rattle.model.specs.Read.{Reading, accepted, refused, judged, or_judged, read_pieces, read, fault_and_line, verdict, library_in, library}
use Rattle.catalog.specs.View.{class_count, statement_count, object_count, library_of}
use Rattle.catalog.specs.Look.{class_count_law, statement_count_law, object_count_law}
use Rattle.refusals.specs.Numbers.{fault_number}
use Rattle.refusals.specs.declared.Fault.TheVariants.{TooLong, Misplaced}
use Rattle.reader.specs.declared.Refused.{Refused}

-- What the reader answers.
abbrev pub Verdict : Type 0
Verdict = Result (Unit {0}) Refused

abbrev pub said : Verdict → ℕ × ℕ
said (Ok x) = (0, 0)
said (Err r) = (fault_number r.fault, r.line)

-- What a verdict, and what a reading, refuses: nothing, or a number with its line.
abbrev pub refusal : Verdict → Option (ℕ × ℕ)
refusal (Ok x) = none
refusal (Err r) = some (fault_number r.fault, r.line)

abbrev pub refusal_in : Reading → Option (ℕ × ℕ)
refusal_in (accepted l) = none
refusal_in (refused number line) = some (number, line)

-- The verdict on a reading, where the tables represent the library l.
abbrev pub Tells : Verdict → Library → Reading → Type 0
Tells (Ok x) l r = r ≡ accepted l
Tells (Err e) l r = r ≡ refused (fault_number e.fault) e.line

-- The verdict is the text's, and where it is accepted the tables represent its library.
pub record ReadInto (text : List ℕ) (r : Verdict) (ws : List ℕ) : Type 0 where
  pub tells : Tells r (library_of text ws) (read text)
  pub number : said r ≡ verdict text
  pub known : IsOk r → library_of text ws ≡ library text

-- The verdict is the text's, and a refusal is never taken for an acceptance.
pub record Checks (text : List ℕ) (r : Verdict) : Type 0 where
  pub refuses : refusal r ≡ refusal_in (read text)
  pub number : said r ≡ verdict text

tells_refusal : (r : Verdict) (l : Library) (x : Reading) → Tells r l x → refusal r ≡ refusal_in x
tells_refusal (Ok y) l x e = sym (ap refusal_in e)
tells_refusal (Err y) l x e = sym (ap refusal_in e)

pub checks : {text : List ℕ} {r : Verdict} {ws : List ℕ} → ReadInto text r ws → Checks text r
checks {text} {r} {ws} h = record { refuses = tells_refusal r (library_of text ws) (read text) h.tells; number = h.number }

-- The counts in the tables of an accepted text are those of its library.
module _ {text : List ℕ} {r : Verdict} {ws : List ℕ} (h : ReadInto text r ws) (e : IsOk r) where
  pub classes_read : class_count ws ≡ length (library text).classes
  classes_read = sym (class_count_law text ws) ∙ ap (λ (l : Library). length l.classes) (h.known e)

  pub statements_read : statement_count ws ≡ length (library text).statements
  statements_read = sym (statement_count_law text ws) ∙ ap (λ (l : Library). length l.statements) (h.known e)

  pub objects_read : object_count ws ≡ length (library text).objects
  objects_read = sym (object_count_law text ws) ∙ ap (λ (l : Library). length l.objects) (h.known e)

-- ---- a reading's verdict

module _ (text ws : List ℕ) where
  pub told : (r : Verdict) → Tells r (library_of text ws) (read text) → ReadInto text r ws
  unfolding verdict library
  told (Ok x) e = record { tells = e; number = sym (ap fault_and_line e); known = λ q. sym (ap library_in e) }
  told (Err x) e = record { tells = e; number = sym (ap fault_and_line e); known = λ q. absurd (false≢true q) }

  -- 11, 12, and the verdict of the second pass.
  pub too_long : 32768 < length text → ReadInto text (Err (record { fault = TooLong; line = 0 })) ws
  unfolding read
  too_long h = told (Err (record { fault = TooLong; line = 0 })) (rw (lt-ltb 32768 (length text) h))

  module _ (h : length text ≤ 32768) (line : ℕ) (e : line ≡ first_misplaced 1 at_start (lines_from 0 (lines_and_rest text)) (rest_of (lines_and_rest text))) where
    passed : read text ≡ or_judged line (lines_from 0 (lines_and_rest text))
    unfolding read read_pieces
    passed = rw (le-ltb 32768 (length text) h) (ap (λ (n : ℕ). or_judged n (lines_from 0 (lines_and_rest text))) (sym e))

    pub misplaced : line ≢ 0 → ReadInto text (Err (record { fault = Misplaced; line = line })) ws
    misplaced d = told (Err (record { fault = Misplaced; line = line })) (passed ∙ first line d)
      where
        first : (n : ℕ) → n ≢ 0 → or_judged n (lines_from 0 (lines_and_rest text)) ≡ refused 12 n
        first zero d = absurd (d refl)
        first (suc n) d = refl

    pub second_pass : line ≡ 0 → (r : Verdict) → Tells r (library_of text ws) (judged nothing 1 (lines_from 0 (lines_and_rest text))) → ReadInto text r ws
    second_pass z r t = told r (subst (Tells r (library_of text ws)) (sym (passed ∙ ap (λ (n : ℕ). or_judged n (lines_from 0 (lines_and_rest text))) z)) t)
