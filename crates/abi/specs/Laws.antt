-- From what the entries ensure to what the C functions return; and that no refusal is returned as 0.
use Rattle.std.specs.Prelude.{Ok, Err, ℕ, zero, suc, ◌+◌, ◌≡◌, refl, Bool, true, false, cond, List, [], ◌∷◌, length, ltb}
use Rattle.std.proofs.Common.{sym, ap, subst, ◌∙◌}
use Rattle.std.proofs.Math.Option.{Option, none, some}
use Rattle.model.specs.Text.{lines_and_rest}
use Rattle.model.specs.Form.{Line, lines_from, rest_of, at_start, first_misplaced}
use Rattle.model.specs.Library.{Library, nothing, add}
use Rattle.model.specs.Fault.{fault_of}
use Rattle.model.specs.Read.{Reading, accepted, refused, unless, judged, or_judged, read_pieces, read}
use Rattle.model.specs.Told.{Told, done, refusal, number_of, detail_of, or_fault, check_answer}
use Rattle.reader.specs.Verdicts as Verdicts
use Rattle.refusals.specs.Numbers.{fault_number}
use Rattle.reader.specs.Verdicts.{Verdict}
use Rattle.reader.specs.declared.Refused.{Refused}
use Rattle.cishmolaq.specs.Answers.{Kept}
use Rattle.abi.specs.Numbers.{Tells, Writes}

-- ---- numbers and details

pub tells_as : {t u : Told} {r detail : ℕ} → Tells t r detail → t ≡ u → Tells u r detail
tells_as {r = r} {detail = detail} h e = subst (λ (t : Told). Tells t r detail) e h

-- An entry's answer as it is returned, with what it left.
pub writes_as : {t u : Told} {before result after : List ℕ} {r detail : ℕ} → Tells t r detail → t ≡ u → after ≡ result → Kept t before after
    → Writes u before result r detail after
writes_as {before = before} {after = after} h e holds kept = record { tells = tells_as h e; holds = holds; kept = subst (λ (t : Told). Kept t before after) e kept }

abbrev told_of : Option (ℕ × ℕ) → Told
told_of none = done 0
told_of (some (number, line)) = refusal number line

check_told : {text : List ℕ} {r : Verdict} → Verdicts.Checks text r → told_of (Verdicts.refusal r) ≡ check_answer text
unfolding check_answer
check_told {text} h = ap told_of h.refuses ∙ same (read text)
  where
    same : (x : Reading) → told_of (Verdicts.refusal_in x) ≡ or_fault x (λ l. done 0)
    same (accepted l) = refl
    same (refused number line) = refl

module _ {text : List ℕ} {verdict : Verdict} (h : Verdicts.Checks text verdict) {r detail : ℕ} where
  tells_verdict : (t : Told) → t ≡ told_of (Verdicts.refusal verdict) → r ≡ number_of t → detail ≡ detail_of t → Tells (check_answer text) r detail
  tells_verdict t e p q = tells_as (record { number = p; beside = q }) (e ∙ check_told h)

  pub tells_accepted : {x : Unit {0}} → verdict ≡ Ok x → r ≡ 0 → detail ≡ 0 → Tells (check_answer text) r detail
  tells_accepted e = tells_verdict (done 0) (ap (λ (v : Verdict). told_of (Verdicts.refusal v)) (sym e))

  pub tells_refused : (e : Refused) → verdict ≡ Err e → r ≡ fault_number e.fault → detail ≡ e.line → Tells (check_answer text) r detail
  tells_refused e q = tells_verdict (refusal (fault_number e.fault) e.line) (ap (λ (v : Verdict). told_of (Verdicts.refusal v)) (sym q))

-- ---- no refusal is returned as 0

-- Whether a reading is refused with 0.
abbrev pub refused_with0 : Reading → Bool
refused_with0 (accepted l) = false
refused_with0 (refused zero line) = true
refused_with0 (refused (suc number) line) = false

judged_never_0 : (ls : List Line) (l : Library) (n : ℕ) → refused_with0 (judged l n ls) ≡ false
unfolding judged
judged_never_0 [] l n = refl
judged_never_0 (line ∷ below) l n = go (fault_of l below line.form) (judged_never_0 below (add l line line.form) (n + 1))
  where
    go : (fault : ℕ) → refused_with0 (judged (add l line line.form) (n + 1) below) ≡ false
        → refused_with0 (unless fault n (judged (add l line line.form) (n + 1) below)) ≡ false
    go zero h = h
    go (suc fault) h = refl

pub never_0 : (text : List ℕ) → refused_with0 (read text) ≡ false
unfolding read read_pieces
never_0 text = go (ltb 32768 (length text))
  where
    ls : List Line
    ls = lines_from 0 (lines_and_rest text)

    second : (n : ℕ) → refused_with0 (or_judged n ls) ≡ false
    second zero = judged_never_0 ls nothing 1
    second (suc n) = refl

    go : (b : Bool) → refused_with0 (cond b (refused 11 0) (read_pieces (lines_and_rest text))) ≡ false
    go true = refl
    go false = second (first_misplaced 1 at_start ls (rest_of (lines_and_rest text)))
