-- What a function that answers a call line promises: the reply's line written, and what the call left.
use Rattle.std.specs.Prelude.{ℕ, ◌≡◌, List, Result}
use Rattle.std.proofs.Common.{sym, subst}
use Rattle.std.proofs.Math.Option.{Option, none, some}
use Rattle.model.specs.Base.{bytes}
use Rattle.model.specs.Service as Model
use Rattle.model.specs.Rehearsal.{Reply, CallLine, call_for, answer_printed}
use Rattle.machine_words.specs.Calls.{Lent, After, called}
use Rattle.machine_words.specs.declared.Outcome.{Outcome}
use Rattle.refusals.specs.declared.Refusal.{Refusal}
use Rattle.machine_words.specs.Said.{told}
use Rattle.machine_checks.specs.Told.{Leaves}
use Rattle.output.specs.Append.{Appended}
use Rattle.call_lines.specs.Lent.{lent_library, replied, lent_reply}

-- The line of an outcome.
abbrev pub outcome_printed : Result Outcome Refusal → List ℕ
outcome_printed r = answer_printed (told r)

-- The reply's line is written from `at` to `end`, and the machine after it is what is lent.
pub record Says (x : Reply Lent) (out : List ℕ) (at end : ℕ) (y : Lent) (out' : List ℕ) : Type 0 where
  pub written : Appended x.printed out at end out'
  pub left : x.machine ≡ y

-- A call made, and the line of its outcome written.
pub says_called : {after : After} {r : Result Outcome Refusal} {y : Lent} {out out' : List ℕ} {at end : ℕ}
    → Leaves after r y → Appended (outcome_printed r) out at end out' → Says (replied after) out at end y out'
says_called {out = out} {out' = out'} {at = at} {end = end} h a =
    record { written = subst (λ (b : Model.Answer). Appended (answer_printed b) out at end out') h.says a; left = sym h.left }

module _ (x : Lent) {out out' : List ℕ} {at end : ℕ} (o : Option CallLine) where
  -- A line of another form is 51, and nothing else is done.
  pub says_none : o ≡ none → Appended (bytes "51\n") out at end out' → Says (lent_reply x o) out at end x out'
  says_none e a = record { written = rw e a; left = rw e }

  pub says_some : (c : CallLine) → o ≡ some c → {y : Lent}
      → Says (replied (called x (call_for (lent_library x.text x.words) c))) out at end y out' → Says (lent_reply x o) out at end y out'
  says_some c e h = rw e h

  pub says_as : {q : Option CallLine} → o ≡ q → {y : Lent} → Says (lent_reply x q) out at end y out' → Says (lent_reply x o) out at end y out'
  says_as e h = rw e h
