-- What the C functions of the machine's calls answer: a number, and through a lent place the message's answer or a slot.
use Rattle.std.specs.Prelude.{ℕ, ◌≡◌, cond, eqb}
use Rattle.model.specs.Machine.{Call, Target, object, class, domain}
use Rattle.model.specs.Service.{call_number, call_detail}
use Rattle.machine_words.specs.Calls.{Lent}
use Rattle.machine_words.specs.Said.{CallResult, told}
use Rattle.cishmolaq.specs.Promises.{Does}

-- "one target: an object; a class's own objects; or a class's domain", by a kind and a number. Objects are numbered from 0
-- and there are at most 64, so any other kind names one that never exists: 36 (`CallLaws.another-kind`).
abbrev pub target_of : ℕ → ℕ → Target
target_of kind n = cond (eqb kind 0) (object n) (cond (eqb kind 1) (class n) (cond (eqb kind 2) (domain n) (object 64)))

-- A call on what is lent: an outcome that keeps all that the entry promises, as a number and a detail. No refusal is returned as 0, 1,
-- 2, 40 or 41 (`CallLaws.refused-apart`).
pub record Called (x : Lent) (c : Call) (r detail : ℕ) (y : Lent) : Type 0 where
  pub outcome : CallResult
  pub does : Does x c outcome y
  pub number : r ≡ call_number (told outcome)
  pub beside : detail ≡ call_detail (told outcome)
