-- What each of the four calls promises, whatever is lent, and where the lent words represent a world of the machine.
use Rattle.std.specs.Prelude.{ℕ, ◌≤◌, ◌≡◌, drop}
use Rattle.std.proofs.Common.{sym, ap, subst, ◌∙◌}
use Rattle.layout.specs.Layout.{state_words}
use Rattle.model.specs.Vector.{Program}
use Rattle.model.specs.Service.{World, Answer, refuse}
use Rattle.model.specs.Machine.{Call, call, service}
use Rattle.machine_words.specs.Calls.{Lent, slot_in, called}
use Rattle.machine_refinement.specs.Rep.{Rep}
use Rattle.machine_refinement.specs.Refines.{refines}
use Rattle.machine_refinement.specs.Refusals.{never_unfit}
use Rattle.machine_words.specs.Said.{CallResult, told}
use Rattle.machine_checks.specs.Told.{Leaves}
use Rattle.cishmolaq.specs.Keeps.{Kept, Holder, Numbered, Keeps, every_call}

-- A call on what is lent, with its answer and what it left of it.
pub record Does (x : Lent) (c : Call) (r : CallResult) (y : Lent) : Type 0 where
  -- Demand 1: "a call gives 24 or follows the rules below on what it finds", whatever is lent, as the definition says.
  pub any : Leaves (called x c) r y
  -- With every number but 40 and 41 what is lent is unchanged; 40 leaves the slot waiting, the last in line, and nothing else altered.
  pub kept : Kept (slot_in c) (told r) x y
  -- What lies past the machine's words is unchanged.
  pub past : drop state_words y.words ≡ drop state_words x.words
  -- 40 names another slot, which is open in the lent words.
  pub holder : Holder x.words (slot_in c) (told r)
  -- The answer is one that the call can give.
  pub number : Numbered c (told r)
  -- Demand 2: on what start and the calls left, the words represent a world of the machine, and the answer is the model's ..
  pub says : (p : Program) (w : World (service p)) → Rep x p w → told r ≡ (call p w c).0
  -- .. what is left represents the world after the call ..
  pub next : (p : Program) (w : World (service p)) → Rep x p w → Rep y p (call p w c).1
  -- .. and 21 and 24 are never given: "only where a call is lent something other than start and the machine's calls left".
  pub fits : (p : Program) (w : World (service p)) → Rep x p w → (n : ℕ) → told r ≡ refuse n → 31 ≤ n

-- What meets the definition keeps all of these promises.
pub promised : (x : Lent) (c : Call) (r : CallResult) (y : Lent) → Leaves (called x c) r y → Does x c r y
promised x c r y h = record {
  any = h;
  kept =
      subst (Kept (slot_in c) (told r) x) (sym h.left)
      (subst (λ (a : Answer). Kept (slot_in c) a x (called x c).lent) (sym h.says) all.kept);
  past = ap (λ (l : Lent). drop state_words l.words) h.left ∙ all.past;
  holder = subst (Holder x.words (slot_in c)) (sym h.says) all.holder;
  number = subst (Numbered c) (sym h.says) all.number;
  says = λ p w rep. h.says ∙ (refines x p w rep c).0;
  next = λ p w rep. subst (λ (l : Lent). Rep l p (call p w c).1) (sym h.left) (refines x p w rep c).1;
  fits = λ p w rep n e. never_unfit x p w rep c n (sym h.says ∙ e);
}
  where
    all : Keeps x c (called x c)
    all = every_call x c
