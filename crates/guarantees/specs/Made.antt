-- Calls made one after another: they are the definition's list of calls.
use Rattle.std.specs.Prelude.{Ok, Err, ◌≡◌, refl, List, [], ◌∷◌, map, length}
use Rattle.std.proofs.Common.{sym, ap, ap₂, ◌∙◌}
use Rattle.model.specs.Vector.{Program}
use Rattle.model.specs.Message.{base_of}
use Rattle.model.specs.Service.{Answer, done, going, answer, refuse, held, stopped, World}
use Rattle.model.specs.Machine.{Call, service}
use Rattle.machine_words.specs.Calls.{Lent, tables_of, called}
use Rattle.machine_refinement.specs.Rep.{Rep}
use Rattle.machine_refinement.specs.Tables.{object_total}
use Rattle.machine_words.specs.Rows.{fit_is}
use Rattle.guarantees.specs.Course.{AfterAll, called_all}
use Rattle.refusals.specs.Numbers.{refusal_of, refusal_back}
use Rattle.machine_words.specs.declared.Outcome.TheVariants as Say
use Rattle.machine_words.specs.Said.{CallResult, told}
use Rattle.cishmolaq.specs.Promises.{Does}

-- Calls made one after another, each on what the one before left, with their answers.
pub data Made : Lent → List Call → List CallResult → Lent → Type 0 where
  none : {x : Lent} → Made x [] [] x
  then : {x x₁ x₂ : Lent} {c : Call} {r : CallResult} {cs : List Call} {rs : List CallResult} → Does x c r x₁ → Made x₁ cs rs x₂ → Made x (c ∷ cs) (r ∷ rs) x₂

-- They are the definition's list of calls.
pub made_is : {x y : Lent} {cs : List Call} {rs : List CallResult} → Made x cs rs y
    → (map told rs ≡ (called_all x cs).answers) × (y ≡ (called_all x cs).lent)
unfolding called_all
made_is none = (refl, refl)
made_is {x} (then {x₁ = x₁} {c = c} {cs = cs} d m) =
    let e : called_all x₁ cs ≡ called_all (called x c).lent cs = ap (λ (l : Lent). called_all l cs) d.any.left in
    let h = made_is m in (
      ap₂ (λ (a : Answer) (l : List Answer). a ∷ l) d.any.says (h.0 ∙ ap (λ (y : AfterAll). y.answers) e),
      h.1 ∙ ap (λ (y : AfterAll). y.lent) e,
    )

-- ---- answers and counts

untold : Answer → CallResult
untold done = Ok Say.Done
untold going = Ok Say.Going
untold (answer v) = Ok (Say.Answer v)
untold (refuse n) = Err (refusal_of n)
untold (held t) = Ok (Say.Held t)
untold stopped = Ok Say.Stopped

told_back : (r : CallResult) → untold (told r) ≡ r
unfolding untold
told_back (Ok Say.Done) = refl
told_back (Ok Say.Going) = refl
told_back (Ok (Say.Answer v)) = refl
told_back (Ok (Say.Held t)) = refl
told_back (Ok Say.Stopped) = refl
told_back (Err r) = ap Err (refusal_back r)

all_back : (rs : List CallResult) → map untold (map told rs) ≡ rs
all_back [] = refl
all_back (r ∷ rs) = ap₂ (λ (x : CallResult) (xs : List CallResult). x ∷ xs) (told_back r) (all_back rs)

-- Answers with the same meaning are equal.
pub told_same : (rs rs' : List CallResult) → map told rs ≡ map told rs' → rs ≡ rs'
told_same rs rs' e = sym (all_back rs) ∙ ap (map untold) e ∙ all_back rs'

-- Words that represent a world have a value for each field.
pub rep_count : (x : Lent) (p : Program) (w : World (service p)) → Rep x p w → length x.values ≡ base_of p (length p.library.objects)
rep_count x p w rep =
    (fit_is x rep.fit).count ∙ rep.fits.total ∙ ap (base_of p) (sym (object_total x.text (tables_of x.words) p rep.fits))
