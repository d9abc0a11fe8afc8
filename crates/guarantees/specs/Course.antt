-- Demand 3 over the words: a list of calls after a fresh start that leaves no slot open ends with the values, and gave the
-- answers, of the plain course; and from then on what is lent behaves as any fresh start on these values.
use Rattle.std.specs.Prelude.{ℕ, ◌<◌, ◌≡◌, refl, List, [], ◌∷◌}
use Rattle.std.proofs.Common.{sym, ap, ap₂, subst, ◌∙◌}
use Rattle.model.specs.Vector.{Program}
use Rattle.model.specs.Service.{Answer, World, fresh, run_calls, Course, start_course, fed_all}
use Rattle.model.specs.Machine.{service, Call, call}
use Rattle.laws.specs.Basics.{All}
use Rattle.twophase.specs.Claims.{Right}
use Rattle.vector_theory.specs.VectorLaws.{Compiled}
use Rattle.theory.specs.CommitOrder.{left, SameAsPlainCourse, commit_order_by}
use Rattle.machine_words.specs.Calls.{Lent, row_of, phase_of, called}
use Rattle.machine_refinement.specs.Rep.{Rep, Fresh}
use Rattle.machine_refinement.specs.State.{phase_closed}
use Rattle.machine_refinement.specs.Refines.{refines, fresh_rep}

-- ---- a list of calls

-- What a list of calls answers, and what it leaves of what was lent.
pub record AfterAll : Type 0 where
  pub answers : List Answer
  pub lent : Lent

-- The calls made one after another on what is lent.
unfoldable pub called_all : Lent → List Call → AfterAll
called_all x [] = record { answers = []; lent = x }
called_all x (c ∷ cs) =
    let y = called x c in
    let z = called_all y.lent cs in
    record { answers = y.answered ∷ z.answers; lent = z.lent }

-- A list of calls over what is lent follows the model's list of calls.
pub all_refine : (x : Lent) (p : Program) (w : World (service p)) → Rep x p w → (cs : List Call)
    → let y = called_all x cs in
    (y.answers ≡ (run_calls (service p) w cs).0) × Rep y.lent p (run_calls (service p) w cs).1
unfolding called_all run_calls
all_refine x p w rep [] = (refl, rep)
all_refine x p w rep (c ∷ cs) =
    let one = refines x p w rep c in
    let more = all_refine (called x c).lent p (call p w c).1 one.1 cs in
    (ap₂ (λ (a : Answer) (l : List Answer). a ∷ l) one.0 more.0, more.1)

-- ---- demand 3

-- The plain course, fed the calls with the answers that they got.
abbrev pub course_of : (p : Program) → List ℕ → List Call → List Answer → Course (service p)
course_of p values cs answers = fed_all (service p) (start_course (service p) values) cs answers

-- What demand 3 requires of what a list of calls answered and left, after a fresh start on `values`.
pub record InOrder (p : Program) (values : List ℕ) (cs : List Call) (y : AfterAll) : Type 0 where
  -- "ends with the fields .. of the plain course"
  pub same_fields : y.lent.values ≡ (course_of p values cs y.answers).fields
  -- "and gave committed transactions the answers .. of the plain course"
  pub same_answers : All Right (course_of p values cs y.answers).compared
  -- "and from then on the machine behaves as after a new start on those fields"
  pub as_new : (new : Lent) → Fresh new p → new.values ≡ y.lent.values → (more : List Call)
      → let old = called_all y.lent more in
      let again = called_all new more in
      (old.answers ≡ again.answers) × (old.lent.values ≡ again.lent.values)

-- Demand 3: "This is a single claim about the whole list, not one for each call."
pub in_order : (x : Lent) (p : Program) → Compiled p → Fresh x p → (cs : List Call)
    → ((t : ℕ) → t < 8 → phase_of (row_of (called_all x cs).lent.words t) ≡ 0) → InOrder p x.values cs (called_all x cs)
in_order x p compiled start cs shut =
    record {
      same_fields = sym rep.fields ∙ plain.same_fields
          ∙ ap (λ (l : List Answer). (fed_all (service p) (start_course (service p) x.values) cs l).fields) (sym all.0);
      same_answers = subst (λ (l : List Answer). All Right (fed_all (service p) (start_course (service p) x.values) cs l).compared) (sym all.0)
          plain.same_answers;
      as_new = after;
    }
  where
    y : AfterAll
    y = called_all x cs

    w : World (service p)
    w = left p x.values cs

    all : (y.answers ≡ (run_calls (service p) (fresh (service p) x.values) cs).0) × Rep y.lent p w
    all = all_refine x p (fresh (service p) x.values) (fresh_rep x p start) cs

    rep : Rep y.lent p w
    rep = all.1

    plain : SameAsPlainCourse p x.values cs
    plain = commit_order_by p x.values cs compiled (λ t h. phase_closed y.lent p w rep t h (shut t h))

    after : (new : Lent) → Fresh new p → new.values ≡ y.lent.values → (more : List Call)
        → let old = called_all y.lent more in
        let again = called_all new more in
        (old.answers ≡ again.answers) × (old.lent.values ≡ again.lent.values)
    after new f e more =
        let a = all_refine y.lent p w rep more in
        let b = all_refine new p (fresh (service p) new.values) (fresh_rep new p f) more in
        let same : run_calls (service p) w more ≡ run_calls (service p) (fresh (service p) new.values) more =
        plain.as_new more ∙ ap (λ (fs : List ℕ). run_calls (service p) (fresh (service p) fs) more) (sym plain.same_fields ∙ rep.fields ∙ sym e) in (
          a.0 ∙ ap (λ r. r.0) same ∙ sym b.0,
          sym a.1.fields ∙ ap (λ r. r.1.fields) same ∙ b.1.fields,
        )
