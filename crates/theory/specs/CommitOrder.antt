-- Demand 3, for any text: the machine against the plain course, over whole lists of calls; and what holds at every moment of a
-- list. Nothing is assumed of the text, not even that it was accepted, and nothing of the calls.
use Rattle.std.specs.Prelude.{ℕ, ◌<◌, ◌≡◌, refl, List, [], ◌∷◌}
use Rattle.std.proofs.Common.{ap}
use Rattle.std.proofs.Math.Path.{subst}
use Rattle.model.specs.Read.{library}
use Rattle.model.specs.Vector.{Program, program}
use Rattle.model.specs.Service.{Service, Answer, World, closed, opened, Transaction, fresh, call, run_calls, Course, start_course, fed, fed_all, compared_in}
use Rattle.model.specs.Service as Calls
use Rattle.model.specs.Machine.{Call, service, played_by}
use Rattle.model.specs.Course.{course}
use Rattle.laws.specs.Basics.{All}
use Rattle.twophase.specs.Claims.{Right, both, put_back_all, Serial, Moment}
use Rattle.twophase.specs.Theorem as Theory
use Rattle.vector_theory.specs.VectorLaws.{Compiled, program_compiled}
use Rattle.theory.specs.ServiceLaws.{laws}

-- Machine and course run side by side are the machine's list of calls, and the course fed its answers.
pub both_is : (𝓢 : Service) (w : World 𝓢) (x : Course 𝓢) (cs : List (Calls.Call 𝓢.Request))
    → both 𝓢 w x cs ≡ ((run_calls 𝓢 w cs).1, fed_all 𝓢 x cs (run_calls 𝓢 w cs).0)
unfolding run_calls fed_all
both_is 𝓢 w x [] = refl
both_is 𝓢 w x (c ∷ cs) = let y = call 𝓢 w c in both_is 𝓢 y.1 (fed 𝓢 x c y.0) cs

module _ (p : Program) (values : List ℕ) (cs : List Call) where
  -- The answers of the list and the world after it, and the course fed them.
  abbrev pub answers : List Answer
  answers = (run_calls (service p) (fresh (service p) values) cs).0

  abbrev pub left : World (service p)
  left = (run_calls (service p) (fresh (service p) values) cs).1

  abbrev pub plain : Course (service p)
  plain = fed_all (service p) (start_course (service p) values) cs answers

  -- "Any list .. that leaves nothing open"
  abbrev pub NothingOpen : Type 0
  NothingOpen = (s : ℕ) → s < 8 → left.slots s ≡ closed

  -- Demand 3 for such a list: it "ends with the fields, and gave committed transactions the answers, of the plain course"; "and
  -- from then on the machine behaves as after a new start on those fields".
  pub record SameAsPlainCourse : Type 0 where
    pub same_fields : left.fields ≡ plain.fields
    pub same_answers : All Right plain.compared
    pub as_new : (more : List Call) → run_calls (service p) left more ≡ run_calls (service p) (fresh (service p) plain.fields) more

  -- The claims of twophase/Claims, for this machine.
  serial : Compiled p → NothingOpen → Serial (service p) left plain
  unfolding laws
  serial compiled nothing_open =
      let e = both_is (service p) (fresh (service p) values) (start_course (service p) values) cs in
      subst (λ y. ((s : ℕ) → s < 8 → y.0.slots s ≡ closed) → Serial (service p) y.0 y.1) e
      (Theory.commit_order (service p) (laws p compiled) values tt cs) nothing_open

  moment : Compiled p → Moment (service p) left plain
  unfolding laws
  moment compiled =
      let e = both_is (service p) (fresh (service p) values) (start_course (service p) values) cs in
      subst (λ y. Moment (service p) y.0 y.1) e (Theory.at_each_moment (service p) (laws p compiled) values tt cs)

  -- Demand 3, under any rule of resolution whose vectors are compiled.
  pub commit_order_by : Compiled p → NothingOpen → SameAsPlainCourse
  commit_order_by compiled nothing_open =
      let s = serial compiled nothing_open in
      record {
        same_fields = s.same_fields;
        same_answers = s.same_answers;
        as_new = λ more. ap (λ (w : World (service p)). run_calls (service p) w more) s.as_new;
      }

  -- What holds after any list of calls, whatever it leaves open (02, Ticket 4): undoing every open transaction gives the course's
  -- fields; the answers so far of an open transaction are those that it would get alone on them; and those of a committed one are
  -- those that it got alone at its commit.
  pub record AtThisMoment : Type 0 where
    pub undone : put_back_all (service p) 8 left.slots left.fields ≡ plain.fields
    pub got_alone : (s : ℕ) (t : Transaction (service p)) → left.slots s ≡ opened t
        → All Right (compared_in (service p) (plain.slots s).list plain.fields)
    pub committed_alone : All Right plain.compared

  pub at_every_moment_by : Compiled p → AtThisMoment
  at_every_moment_by compiled =
      let m = moment compiled in
      record { undone = m.undone_fields; got_alone = m.open_answers; committed_alone = m.committed_answers }

-- Demand 3, for any text and any values: "This is a single claim about the whole list, not one for each call."
pub commit_order : (text values : List ℕ) (cs : List Call) → let p = program (library text) in
    NothingOpen p values cs → SameAsPlainCourse p values cs
commit_order text values cs = commit_order_by (program (library text)) values cs (program_compiled (library text))

-- The plain course of the theorem is the model's.
pub plain_is : (text values : List ℕ) (cs : List Call) → let p = program (library text) in
    plain p values cs ≡ course text values cs (answers p values cs)
unfolding course
plain_is text values cs = refl

-- The answers and the fields are those of the model's `played_by`.
pub played_is : (text values : List ℕ) (cs : List Call) → let p = program (library text) in
    played_by p values cs ≡ (answers p values cs, (left p values cs).fields)
unfolding played_by
played_is text values cs = refl

pub at_every_moment : (text values : List ℕ) (cs : List Call) → AtThisMoment (program (library text)) values cs
at_every_moment text values cs = at_every_moment_by (program (library text)) values cs (program_compiled (library text))
