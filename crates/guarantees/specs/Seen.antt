-- Ticket 4 over what the entries answered and left: what the tablets saw, at every moment of any list of calls, whatever it leaves
-- open.
use Rattle.std.specs.Prelude.{ℕ, suc, ◌<◌, ◌≡◌, refl, List, [], ◌∷◌, ◌++◌, map, length}
use Rattle.std.proofs.Common.{arith, sym, ap, subst, ◌∙◌}
use Rattle.std.proofs.Math.Option.{Option, none, some}
use Rattle.std.proofs.lemmas.List.{map-append}
use Rattle.model.specs.Read.{library}
use Rattle.model.specs.Vector.{Program}
use Rattle.model.specs.Service.{Answer, done, stopped, World, opened, Transaction, run_calls, start_course, Answered, answer_of, fields_after, compared_in}
use Rattle.model.specs.Machine.{Call, service, step, commit, abort}
use Rattle.model.specs.Course.{Course, course}
use Rattle.model.specs.Alone.{alone}
use Rattle.laws.specs.Basics.{All, In}
use Rattle.twophase.specs.Claims.{Right}
use Rattle.twophase.specs.Compared.{got_by, committed_answers, history, compared_listed}
use Rattle.twophase.specs.Moves.{IsOpen, Ends, moves, ends_open}
use Rattle.twophase.specs.Line.{open_closed}
use Rattle.twophase.specs.Aborts.{line_open, aborts_close, aborts_fields, fed_append}
use Rattle.vector_theory.specs.VectorLaws.{program_compiled}
use Rattle.theory.specs.CommitOrder.{left, plain}
use Rattle.theory.specs.Compared.{open_compared}
use Rattle.machine_words.specs.Calls.{Lent, row_of, phase_of}
use Rattle.machine_refinement.specs.Rep.{Rep, Fresh}
use Rattle.guarantees.specs.Course.{AfterAll, called_all, all_refine}
use Rattle.guarantees.specs.Moment.{notes_back, AtMoment, at_moment}
use Rattle.machine_words.specs.Said.{CallResult, told}
use Rattle.model.specs.Told as Entry
use Rattle.cishmolaq.specs.Answers.{Done, said_done, Begins}
use Rattle.cishmolaq.specs.Promises.{Does}
use Rattle.guarantees.specs.Made as Calls
use Rattle.guarantees.specs.Made.{Made, then, made_is}
use Rattle.guarantees.specs.Open.{OpenIn, NothingOpen, closed_slot, phase_answers, all_closed}
use Rattle.guarantees.specs.PlainCourse.{program_of, start_fresh, made_rep, made_answers, made_compares, demand_3}

-- ---- lists of calls made

-- One list of calls after another.
made_append : {x y z : Lent} {cs ds : List Call} {rs ss : List CallResult} → Made x cs rs y → Made y ds ss z → Made x (cs ++ ds) (rs ++ ss) z
made_append Calls.none n = n
made_append (then d m) n = then d (made_append m n)

-- An answer for each call.
made_count : {x y : Lent} {cs : List Call} {rs : List CallResult} → Made x cs rs y → length (map told rs) ≡ length cs
made_count Calls.none = refl
made_count (then d m) = ap suc (made_count m)

-- ---- Ticket 4

-- The answers that a slot's transaction got "are those it would get running alone" on the course's fields, that is, right after the
-- transactions committed so far: each send of its list, run in order, gives its answer.
abbrev pub GotAlone : (text : List ℕ) → Course (service (program_of text)) → ℕ → Type 0
GotAlone text x s = All Right (compared_in (service (program_of text)) (x.slots s).list x.fields)

-- The same by the runs themselves, the first on these fields and each other on those that the one before left.
abbrev pub RunAlone : (p : Program) → List (Answered (service p)) → List ℕ → Type 0
RunAlone p [] fields = Unit {0}
RunAlone p (y ∷ ys) fields = (after : List ℕ) × (alone p y.message fields ≡ some (y.answer, after)) × RunAlone p ys after

-- It follows: what is compared with a send's answer is what its own run gives.
run_alone : (p : Program) (l : List (Answered (service p))) (fields : List ℕ) → All Right (compared_in (service p) l fields) → RunAlone p l fields
run_alone p [] fields h = tt
run_alone p (y ∷ ys) fields h = go (alone p y.message fields) refl h.0 (λ after. run_alone p ys after) h.1
  where
    given : Option ℕ → ℕ
    given none = 0
    given (some v) = suc v

    go : (o : Option (ℕ × List ℕ)) → alone p y.message fields ≡ o → answer_of (service p) o ≡ some y.answer
        → ((after : List ℕ) → All Right (compared_in (service p) ys after) → RunAlone p ys after)
        → All Right (compared_in (service p) ys (fields_after (service p) o fields)) → RunAlone p (y ∷ ys) fields
    go none e q more rest = absurd (omega (arith, ap given q))
    go (some (v, after)) e q more rest =
        let same : v ≡ y.answer = omega (arith, ap given q) in
        (after, e ∙ ap (λ (n : ℕ). some (n, after)) same, more after rest)

-- What Ticket 4 requires of a list of calls after a start on `values`, by their answers and by what they left.
pub record Seen (text values : List ℕ) (cs : List Call) (rs : List CallResult) (z : Lent) : Type 0 where
  -- "At each moment, undoing all open transactions must give the fields of the committed ones run in commit order": by their notes ..
  pub undone : notes_back z.words 8 z.values ≡ (course text values cs (map told rs)).fields
  -- .. and by the calls: once every open slot was aborted, in whatever order, none is open and the values are the course's.
  pub aborted : (ss : List ℕ) → ((s : ℕ) → OpenIn z s → In s ss) → {rs₂ : List CallResult} {z₂ : Lent} → Made z (map abort ss) rs₂ z₂
      → NothingOpen z₂ × (z₂.values ≡ (course text values cs (map told rs)).fields)
  -- "The answers that any transaction got": "still open", alone right after those committed "before now" ..
  pub open_alone : (s : ℕ) → OpenIn z s → GotAlone text (course text values cs (map told rs)) s
  -- .. "later undone" and "stopped", alone right after those "committed before its end", the call that ends it being the next ..
  pub undone_alone : (s : ℕ) {r : CallResult} {z₂ : Lent} → Does z (abort s) r z₂ → told r ≡ done
      → GotAlone text (course text values cs (map told rs)) s
  pub stopped_alone : (s : ℕ) {r : CallResult} {z₂ : Lent} → Does z (step s) r z₂ → told r ≡ stopped
      → GotAlone text (course text values cs (map told rs)) s
  -- .. and those that are committed ..
  pub committed_alone : All Right (course text values cs (map told rs)).compared
  -- .. also by the runs themselves: the sends of one that is open, and of one that the next call commits, run alone, give its answers.
  pub open_runs : (s : ℕ) → OpenIn z s → RunAlone (program_of text) ((course text values cs (map told rs)).slots s).list (course text values cs (map told rs)).fields
  pub committed_runs : (s : ℕ) {r : CallResult} {z₂ : Lent} → Does z (commit s) r z₂ → told r ≡ done
      → RunAlone (program_of text) ((course text values cs (map told rs)).slots s).list (course text values cs (map told rs)).fields
  -- No answer is left out of these: those in the list of slot s are all that it got since it last closed, and those of committed
  -- transactions all that they got, in order, by the calls and their answers alone.
  pub open_all : (s : ℕ) → map (λ y. y.answer) ((course text values cs (map told rs)).slots s).list
      ≡ got_by (service (program_of text)) s (history (service (program_of text)) [] cs (map told rs))
  pub committed_all : map (λ c. c.got) (course text values cs (map told rs)).compared ≡ committed_answers (service (program_of text)) [] cs (map told rs)

-- What the tablets saw, after any list of calls.
pub what_was_seen : (x : Lent) (r : Done) (y : Lent) → Begins x r y → said_done r ≡ Entry.done 0 → {cs : List Call} {rs : List CallResult} {z : Lent} → Made y cs rs z
    → Seen y.text y.values cs rs z
unfolding course
what_was_seen x r y begins e {cs} {rs} {z} made =
    record {
      undone = ap (λ (l : Lent). notes_back l.words 8 l.values) m.1 ∙ now.undone ∙ ap (λ (l : List Answer). (course text values cs l).fields) answers;
      aborted = λ ss all more. let shut = closes ss all more in (shut, values_are ss more shut);
      open_alone = λ s o. got_alone s o;
      open_runs = λ s o. runs s (got_alone s o);
      committed_runs = λ s d f. runs s (ended s
          (subst (λ (a : Answer). Ends (service p) w (commit s) a) (sym (d.says p w rep) ∙ f) (ends_open (service p) w (moves (service p) w (commit s)))));
      undone_alone = λ s d f. ended s (subst (λ (a : Answer). Ends (service p) w (abort s) a) (sym (d.says p w rep) ∙ f) (ends_open (service p) w (moves (service p) w (abort s))));
      stopped_alone = λ s d f. ended s (subst (λ (a : Answer). Ends (service p) w (step s) a) (sym (d.says p w rep) ∙ f) (ends_open (service p) w (moves (service p) w (step s))));
      committed_alone = subst (λ (l : List Answer). All Right (course text values cs l).compared) answers now.committed_alone;
      open_all = λ s. subst (λ (l : List Answer). map (λ y. y.answer) ((course text values cs l).slots s).list ≡ got_by (service p) s (history (service p) [] cs l))
          (sym (made_answers x r y begins e made))
          (sym (compared_listed (service p) ((plain p values cs).slots s).list values) ∙ open_compared p values cs s values);
      committed_all = made_compares x r y begins e made;
    }
  where
    text : List ℕ
    text = y.text

    values : List ℕ
    values = y.values

    p : Program
    p = program_of text

    start : Fresh y p
    start = start_fresh x r y begins e

    a : AfterAll
    a = called_all y cs

    m : (map told rs ≡ a.answers) × (z ≡ a.lent)
    m = made_is made

    answers : a.answers ≡ map told rs
    answers = sym m.0

    now : AtMoment p values cs a
    now = at_moment y p (program_compiled (library text)) start cs

    w : World (service p)
    w = left p values cs

    rep : Rep z p w
    rep = made_rep x r y begins e made

    got_alone : (s : ℕ) → OpenIn z s → GotAlone text (course text values cs (map told rs)) s
    got_alone s o =
        subst (λ (l : List Answer). GotAlone text (course text values cs l) s) answers
        (now.open_alone s o.0 (λ f. o.1 (phase_answers z p w rep s o.0 (ap (λ (l : Lent). phase_of (row_of l.words s)) m.1 ∙ f))))

    -- A slot that is open in the world is open by the answer of a step.
    opened_in : (s : ℕ) → s < 8 → (t : Transaction (service p)) → w.slots s ≡ opened t → OpenIn z s
    opened_in s h t q = (h, λ f. open_closed (service p) t (sym q ∙ closed_slot z p w rep s h f))

    ended : (s : ℕ) → IsOpen (service p) w s → GotAlone text (course text values cs (map told rs)) s
    ended s o = got_alone s (opened_in s o.2 o.0 o.1)

    runs : (s : ℕ) → GotAlone text (course text values cs (map told rs)) s
        → RunAlone p ((course text values cs (map told rs)).slots s).list (course text values cs (map told rs)).fields
    runs s = run_alone p ((course text values cs (map told rs)).slots s).list (course text values cs (map told rs)).fields

    closes : (ss : List ℕ) → ((s : ℕ) → OpenIn z s → In s ss) → {rs₂ : List CallResult} {z₂ : Lent} → Made z (map abort ss) rs₂ z₂ → NothingOpen z₂
    closes ss all {z₂ = z₂} more =
        let w₂ = (run_calls (service p) w (map abort ss)).1 in
        let rep₂ : Rep z₂ p w₂ = subst (λ (l : Lent). Rep l p w₂) (sym (made_is more).1) (all_refine z p w rep (map abort ss)).1 in
        all_closed z₂ p w₂ rep₂ (aborts_close (service p) ss w (line_open (service p) values cs) (λ s h t q. all s (opened_in s h t q)))

    values_are : (ss : List ℕ) {rs₂ : List CallResult} {z₂ : Lent} → Made z (map abort ss) rs₂ z₂ → NothingOpen z₂
        → z₂.values ≡ (course text values cs (map told rs)).fields
    values_are ss {rs₂} more shut =
        (demand_3 x r y begins e (made_append made more) shut).same_fields
        ∙ ap (λ (l : List Answer). (course text values (cs ++ map abort ss) l).fields) (map-append told rs rs₂)
        ∙ ap (λ (c : Course (service p)). c.fields)
        (fed_append (service p) cs (map abort ss) (start_course (service p) values) (map told rs) (map told rs₂) (made_count made))
        ∙ aborts_fields (service p) ss (course text values cs (map told rs)) (map told rs₂)
