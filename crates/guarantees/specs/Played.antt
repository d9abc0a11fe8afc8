-- Demand 2 and Ticket 5 over what the entries answered and left: a list of calls is the model's `played`, and a step is the one that
-- counts in 64 bits.
use Rattle.std.specs.Prelude.{ℕ, suc, ◌<◌, ◌≡◌, refl, Bool, true, false, cond, List, [], map, length, eqb, ltb}
use Rattle.std.proofs.Common.{arith, sym, ap, ap₂, ◌∙◌}
use Rattle.std.proofs.lemmas.Bool.{lt-leb}
use Rattle.layout.specs.Layout.{state_words}
use Rattle.model.specs.Read.{Reading, accepted, refused, read, library, library_in}
use Rattle.model.specs.Image.{starting_values}
use Rattle.model.specs.Vector.{program}
use Rattle.model.specs.Service.{Answer, step}
use Rattle.model.specs.Told as Entry
use Rattle.model.specs.Told.{Told, refusal, or_fault}
use Rattle.model.specs.Machine.{Call, start_answer, played_by, played_on, played}
use Rattle.theory.specs.CommitOrder.{left, played_is}
use Rattle.machine_words.specs.Said.{CallResult, told}
use Rattle.machine_words.specs.Calls.{Lent, row_of, phase_of, misfit_of, called}
use Rattle.cishmolaq.specs.Answers.{Done, said_done, Begins}
use Rattle.guarantees.specs.Counts.{step_narrow, step_wide, same_step}
use Rattle.guarantees.specs.Made.{Made}
use Rattle.guarantees.specs.Open.{RunningIn, running_phase}
use Rattle.guarantees.specs.PlainCourse.{program_of, start_accepted, made_rep, made_answers}

-- A start that is not refused is on an accepted text and on a value for each field: the model plays the calls on its program.
played_on_law : (text values : List ℕ) (size : ℕ) (cs : List Call) → start_answer state_words text (length values) size ≡ Entry.done 0
    → played text values cs ≡ played_by (program_of text) values cs
unfolding start_answer played library
played_on_law text values size cs e = go (read text) e
  where
    fault : Told → ℕ
    fault (Entry.done n) = 0
    fault (refusal n line) = suc n

    go : (x : Reading) → or_fault x (λ l. cond (ltb size state_words) (refusal 21 0) (cond (eqb (length values) (length (starting_values l))) (Entry.done 0) (refusal 22 0))) ≡ Entry.done 0
        → played_on x values cs ≡ played_by (program (library_in x)) values cs
    go (refused n line) d = absurd (omega (arith, ap fault d))
    go (accepted l) d = by_count (ltb size state_words) (eqb (length values) (length (starting_values l))) d
      where
        by_count : (a b : Bool) → cond a (refusal 21 0) (cond b (Entry.done 0) (refusal 22 0)) ≡ Entry.done 0
            → cond b (played_by (program l) values cs) ([], values) ≡ played_by (program l) values cs
        by_count true b d = absurd (omega (arith, ap fault d))
        by_count false true d = refl
        by_count false false d = absurd (omega (arith, ap fault d))

-- What a list of calls answered and left is what the model plays: the rows of the table of examples, which cite `played`, speak of the
-- entries.
pub as_played : (x : Lent) (r : Done) (y : Lent) → Begins x r y → said_done r ≡ Entry.done 0 → {cs : List Call} {rs : List CallResult} {z : Lent} → Made y cs rs z
    → (map told rs, z.values) ≡ played y.text y.values cs
as_played x r y begins e {cs} {rs} {z} made =
    ap₂ (λ (l : List Answer) (k : List ℕ). (l, k)) (made_answers x r y begins e made) (sym (made_rep x r y begins e made).fields)
    ∙ sym (played_is y.text y.values cs)
    ∙ sym (played_on_law y.text y.values (length x.words) cs (start_accepted x r y begins e))

-- Ticket 5 by the call itself: a step that is not refused is the one that counts in 64 bits.
pub step_as_wide : (x : Lent) (r : Done) (y : Lent) → Begins x r y → said_done r ≡ Entry.done 0 → {cs : List Call} {rs : List CallResult} {z : Lent} → Made y cs rs z
    → (s : ℕ) → s < 8 → RunningIn z s → called z (step s) ≡ step_wide z s
unfolding called
step_as_wide x r y begins e {cs} {rs} {z} made s h run =
    let p = program_of y.text in
    let w = left p y.values cs in
    let rep = made_rep x r y begins e made in
    let two = running_phase z p w rep s h run in
    is_narrow rep.fit two ∙ same_step z p w rep s h two
  where
    is_narrow : misfit_of z ≡ 0 → phase_of (row_of z.words s) ≡ 2 → called z (step s) ≡ step_narrow z s
    is_narrow q two = rw (q, lt-leb 8 s h, two) refl
