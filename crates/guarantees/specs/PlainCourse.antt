-- Demand 3 over what the entries answered and left: any list of send, step, commit and abort "that leaves nothing open".
use Rattle.std.specs.Prelude.{ℕ, ◌≤◌, ◌≡◌, refl, Bool, true, false, cond, List, [], map, length, eqb, ltb}
use Rattle.std.proofs.Common.{arith, sym, ap, ap₂, subst, ◌∙◌, le-ltb}
use Rattle.layout.specs.Layout.{state_words}
use Rattle.model.specs.Read.{Reading, accepted, refused, read, library}
use Rattle.model.specs.Image.{starting_values}
use Rattle.model.specs.Vector.{Program, program}
use Rattle.model.specs.Service.{Answer, fresh}
use Rattle.model.specs.Machine.{Call, service, start_answer}
use Rattle.model.specs.Course.{course}
use Rattle.laws.specs.Basics.{All}
use Rattle.twophase.specs.Claims.{Right}
use Rattle.twophase.specs.Compared.{committed_answers}
use Rattle.vector_theory.specs.VectorLaws.{program_compiled}
use Rattle.theory.specs.CommitOrder.{answers, left}
use Rattle.theory.specs.Compared.{course_compares}
use Rattle.machine_words.specs.Calls.{Lent, lending, row_of, phase_of}
use Rattle.machine_refinement.specs.Rep.{Rep, Fresh}
use Rattle.machine_refinement.specs.Refines.{fresh_rep}
use Rattle.guarantees.specs.Course.{AfterAll, called_all, all_refine, InOrder, in_order}
use Rattle.machine_words.specs.Said.{CallResult, told}
use Rattle.model.specs.Told as Entry
use Rattle.model.specs.Told.{Told, refusal, or_fault}
use Rattle.cishmolaq.specs.Answers.{Done, said_done, StartLeaves, Begins}
use Rattle.guarantees.specs.Made.{Made, made_is, told_same, rep_count}
use Rattle.guarantees.specs.Open.{NothingOpen, nothing_phased}

-- ---- demand 3

-- The program of a text.
abbrev pub program_of : List ℕ → Program
program_of text = program (library text)

-- What a start left that was not refused.
start_left : (x : Lent) (r : Done) (y : Lent) → Begins x r y → said_done r ≡ Entry.done 0 → StartLeaves x (Entry.done 0) y
start_left x r y h e = subst (λ (t : Told). StartLeaves x t y) e h.leaves

pub start_fresh : (x : Lent) (r : Done) (y : Lent) → Begins x r y → said_done r ≡ Entry.done 0 → Fresh y (program_of y.text)
start_fresh x r y h e = (start_left x r y h e).0

-- Such a start was on the same text and values.
pub start_accepted : (x : Lent) (r : Done) (y : Lent) → Begins x r y → said_done r ≡ Entry.done 0
    → start_answer state_words y.text (length y.values) (length x.words) ≡ Entry.done 0
start_accepted x r y begins e =
    let kept = (start_left x r y begins e).2 in
    ap₂ (λ (l k : List ℕ). start_answer state_words l (length k) (length x.words)) (ap (λ (l : Lent). l.text) kept) (ap (λ (l : Lent). l.values) kept)
    ∙ sym begins.says ∙ e

-- What a list of calls after such a start left represents the world after the model's calls.
pub made_rep : (x : Lent) (r : Done) (y : Lent) → Begins x r y → said_done r ≡ Entry.done 0 → {cs : List Call} {rs : List CallResult} {z : Lent} → Made y cs rs z
    → Rep z (program_of y.text) (left (program_of y.text) y.values cs)
made_rep x r y begins e {cs} made =
    let p = program_of y.text in
    subst (λ (l : Lent). Rep l p (left p y.values cs)) (sym (made_is made).1)
    (all_refine y p (fresh (service p) y.values) (fresh_rep y p (start_fresh x r y begins e)) cs).1

-- Its answers are the model's.
pub made_answers : (x : Lent) (r : Done) (y : Lent) → Begins x r y → said_done r ≡ Entry.done 0 → {cs : List Call} {rs : List CallResult} {z : Lent} → Made y cs rs z
    → map told rs ≡ answers (program_of y.text) y.values cs
made_answers x r y begins e {cs} made =
    let p = program_of y.text in
    (made_is made).0 ∙ (all_refine y p (fresh (service p) y.values) (fresh_rep y p (start_fresh x r y begins e)) cs).0

-- Which answers are compared: all that committed transactions got. (01, "The plain course": "each answer in a slot's list at its commit")
pub made_compares : (x : Lent) (r : Done) (y : Lent) → Begins x r y → said_done r ≡ Entry.done 0 → {cs : List Call} {rs : List CallResult} {z : Lent} → Made y cs rs z
    → map (λ c. c.got) (course y.text y.values cs (map told rs)).compared ≡ committed_answers (service (program_of y.text)) [] cs (map told rs)
made_compares x r y begins e {cs} made =
    subst (λ (l : List Answer). map (λ c. c.got) (course y.text y.values cs l).compared ≡ committed_answers (service (program_of y.text)) [] cs l)
    (sym (made_answers x r y begins e made)) (course_compares y.text y.values cs)

-- Where one start succeeds, another does: on as many values, in any state that is long enough.
start_again : (text : List ℕ) (count count' size size' : ℕ) → start_answer state_words text count size ≡ Entry.done 0 → count' ≡ count → state_words ≤ size' → start_answer state_words text count' size' ≡ Entry.done 0
unfolding start_answer
start_again text count count' size size' e q h = go (read text) e
  where
    fault : Told → ℕ
    fault (Entry.done n) = 0
    fault (refusal n line) = n

    by_count : (b c : Bool) → cond b (refusal 21 0) (cond c (Entry.done 0) (refusal 22 0)) ≡ Entry.done 0 → c ≡ true
    by_count b true d = refl
    by_count true false d = absurd (omega (arith, ap fault d))
    by_count false false d = absurd (omega (arith, ap fault d))

    go : (x : Reading) → or_fault x (λ l. cond (ltb size state_words) (refusal 21 0) (cond (eqb count (length (starting_values l))) (Entry.done 0) (refusal 22 0))) ≡ Entry.done 0
        → or_fault x (λ l. cond (ltb size' state_words) (refusal 21 0) (cond (eqb count' (length (starting_values l))) (Entry.done 0) (refusal 22 0))) ≡ Entry.done 0
    go (accepted l) d = rw (le-ltb size' state_words h, q, by_count (ltb size state_words) (eqb count (length (starting_values l))) d)
    go (refused n line) d = d

-- What demand 3 requires of a list of calls after a start on `values`, by their answers and by what they left.
pub record PlainCourse (text values : List ℕ) (cs : List Call) (rs : List CallResult) (z : Lent) : Type 0 where
  -- "ends with the fields .. of the plain course"
  pub same_fields : z.values ≡ (course text values cs (map told rs)).fields
  -- "and gave committed transactions the answers .. of the plain course" ..
  pub same_answers : All Right (course text values cs (map told rs)).compared
  -- .. where none is left out: compared are all answers that committed transactions got, in order, by the calls and their answers alone.
  pub none_left_out : map (λ c. c.got) (course text values cs (map told rs)).compared ≡ committed_answers (service (program_of text)) [] cs (map told rs)
  -- "and from then on the machine behaves as after a new start on those fields"
  pub as_new : (state : List ℕ) (r : Done) (new : Lent) → Begins (lending text state z.values) r new → said_done r ≡ Entry.done 0
      → (more : List Call) {rs₁ rs₂ : List CallResult} {z₁ z₂ : Lent} → Made z more rs₁ z₁ → Made new more rs₂ z₂ → (rs₁ ≡ rs₂) × (z₁.values ≡ z₂.values)
  -- .. which a new start accepts, in any state that is long enough.
  pub starts : (size : ℕ) → state_words ≤ size → start_answer state_words text (length z.values) size ≡ Entry.done 0

-- "This is a single claim about the whole list, not one for each call."
pub demand_3 : (x : Lent) (r : Done) (y : Lent) → Begins x r y → said_done r ≡ Entry.done 0 → {cs : List Call} {rs : List CallResult} {z : Lent} → Made y cs rs z
    → NothingOpen z → PlainCourse y.text y.values cs rs z
unfolding course
demand_3 x r y begins e {cs} {rs} {z} made shut = record {
  same_fields = same_values ∙ all.same_fields ∙ ap (λ (l : List Answer). (course text values cs l).fields) same_told;
  same_answers = subst (λ (l : List Answer). All Right (course text values cs l).compared) same_told all.same_answers;
  none_left_out = made_compares x r y begins e made;
  as_new = λ state r₂ new f d more {rs₁} {rs₂} {z₁} {z₂} m₁ m₂.
      let kept = (start_left (lending text state z.values) r₂ new f d).2 in
      let old = made_is (subst (λ (l : Lent). Made l more rs₁ z₁) m.1 m₁) in
      let again = made_is m₂ in
      let start₂ : Fresh new p = subst (λ (l : List ℕ). Fresh new (program_of l)) (ap (λ (l : Lent). l.text) kept) (start_fresh (lending text state z.values) r₂ new f d) in
      let same = all.as_new new start₂ (ap (λ (l : Lent). l.values) kept ∙ same_values) more in
      (told_same rs₁ rs₂ (old.0 ∙ same.0 ∙ sym again.0), ap (λ (l : Lent). l.values) old.1 ∙ same.1 ∙ ap (λ (l : Lent). l.values) (sym again.1));
  starts = λ size h. start_again text (length values) (length z.values) (length x.words) size (start_accepted x r y begins e) same_count h;
}
  where
    text : List ℕ
    text = y.text

    values : List ℕ
    values = y.values

    p : Program
    p = program_of text

    start : Fresh y p
    start = start_fresh x r y begins e

    a : AfterAll
    a = called_all y cs

    m : (map told rs ≡ a.answers) × (z ≡ a.lent)
    m = made_is made

    same_values : z.values ≡ a.lent.values
    same_values = ap (λ (l : Lent). l.values) m.1

    rep : Rep z p (left p values cs)
    rep = made_rep x r y begins e made

    all : InOrder p values cs a
    all = in_order y p (program_compiled (library text)) start cs (λ t h.
        subst (λ (l : Lent). phase_of (row_of l.words t) ≡ 0) m.1 (nothing_phased z p (left p values cs) rep shut t h))

    same_told : a.answers ≡ map told rs
    same_told = sym m.0

    first : Rep y p (fresh (service p) values)
    first = fresh_rep y p start

    same_count : length z.values ≡ length values
    same_count = rep_count z p (left p values cs) rep ∙ sym (rep_count y p (fresh (service p) values) first)
