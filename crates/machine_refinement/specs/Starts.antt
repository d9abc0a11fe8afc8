-- The start of a send's message: the row represents the message at its start, on its first object or with none.
use Rattle.std.specs.Prelude.{ℕ, suc, ◌+◌, ◌≤◌, ◌<◌, ◌≡◌, refl, ◌≢◌, Bool, true, List, [], ◌∷◌, length, get_or, set, ltb}
use Rattle.std.proofs.Common.{arith, ap₂, ◌∙◌, length-set}
use Rattle.std.proofs.Math.Decide.{dec_lt}
use Rattle.std.proofs.Math.Path.{sym, ap, subst}
use Rattle.std.proofs.Math.Bool.{cond}
use Rattle.std.proofs.Math.Option.{none, some}
use Rattle.std.proofs.lemmas.List.{length-map}
use borrow.Author.Tests.{lt-ltb, le-ltb}
use Rattle.layout.specs.Layout.{object_class_at, phase_at, depth_at, steps_at, sum_at, object_at, kind_at, number_at, name_at, argument_at, changed_at, head_spare_at, activations_at, shallow_at, row_words}
use Rattle.model.specs.Library.{Member, class_at, among, method_names}
use Rattle.model.specs.Vector.{Program}
use Rattle.model.specs.Message.{Target, object, class, domain, Message, Run, visit}
use Rattle.model.specs.Message as Model
use Rattle.model.specs.Machine.{method_at, to, find}
use Rattle.text_theory.specs.NamedRuns.{class_on, NamedRun, begun_named}
use Rattle.catalog.specs.View.{name_of, object_word, class_count, object_count, member_count}
use Rattle.catalog.specs.Bodies.{body_in, body_at}
use Rattle.machine_words.specs.Turn.{target_there, object_from}
use Rattle.machine_words.specs.Request.{Wanted, First, on, past, nowhere, first_on, first_of, named_row, past_row, entered, wanted, is_sendable, first_found}
use Rattle.machine_refinement.specs.Rep.{Fits, Running, target_by, message_of, objects_from, run_of, Aims, one, each, whole, message_for}
use Rattle.machine_refinement.specs.Tables.{method_for, class_total, object_total, method_total, method_name, class_is, resolving, body_at_law}
use Rattle.machine_refinement.specs.Objects.{visited_is, next_within, next_some, next_none}
use Rattle.machine_refinement.specs.Runs.{Alike}
use Rattle.machine_refinement.specs.Stores.{else_word, new_word}
use Rattle.machine_refinement.specs.Visits.{visit_row, head_length, head_other, head_depth, empty_run, empty_running, visit_length, visit_other, visit_body, visit_depth, visit_run, visit_running}

target_of : (tables : List ℕ) (c kind n : ℕ) (t : Target) → Aims tables c kind n t → target_by kind n ≡ t
target_of tables c kind n t (one o h e) = refl
target_of tables c kind n t each = refl
target_of tables c kind n t whole = refl

there_of : (tables : List ℕ) (c kind n : ℕ) (t : Target) → c < class_count tables → Aims tables c kind n t → target_there tables kind n ≡ true
unfolding target_there
there_of tables c kind n t h (one o l e) = lt-ltb o (object_count tables) l
there_of tables c kind n t h each = lt-ltb c (class_count tables) h
there_of tables c kind n t h whole = lt-ltb c (class_count tables) h

-- A message that starts somewhere.
abbrev pub There : First → Type 0
There (on o first end) = Unit {0}
There (past o) = Unit {0}
There nowhere = ⊥

-- A row at the start of a run.
pub record Starts (text tables : List ℕ) (p : Program) (row row' : List ℕ) (r : Run) : Type 0 where
  pub long : length row' ≡ row_words
  pub phase : get_or row' phase_at 0 ≡ 2
  pub run : r ≡ run_of text p row'
  pub runs : Running tables p row'
  pub names : NamedRun p r
  pub depth : get_or row' depth_at 0 ≤ 1
  pub head : Alike changed_at head_spare_at row row'
  pub tail : Alike shallow_at row_words row row'

module _ (text tables : List ℕ) (p : Program) (fits : Fits text tables p) (c k a : ℕ) (h : c < class_count tables) (has : k < member_count tables c 1)
    (kind n : ℕ) (t : Target) (aims : Aims tables c kind n t) (row : List ℕ) (size : length row ≡ row_words) where
  abbrev q : Wanted
  q = wanted tables kind n c k a

  abbrev message : Message
  message = message_for p t c k a

  -- The row with the words of the message.
  abbrev r0 : List ℕ
  r0 = set row phase_at 2

  abbrev r5 : List ℕ
  r5 = set r0 kind_at kind

  abbrev r6 : List ℕ
  r6 = set r5 number_at n

  abbrev r7 : List ℕ
  r7 = set r6 name_at q.name

  abbrev named : List ℕ
  named = set r7 argument_at a

  long5 : length r5 ≡ row_words
  long5 = length-set r0 kind_at kind ∙ length-set row phase_at 2 ∙ size

  long7 : length r7 ≡ row_words
  long7 = length-set r6 name_at q.name ∙ length-set r5 number_at n ∙ long5

  named_length : length named ≡ row_words
  named_length = length-set r7 argument_at a ∙ long7

  word0 : get_or named phase_at 0 ≡ 2
  word0 =
      else_word r7 argument_at a 0 (omega arith) ∙ else_word r6 name_at q.name 0 (omega arith) ∙ else_word r5 number_at n 0 (omega arith)
      ∙ else_word r0 kind_at kind 0 (omega arith) ∙ new_word row phase_at 2 (omega arith)

  word5 : get_or named kind_at 0 ≡ kind
  word5 =
      else_word r7 argument_at a 5 (omega arith) ∙ else_word r6 name_at q.name 5 (omega arith) ∙ else_word r5 number_at n 5 (omega arith)
      ∙ new_word r0 kind_at kind (omega (arith, length-set row phase_at 2))

  word6 : get_or named number_at 0 ≡ n
  word6 = else_word r7 argument_at a 6 (omega arith) ∙ else_word r6 name_at q.name 6 (omega arith) ∙ new_word r5 number_at n (omega (arith, long5))

  word7 : get_or named name_at 0 ≡ q.name
  word7 = else_word r7 argument_at a 7 (omega arith) ∙ new_word r6 name_at q.name (omega (arith, length-set r5 number_at n, long5))

  word8 : get_or named argument_at 0 ≡ a
  word8 = new_word r7 argument_at a (omega (arith, long7))

  named_other : (i : ℕ) → 9 ≤ i → get_or named i 0 ≡ get_or row i 0
  named_other i g =
      else_word r7 argument_at a i (omega arith) ∙ else_word r6 name_at q.name i (omega arith) ∙ else_word r5 number_at n i (omega arith)
      ∙ else_word r0 kind_at kind i (omega arith) ∙ else_word row phase_at 2 i (omega arith)

  message_is : message_of text named ≡ message
  message_is = λ i. record {
    target = (ap₂ target_by word5 word6 ∙ target_of tables c kind n t aims) i;
    method = (ap (name_of text) word7 ∙ sym (method_name text tables p fits c h k has)) i;
    argument = word8 i;
  }

  target : target_there tables kind n ≡ true
  target = there_of tables c kind n t h aims

  there : target_there tables (get_or named kind_at 0) (get_or named number_at 0) ≡ true
  there = ap₂ (target_there tables) word5 word6 ∙ target

  -- The model finds the message, so its names are known.
  found_is : find p (to t k a) ≡ some message
  found_is = go kind n t aims
    where
      method : (d : ℕ) → d ≡ c → (t : Target) → method_at p t d k a ≡ some (message_for p t c k a)
      method d e t =
          let inside : ltb k (length (method_names p.library c)) ≡ true =
          lt-ltb k (length (method_names p.library c))
          (omega (arith, length-map (class_at p.library c).methods (λ z. z.name), method_total text tables p fits c h)) in
          ap (λ (i : ℕ). method_at p t i k a) e ∙ ap (λ (b : Bool). cond b (some (message_for p t c k a)) none) inside

      class_there : ltb c (length p.library.classes) ≡ true
      class_there = lt-ltb c (length p.library.classes) (omega (arith, class_total text tables p fits))

      go : (kind n : ℕ) (t : Target) → Aims tables c kind n t → find p (to t k a) ≡ some (message_for p t c k a)
      go kind n t (one o l e) =
          let there : ltb o (length p.library.objects) ≡ true =
          lt-ltb o (length p.library.objects) (omega (arith, object_total text tables p fits)) in
          rw there (method (Model.class_of p o) (class_is text tables p fits o l ∙ e) (object o))
      go kind n t each = rw class_there (method c refl (class c))
      go kind n t whole = rw class_there (method c refl (domain c))

  begun_known : NamedRun p (Model.begun p message)
  begun_known = begun_named p fits.names (resolving text tables p fits) (to t k a) message found_is

  -- ---- its first object

  abbrev o : ℕ
  o = object_from tables kind n 0

  target_named : (message_of text named).target ≡ target_by kind n
  target_named = ap₂ target_by word5 word6

  -- Where it starts, and the row there.
  abbrev Started : First → Type 0
  Started f = There f × Starts text tables p row (entered q f row) (Model.begun p message)

  sendable : is_sendable tables q ≡ true
  unfolding is_sendable
  sendable = rw (target, lt-ltb c (class_count tables) h, lt-ltb k (member_count tables c 1) has)

  starts_some : o < object_count tables → Started (first_of text tables q)
  unfolding first_of entered named_row
  starts_some l =
      subst Started (sym is) (
        tt,
        record {
          long = visit_length text tables p fits named named_length there o 0 l aimed known;
          phase = other 0 (omega arith) ∙ word0;
          run = begun_is ∙ sym (visit_run text tables p fits named named_length there o 0 l aimed known);
          runs = visit_running text tables p fits named named_length there o 0 l aimed known;
          names = begun_known;
          depth = omega (arith, visit_depth text tables p fits named named_length there o 0 l aimed known);
          head = λ i g e. other i (omega arith) ∙ named_other i (omega arith);
          tail = λ i g e. other i (omega arith) ∙ named_other i (omega arith);
        },
      )
    where
      next : (Model.in_target p (target_by kind n) o ≡ true) × (objects_from p (target_by kind n) 0 ≡ o ∷ objects_from p (target_by kind n) (suc o))
      next = next_some text tables p fits kind n 0 target l

      aimed : Model.in_target p (message_of text named).target o ≡ true
      aimed = ap (λ (x : Target). Model.in_target p x o) target_named ∙ next.0

      known : among (class_on p o).methods (message_of text named).method ≡ true
      known =
          subst (λ (m : Message). Model.in_target p m.target o ≡ true → among (class_on p o).methods m.method ≡ true) (sym message_is)
          (begun_known.message o) aimed

      body : Member
      body = method_for p (Model.class_of p o) (name_of text (get_or named name_at 0))

      other : (i : ℕ) → (i ≢ depth_at) × (i ≢ steps_at) × (i ≢ sum_at) × (i ≢ object_at) × (activations_at ≤ i → i < shallow_at → ⊥) → get_or (visit_row text p named o 0) i 0 ≡ get_or named i 0
      other = visit_other text tables p fits named named_length there o 0 l aimed known

      is : first_of text tables q ≡ on o body.first (body.first + body.count)
      is =
          ap (λ (b : Bool). cond b (first_found text tables q) nowhere) sendable
          ∙ ap (λ (b : Bool). cond b (first_on o (body_at text tables (object_word tables o object_class_at) k q.name)) (past o)) (lt-ltb o (object_count tables) l)
          ∙ ap (first_on o) (body_at_law text tables p fits (object_word tables o object_class_at) (fits.known o l) k q.name
          ∙ ap (λ (w : ℕ). body_in text tables (object_word tables o object_class_at) (name_of text w)) (sym word7)
          ∙ visit_body text tables p fits named named_length there o 0 l aimed known)

      begun_is : Model.begun p message ≡ visit p (message_of text named) (o ∷ objects_from p (message_of text named).target (suc o)) 0
      begun_is =
          ap (λ (os : List ℕ). visit p message os 0)
          (visited_is p t ∙ ap (λ (x : Target). objects_from p x 0) (sym (target_of tables c kind n t aims)) ∙ next.1
          ∙ ap (λ (x : Target). o ∷ objects_from p x (suc o)) (sym target_named))
          ∙ ap (λ (x : Message). visit p x (o ∷ objects_from p (message_of text named).target (suc o)) 0) (sym message_is)

  starts_none : o ≡ object_count tables → Started (first_of text tables q)
  unfolding first_of entered named_row past_row
  starts_none l =
      subst Started (sym is) (
        tt,
        record {
          long = head_length named named_length o 0 0;
          phase = head_other named named_length o 0 0 0 (omega arith) ∙ word0;
          run = begun_is ∙ sym (empty_run text tables p fits named named_length there o 0 l);
          runs = empty_running text tables p fits named named_length there o 0 l;
          names = begun_known;
          depth = omega (arith, head_depth named named_length o 0 0);
          head = λ i g e. head_other named named_length o 0 0 i (omega arith) ∙ named_other i (omega arith);
          tail = λ i g e. head_other named named_length o 0 0 i (omega arith) ∙ named_other i (omega arith);
        },
      )
    where
      is : first_of text tables q ≡ past o
      is =
          ap (λ (b : Bool). cond b (first_found text tables q) nowhere) sendable
          ∙ ap (λ (b : Bool). cond b (first_on o (body_at text tables (object_word tables o object_class_at) k q.name)) (past o)) (le-ltb o (object_count tables) (omega arith))

      begun_is : Model.begun p message ≡ visit p (message_of text named) [] 0
      begun_is =
          ap (λ (os : List ℕ). visit p message os 0)
          (visited_is p t ∙ ap (λ (x : Target). objects_from p x 0) (sym (target_of tables c kind n t aims))
          ∙ next_none text tables p fits kind n 0 target (omega arith))
          ∙ ap (λ (x : Message). visit p x [] 0) (sym message_is)

  -- The message starts somewhere, and the row there represents its run.
  pub starts : let q = wanted tables kind n c k a in
      There (first_of text tables q) × Starts text tables p row (entered q (first_of text tables q) row) (Model.begun p (message_for p t c k a))
  starts = go (dec_lt o (object_count tables))
    where
      go : Dec (o < object_count tables) → Started (first_of text tables q)
      go (yes l) = starts_some l
      go (no l) = starts_none (omega (arith, next_within tables kind n 0 (omega arith)))
