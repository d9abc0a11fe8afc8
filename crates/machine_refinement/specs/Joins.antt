-- A send that joins the line: its words, its slot's row, and its place.
use Rattle.std.specs.Prelude.{ℕ, zero, suc, ◌≤◌, ◌<◌, ◌≡◌, refl, ◌≢◌, Bool, true, false, not, length, set, replicate, eqb}
use Rattle.std.proofs.Common.{arith, sym, ap, subst, ◌∙◌, inl, inr, ⊎_elim, true≢false, length-append, eqb-true}
use Rattle.std.proofs.Math.Option.{none}
use mathlib.Core.List.Memᴰ
use mathlib.Core.List.{List, [], ◌∷◌, ◌++◌, append-nil, Memᴰ}
use Rattle.std.proofs.Math.ListN.{get_or, length-set, get_or-replicate}
use Rattle.std.proofs.lemmas.List.{length-replicate}
use Rattle.std.proofs.lemmas.List.Edits.{sets}
use Rattle.std.proofs.lemmas.Bool.{eqb-false}
use Rattle.layout.specs.Layout.{phase_at, kind_at, number_at, name_at, argument_at, place_at, waiting_at, waiting_words, row_words, line_at}
use Rattle.model.specs.Base.{keep}
use Rattle.model.specs.Vector.{Program}
use Rattle.model.specs.Message.{Target, Message}
use Rattle.model.specs.Lock.{locks_for}
use Rattle.model.specs.Service.{opened, Transaction, Waiter, World, with_fields, with_slot, standing, joined}
use Rattle.model.specs.Machine.{service}
use Rattle.laws.specs.Lists.{in_keep, keep_length}
use Rattle.twophase.specs.Order.{sub_keep}
use Rattle.twophase.specs.Line.{Once, once_sub, once_add}
use Rattle.catalog.specs.View.{class_count, member_count}
use Rattle.machine_words.specs.Request.{Wanted, named_row, locked, wanted, class_for}
use Rattle.machine_words.specs.Row.{blank}
use Rattle.machine_words.specs.Line.{wanted_in, requested, waiting_row, count_in, with_place}
use Rattle.machine_words.specs.Calls.{Lent, with_words, tables_of, row_of, phase_of, with_row}
use Rattle.machine_refinement.specs.Rep.{Holds, NowRep, OpenRep, SlotRep, method_of, Aims, message_for, Waits, settled, RepAt, Rep, one, each, whole}
use Rattle.machine_refinement.specs.Runs.{note_same}
use Rattle.machine_refinement.specs.Stores.{else_word, new_word}
use Rattle.machine_refinement.specs.Locks.{blank_word, blank_holds, holds_alike}
use Rattle.machine_refinement.specs.Freeing.{clean_alike}
use Rattle.machine_refinement.specs.Taking.{Took, took_locks}
use Rattle.machine_refinement.specs.WaitRows.{written_long, written_phase, written_words, withdrawn_back, settled_ready, settled_waits}
use Rattle.machine_refinement.specs.State.{row_size, not_waiting, StandingRep, slot_stands, altered, placed, counted}
use Rattle.machine_refinement.specs.Waking.{count_is}

-- ---- no more than eight wait

module _ (p : Program) where
  -- Sends of one slot are at most one.
  one_slot : (n : ℕ) (vs : List (Waiter (service p))) → Once (service p) vs → ((v : Waiter (service p)) → Memᴰ v vs → v.slot ≡ n) → length vs ≤ 1
  one_slot n [] once same = omega arith
  one_slot n (v ∷ []) once same = omega arith
  one_slot n (v ∷ u ∷ vs) once same =
      absurd (once.0 u (Memᴰ.head refl) (same u (Memᴰ.tail (Memᴰ.head refl)) ∙ sym (same v (Memᴰ.head refl))))

  -- Sends of different slots below n are at most n.
  few_slots : (n : ℕ) (vs : List (Waiter (service p))) → Once (service p) vs → ((v : Waiter (service p)) → Memᴰ v vs → v.slot < n) → length vs ≤ n
  few_slots zero [] once below = omega arith
  few_slots zero (v ∷ vs) once below = absurd (omega (arith, below v (Memᴰ.head refl)))
  few_slots (suc n) vs once below =
      omega (
        arith,
        keep_length other vs,
        few_slots n (keep other vs) (once_sub (service p) (sub_keep other vs) once) low,
        one_slot n (keep (λ v. not (other v)) vs) (once_sub (service p) (sub_keep (λ v. not (other v)) vs) once) same,
      )
    where
      other : Waiter (service p) → Bool
      other v = not (eqb v.slot n)

      low : (v : Waiter (service p)) → Memᴰ v (keep other vs) → v.slot < n
      low v i =
          let q = in_keep other vs i in
          go (eqb v.slot n) refl q.1 (below v q.0)
        where
          go : (b : Bool) → eqb v.slot n ≡ b → not b ≡ true → v.slot < suc n → v.slot < n
          go true e f l = absurd (true≢false (sym f))
          go false e f l = omega (arith, eqb-false v.slot n e)

      same : (v : Waiter (service p)) → Memᴰ v (keep (λ v. not (other v)) vs) → v.slot ≡ n
      same v i = go (eqb v.slot n) refl (in_keep (λ v. not (other v)) vs i).1
        where
          go : (b : Bool) → eqb v.slot n ≡ b → not (not b) ≡ true → v.slot ≡ n
          go true e f = eqb-true v.slot n e
          go false e f = cc

-- ---- the words of the send

module _ (q : Wanted) where
  abbrev z0 : List ℕ
  z0 = set (replicate waiting_words 0) phase_at 2

  abbrev z5 : List ℕ
  z5 = set z0 kind_at q.kind

  abbrev z6 : List ℕ
  z6 = set z5 number_at q.number

  abbrev z7 : List ℕ
  z7 = set z6 name_at q.name

  abbrev z8 : List ℕ
  z8 = set z7 argument_at q.argument

  abbrev z14 : List ℕ
  z14 = set z8 place_at q.place

  long0 : length z0 ≡ waiting_words
  long0 = length-set {A = ℕ} (replicate waiting_words 0) phase_at 2 ∙ length-replicate {A = ℕ} waiting_words 0

  long6 : length z6 ≡ waiting_words
  long6 = length-set z5 number_at q.number ∙ length-set z0 kind_at q.kind ∙ long0

  long8 : length z8 ≡ waiting_words
  long8 = length-set z7 argument_at q.argument ∙ length-set z6 name_at q.name ∙ long6

  requested_long : length (requested q (replicate waiting_words 0)) ≡ waiting_words
  unfolding requested named_row
  requested_long = length-set z8 place_at q.place ∙ long8

  -- Words past the head are 0.
  requested_zero : (i : ℕ) → 15 ≤ i → i < waiting_words → get_or (requested q (replicate waiting_words 0)) i 0 ≡ 0
  unfolding requested named_row
  requested_zero i g h =
      else_word z8 place_at q.place i (omega arith) ∙ else_word z7 argument_at q.argument i (omega arith)
      ∙ else_word z6 name_at q.name i (omega arith) ∙ else_word z5 number_at q.number i (omega arith) ∙ else_word z0 kind_at q.kind i (omega arith)
      ∙ else_word (replicate waiting_words 0) phase_at 2 i (omega arith) ∙ get_or-replicate waiting_words i 0 0 h

  -- Read back, they are the send, its class and its name being those of the tables.
  requested_is : (tables row : List ℕ) → ((i : ℕ) → i < 15 → i ≢ 10 → get_or row i 0 ≡ get_or (requested q (replicate waiting_words 0)) i 0)
      → wanted_in tables row ≡ wanted tables q.kind q.number (class_for tables q.kind q.number) q.place q.argument
  unfolding wanted_in requested named_row
  requested_is tables row same = λ j. wanted tables (kind j) (number j) (class_for tables (kind j) (number j)) (place j) (argument j)
    where
      kind : get_or row kind_at 0 ≡ q.kind
      kind =
          same kind_at (omega arith) (omega arith) ∙ else_word z8 place_at q.place kind_at (omega arith) ∙ else_word z7 argument_at q.argument kind_at (omega arith)
          ∙ else_word z6 name_at q.name kind_at (omega arith) ∙ else_word z5 number_at q.number kind_at (omega arith) ∙ new_word z0 kind_at q.kind (omega (arith, long0))

      number : get_or row number_at 0 ≡ q.number
      number =
          same number_at (omega arith) (omega arith) ∙ else_word z8 place_at q.place number_at (omega arith) ∙ else_word z7 argument_at q.argument number_at (omega arith)
          ∙ else_word z6 name_at q.name number_at (omega arith) ∙ new_word z5 number_at q.number (omega (arith, long0, length-set z0 kind_at q.kind))

      place : get_or row place_at 0 ≡ q.place
      place = same place_at (omega arith) (omega arith) ∙ new_word z8 place_at q.place (omega (arith, long8))

      argument : get_or row argument_at 0 ≡ q.argument
      argument =
          same argument_at (omega arith) (omega arith) ∙ else_word z8 place_at q.place argument_at (omega arith)
          ∙ new_word z7 argument_at q.argument (omega (arith, long6, length-set z6 name_at q.name))

-- The class of a target is the tables'.
class_of_law : (tables : List ℕ) (c kind n : ℕ) (t : Target) → Aims tables c kind n t → class_for tables kind n ≡ c
unfolding class_for
class_of_law tables c _ _ _ (one o h e) = e
class_of_law tables c _ _ _ each = refl
class_of_law tables c _ _ _ whole = refl

-- ---- the row and the line

module _ (lent : Lent) (p : Program) (w₀ : World (service p)) (rep : Rep lent p (with_fields (service p) w₀ lent.values))
    (s : ℕ) (h : s < 8) (idle : (standing (service p) (w₀.slots s)).running ≡ none) (still : phase_of (row_of lent.words s) ≢ 3)
    (c k a : ℕ) (l : c < class_count (tables_of lent.words)) (has : k < member_count (tables_of lent.words) c 1) (kind n : ℕ) (x : Target) (aims : Aims (tables_of lent.words) c kind n x) where
  abbrev text : List ℕ
  text = lent.text

  abbrev ws : List ℕ
  ws = lent.words

  abbrev w : World (service p)
  w = with_fields (service p) w₀ lent.values

  abbrev tables : List ℕ
  tables = tables_of ws

  abbrev row : List ℕ
  row = row_of ws s

  abbrev q : Wanted
  q = wanted tables kind n c k a

  abbrev m : Message
  m = message_for p x c k a

  abbrev t : Transaction (service p)
  t = standing (service p) (w₀.slots s)

  size : length row ≡ row_words
  size = row_size lent p w rep s h

  before : StandingRep p row t
  before = slot_stands text tables p row (w₀.slots s)
      (subst (λ (r : List ℕ). SlotRep text tables p r (w₀.slots s)) (settled_ready row still) (rep.slots s h))

  abbrev asks : List ℕ
  asks = requested q (replicate waiting_words 0)

  abbrev words : List ℕ
  words = locked text tables q asks

  took : Took p asks words (locks_for p x (method_of p c k) ++ [])
  took =
      took_locks text tables p rep.fits c k a l has asks (omega (arith, requested_long q)) []
      (holds_alike text tables p rep.fits blank asks [] (λ i g e. requested_zero q i (omega arith) (omega arith) ∙ sym (blank_word i)) (blank_holds p)) kind n x aims

  long : length words ≡ waiting_words
  long = took.long ∙ requested_long q

  abbrev row' : List ℕ
  row' = set (sets row waiting_at words) phase_at 3

  holds_back : Waits text tables p row' m
  holds_back =
      record {
        phase = written_phase row size words long 3;
        class = c;
        place = k;
        argument = a;
        kind = kind;
        number = n;
        target = x;
        known = l;
        has = has;
        aims = aims;
        wants = ap (wanted_in tables) (written_words row size words long 3)
            ∙ requested_is q tables words (λ i e ne. took.kept i ne (λ g f. omega arith))
            ∙ ap (λ (d : ℕ). wanted tables kind n d k a) (class_of_law tables c kind n x aims);
        sends = refl;
        locks = subst (λ (r : List ℕ). Holds p r (locks_for p x (method_of p c k))) (sym (written_words row size words long 3))
            (subst (Holds p words) (append-nil (locks_for p x (method_of p c k))) took.holds);
      }

  -- But for its send, the slot is as it was, and open.
  stays : SlotRep text tables p (settled row') (opened t)
  stays =
      subst (λ (r : List ℕ). OpenRep text tables p r t)
      (sym (settled_waits row' (written_phase row size words long 3) ∙ withdrawn_back row size before.clean.spare words long))
      (record {
        undo = λ j. note_same row (set row phase_at 1) (λ i g e. else_word row phase_at 1 i (omega arith)) j ∙ before.undo j;
        clean = clean_alike row (set row phase_at 1) (λ i g e. else_word row phase_at 1 i (omega arith)) (λ i g e. else_word row phase_at 1 i (omega arith))
            (λ d. omega (arith, d, else_word row phase_at 1 1 (omega arith))) before.clean;
        locks = holds_alike text tables p rep.fits row (set row phase_at 1) t.locks (λ i g e. else_word row phase_at 1 i (omega arith)) before.locks;
        now = subst (NowRep text tables p (set row phase_at 1)) (sym idle) (new_word row phase_at 1 (omega (arith, size)));
      })

  abbrev newcomer : Waiter (service p)
  newcomer = record { slot = s; message = m }

  away : (v : Waiter (service p)) → Memᴰ v w₀.line → v.slot ≢ s
  away = not_waiting lent p w rep s h still

  waits_then : RepAt (with_words lent (with_row ws s row')) p (with_slot (service p) w s (opened t)) (count_in ws) (w₀.line ++ (newcomer ∷ []))
  waits_then =
      altered lent p w₀ rep s h row' lent.values (written_long row size words long 3) refl (opened t) stays (w₀.line ++ (newcomer ∷ []))
      (λ v i. ⊎_elim (λ j. inr (away v j, j)) (λ j. inl (own v (Memᴰ.eq_of_singleton j))) (Memᴰ.append_cases w₀.line i))
      (λ v i ne. Memᴰ.append_left (newcomer ∷ []) i)
      (λ e. (newcomer, Memᴰ.append_right w₀.line (Memᴰ.head refl), refl))
      (once_add (service p) w₀.line newcomer rep.once away)
    where
      own : (v : Waiter (service p)) → v ≡ newcomer → (v.slot ≡ s) × Waits text tables p row' v.message
      own v e = (ap (λ u. u.slot) e, subst (λ (u : Waiter (service p)). Waits text tables p row' u.message) (sym e) holds_back)

  -- The line has a place for it.
  pub room : count_in ws < 8
  room =
      omega (
        arith,
        count_is lent p w rep,
        length-append w₀.line (newcomer ∷ []),
        few_slots p 8 (w₀.line ++ (newcomer ∷ [])) waits_then.once waits_then.below,
      )

  pub joins : Rep (with_words lent (set (with_place (with_row ws s (waiting_row text tables q row)) (count_in ws) s) line_at (suc (count_in ws)))) p (joined (service p) w s m)
  unfolding waiting_row
  joins =
      counted (with_words lent (with_place (with_row ws s row') (count_in ws) s)) p (joined (service p) w s m)
      (placed (with_words lent (with_row ws s row')) p (with_slot (service p) w s (opened t)) waits_then room newcomer) (omega (arith, room))
