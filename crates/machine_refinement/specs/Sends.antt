-- A send: 36, 40 with a place in the line, or its locks and its message's start, over the words and in the model.
use Rattle.std.specs.Prelude.{ℕ, ◌<◌, ◌≡◌, ◌≢◌, Bool, true, false, cond, List, leb, ltb}
use Rattle.std.proofs.Common.{arith, sym, ap, ◌∙◌, leb-true, leb-false, ltb-true, lt-ltb, le-ltb}
use Rattle.std.proofs.Math.Path.{refl, subst}
use Rattle.std.proofs.Math.Option.{Option, none, some}
use Rattle.std.proofs.Math.ListN.{length, length-map}
use Rattle.std.proofs.lemmas.Bool.{lt-leb}
use Rattle.layout.specs.Layout.{object_class_at}
use Rattle.model.specs.Library.{class_at, method_names}
use Rattle.model.specs.Vector.{Program}
use Rattle.model.specs.Message.{Target, object, class, domain, Message}
use Rattle.model.specs.Message as Model
use Rattle.model.specs.Lock.{locks_for, locks_held}
use Rattle.model.specs.Service.{done, opened, Transaction, World, with_fields, standing, starting, started, obstacle, joined, in_circle, admitted, arrived, granted, sent}
use Rattle.model.specs.Machine.{service, method_at, Request, to, find}
use Rattle.catalog.specs.View.{object_word, class_count, object_count, member_count}
use Rattle.machine_words.specs.Request.{Wanted, locked, First, on, past, nowhere, first_of, entered, wanted}
use Rattle.machine_words.specs.Line.{count_in, closes_circle}
use Rattle.machine_words.specs.Calls.{Lent, After, refused, tables_of, row_of, phase_of, started_at, started_or, joined_at, arrived_or, granted_or, sent_to, sent_by}
use Rattle.machine_words.specs.Calls as Words
use Rattle.machine_refinement.specs.Rep.{SlotRep, method_of, Aims, one, each, whole, message_for, Rep}
use Rattle.machine_refinement.specs.Tables.{class_total, object_total, method_total, class_is}
use Rattle.machine_refinement.specs.OwnLocks.{none_lacks, owns_is}
use Rattle.machine_refinement.specs.Starts.{There}
use Rattle.machine_refinement.specs.WaitRows.{settled_ready}
use Rattle.machine_refinement.specs.State.{row_size, StandingRep, slot_stands, moved_rep}
use Rattle.machine_refinement.specs.Obstacles.{obstacle_is}
use Rattle.machine_refinement.specs.Begins.{begins}
use Rattle.machine_refinement.specs.Circles.{closes_is}
use Rattle.machine_refinement.specs.Joins.{room, joins}
use Rattle.machine_refinement.specs.Transitions.{Follows}

-- A message that starts somewhere is started.
started_there : (lent : Lent) (s : ℕ) (q : Wanted) (f : First) → There f → started_or lent s q f ≡ started_at lent s q f
started_there lent s q (on o first end) h = refl
started_there lent s q (past o) h = refl
started_there lent s q nowhere h = absurd h

module _ (lent : Lent) (p : Program) (w₀ : World (service p)) (rep : Rep lent p (with_fields (service p) w₀ lent.values))
    (s : ℕ) (h : s < 8) (idle : (standing (service p) (w₀.slots s)).running ≡ none) (still : phase_of (row_of lent.words s) ≢ 3) where
  abbrev text : List ℕ
  text = lent.text

  abbrev ws : List ℕ
  ws = lent.words

  abbrev w : World (service p)
  w = with_fields (service p) w₀ lent.values

  abbrev tables : List ℕ
  tables = tables_of ws

  abbrev row : List ℕ
  row = row_of ws s

  -- The transaction that the send belongs to.
  abbrev t : Transaction (service p)
  t = standing (service p) (w₀.slots s)

  before : StandingRep p row t
  before = slot_stands text tables p row (w₀.slots s)
      (subst (λ (r : List ℕ). SlotRep text tables p r (w₀.slots s)) (settled_ready row still) (rep.slots s h))

  -- ---- a send whose target and method exist

  module _ (c k a : ℕ) (l : c < class_count tables) (has : k < member_count tables c 1) (kind n : ℕ) (x : Target) (aims : Aims tables c kind n x) where
    abbrev q : Wanted
    q = wanted tables kind n c k a

    abbrev m : Message
    m = message_for p x c k a

    -- The row with its locks and the message's start.
    begins_now : Follows p (started_or lent s q (first_of text tables q)) (done, started (service p) w s m)
    begins_now =
        let begun = begins text tables p rep.fits c k a l has kind n x aims row (row_size lent p w rep s h) t before in
        let two = begun.phase in
        let f = first_of text tables q in
        subst (λ (y : After). Follows p y (done, started (service p) w s m)) (sym (started_there lent s q f begun.there)) (
          refl,
          moved_rep lent p w₀ rep s h (entered q f (locked text tables q row)) lent.values begun.long refl (opened (starting (service p) t m)) still
              (λ e. omega (arith, two, e)) begun.is_open,
        )

    -- A send that needs a new lock.
    arrives : (o : Option ℕ) → Follows p (arrived_or lent s q o) (arrived (service p) w s m o)
    arrives none = begins_now
    arrives (some u) =
        subst (λ (y : After). Follows p y (arrived (service p) w s m (some u)))
        (ap (λ (b : Bool). cond b (refused lent 24) (cond (closes_circle text ws s q) (refused lent 42) (joined_at lent s q u)))
        (sym (lt-leb 8 (count_in ws) (room lent p w₀ rep s h idle still c k a l has kind n x aims))))
        (subst (λ (b : Bool). Follows p (cond b (refused lent 42) (joined_at lent s q u)) (arrived (service p) w s m (some u)))
        (sym (closes_is lent p w rep s h c k a l has kind n x aims)) (joins_or (in_circle (service p) (joined (service p) w s m) s)))
      where
        joins_or : (b : Bool) → Follows p (cond b (refused lent 42) (joined_at lent s q u)) (admitted (service p) w s m u b)
        joins_or true = (refl, rep)
        joins_or false = (refl, joins lent p w₀ rep s h idle still c k a l has kind n x aims)

    grants : (b : Bool) → Follows p (granted_or lent s q b) (granted (service p) w s m b)
    grants true = begins_now
    grants false =
        subst (λ (o : Option ℕ). Follows p (arrived_or lent s q o) (granted (service p) w s m false))
        (sym (obstacle_is lent p w rep (λ v i. i) c k a l has kind n x aims s)) (arrives (obstacle (service p) w s m))

    sends : Follows p (Words.granted lent s q) (sent (service p) w s (some m))
    unfolding Words.granted
    sends =
        subst (λ (b : Bool). Follows p (granted_or lent s q b) (sent (service p) w s (some m)))
        (sym (owns_is text tables p rep.fits c k a l has row t.locks before.locks kind n x aims))
        (grants (locks_held (locks_for p x (method_of p c k)) t.locks))

  -- ---- a send to a target that exists

  sends_to : (c k a : ℕ) → c < class_count tables → (kind n : ℕ) (x : Target) → Aims tables c kind n x
      → Follows p (sent_to lent s kind n c k a) (sent (service p) w s (method_at p x c k a))
  unfolding sent_to
  sends_to c k a l kind n x aims = go (leb (member_count tables c 1) k) refl
    where
      names : length (method_names p.library c) ≡ member_count tables c 1
      names = length-map (class_at p.library c).methods (λ z. z.name) ∙ method_total text tables p rep.fits c l

      known : leb (class_count tables) c ≡ false
      known = lt-leb (class_count tables) c l

      go : (b : Bool) → leb (member_count tables c 1) k ≡ b → Follows p (sent_to lent s kind n c k a) (sent (service p) w s (method_at p x c k a))
      go true e =
          let f : ltb k (length (method_names p.library c)) ≡ false = le-ltb k (length (method_names p.library c))
          (omega (arith, leb-true (member_count tables c 1) k e, names)) in
          rw (known, e, f) (refl, rep)
      go false e =
          let has = leb-false (member_count tables c 1) k e in
          let f : ltb k (length (method_names p.library c)) ≡ true = lt-ltb k (length (method_names p.library c)) (omega (arith, names)) in
          rw (known, e, none_lacks text tables p rep.fits c k a l has kind n x aims, f) (sends c k a l has kind n x aims)

  -- A send, whatever it names.
  pub sends_by : (q : Request) → Follows p (sent_by lent s q) (sent (service p) w s (find p q))
  sends_by (to (object o) k a) =
      subst (λ (i : ℕ). Follows p (sent_by lent s (to (object o) k a))
      (sent (service p) w s (cond (ltb o i) (method_at p (object o) (Model.class_of p o) k a) none)))
      (sym (object_total text tables p rep.fits)) (go (ltb o (object_count tables)) refl)
    where
      go : (b : Bool) → ltb o (object_count tables) ≡ b
          → Follows p (cond b (sent_to lent s 0 o (object_word tables o object_class_at) k a) (refused lent 36))
          (sent (service p) w s (cond b (method_at p (object o) (Model.class_of p o) k a) none))
      go true e =
          let l = ltb-true o (object_count tables) e in
          subst (λ (c : ℕ). Follows p (sent_to lent s 0 o (object_word tables o object_class_at) k a) (sent (service p) w s (method_at p (object o) c k a)))
          (sym (class_is text tables p rep.fits o l)) (sends_to (object_word tables o object_class_at) k a (rep.fits.known o l) 0 o (object o) (one o l refl))
      go false e = (refl, rep)
  sends_by (to (class c) k a) =
      subst (λ (i : ℕ). Follows p (sent_by lent s (to (class c) k a)) (sent (service p) w s (cond (ltb c i) (method_at p (class c) c k a) none)))
      (sym (class_total text tables p rep.fits)) (go (ltb c (class_count tables)) refl)
    where
      go : (b : Bool) → ltb c (class_count tables) ≡ b
          → Follows p (cond b (sent_to lent s 1 c c k a) (refused lent 36)) (sent (service p) w s (cond b (method_at p (class c) c k a) none))
      go true e = sends_to c k a (ltb-true c (class_count tables) e) 1 c (class c) each
      go false e = (refl, rep)
  sends_by (to (domain c) k a) =
      subst (λ (i : ℕ). Follows p (sent_by lent s (to (domain c) k a)) (sent (service p) w s (cond (ltb c i) (method_at p (domain c) c k a) none)))
      (sym (class_total text tables p rep.fits)) (go (ltb c (class_count tables)) refl)
    where
      go : (b : Bool) → ltb c (class_count tables) ≡ b
          → Follows p (cond b (sent_to lent s 2 c c k a) (refused lent 36)) (sent (service p) w s (cond b (method_at p (domain c) c k a) none))
      go true e = sends_to c k a (ltb-true c (class_count tables) e) 2 c (domain c) whole
      go false e = (refl, rep)
