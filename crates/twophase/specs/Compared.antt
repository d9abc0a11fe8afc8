-- Which answers demand 3 compares: all that committed transactions got, in commit order (01, "The plain course": "each answer in a
-- slot's list at its commit").
use Rattle.std.specs.Prelude.{ℕ, ◌≡◌, refl, ◌⊎◌, Bool, true, false, cond, eqb}
use Rattle.std.proofs.Common.{sym, ◌∙◌, subst, inl, inr, ne_eqb}
use Rattle.std.proofs.Math.Path.{ap}
use Rattle.std.proofs.Math.Option.{Option, none, some}
use mathlib.Core.List.Memᴰ
use mathlib.Core.List.{List, [], ◌∷◌, ◌++◌, map, append-nil, append_assoc, map-append, Memᴰ}
use Rattle.model.specs.Base.{put}
use Rattle.model.specs.Service.{Service, Call, send, step, commit, abort, Answer, done, going, answer, refuse, held, stopped, Transaction, Slot, closed, opened, Waiter, World, fresh, slot_of, started, obstacle, queued, wake, closed_over, without, ended, call, run_calls, Answered, Sends, Course, no_sends, start_course, compared_in, named, add_answer, fed, fed_all}
use Rattle.laws.specs.Basics.{put_same, put_other, at_or}
use Rattle.laws.specs.Lists.{eqb_same}
use Rattle.twophase.specs.Order.{sub_in, sub_keep}
use Rattle.twophase.specs.Moves.{Move, refused, closes_circle, joins, starts, goes_on, replies, halts, commits, aborts, moves}
use Rattle.twophase.specs.Line.{open_closed, without_away, wake_by}
use Rattle.twophase.specs.Waiting.{ended_by}

module _ (𝓢 : Service) where
  open 𝓢 use {Fields, Request, Message, find}

  -- ---- what transactions got, by the calls and their answers alone

  -- "A step answers "going" or the message's answer."
  abbrev message_answer : Answer → List ℕ
  message_answer done = []
  message_answer going = []
  message_answer (answer v) = v ∷ []
  message_answer (refuse n) = []
  message_answer (held k) = []
  message_answer stopped = []

  -- The message's answer that a call gives, if any.
  abbrev pub gives : Call Request → Answer → List ℕ
  gives (send s q) a = []
  gives (step s) a = message_answer a
  gives (commit s) a = []
  gives (abort s) a = []

  -- The messages' answers that slot s got since it last closed, in order. `earlier` are the calls so far with their answers, the latest first.
  abbrev pub got_by : ℕ → List (Call Request × Answer) → List ℕ
  got_by s [] = []
  got_by s (y ∷ earlier) =
      let before = got_by s earlier in
      cond (eqb (slot_of 𝓢 y.0) s) (cond (ended_by 𝓢 y.0 y.1) [] (before ++ gives y.0 y.1)) before

  -- Those of the transaction that a call commits.
  abbrev pub commits_with : List (Call Request × Answer) → Call Request → Answer → List ℕ
  commits_with earlier (send s q) a = []
  commits_with earlier (step s) a = []
  commits_with earlier (commit s) a = cond (ended_by 𝓢 (commit s) a) (got_by s earlier) []
  commits_with earlier (abort s) a = []

  -- Those of the transactions that a list of calls commits, after `earlier` ones: "commit order is the order of these calls".
  abbrev pub committed_answers : List (Call Request × Answer) → List (Call Request) → List Answer → List ℕ
  committed_answers earlier [] answers = []
  committed_answers earlier (c ∷ cs) [] = []
  committed_answers earlier (c ∷ cs) (a ∷ answers) = commits_with earlier c a ++ committed_answers ((c, a) ∷ earlier) cs answers

  -- The calls of a list with their answers, the latest first, before `earlier` ones.
  abbrev pub history : List (Call Request × Answer) → List (Call Request) → List Answer → List (Call Request × Answer)
  history earlier [] answers = earlier
  history earlier (c ∷ cs) [] = earlier
  history earlier (c ∷ cs) (a ∷ answers) = history ((c, a) ∷ earlier) cs answers

  -- ---- the slots' lists in the course

  -- The answers in a slot's list.
  abbrev listed : Sends 𝓢 → List ℕ
  listed l = map (λ y. y.answer) l.list

  -- A list's answers are those compared, whatever it is run on.
  pub compared_listed : (l : List (Answered 𝓢)) (F : Fields) → map (λ y. y.got) (compared_in 𝓢 l F) ≡ map (λ y. y.answer) l
  compared_listed [] F = refl
  compared_listed (y ∷ ys) F = ap (λ (l : List ℕ). y.answer ∷ l) (compared_listed ys _)

  -- The slot has a latest send.
  abbrev Named : (ℕ → Sends 𝓢) → ℕ → Type 0
  Named sends s = (m : Message) × ((sends s).latest ≡ some m)

  -- Each slot that is open, waits, or is about to be woken has a latest send.
  record AllNamed (sends : ℕ → Sends 𝓢) (w : World 𝓢) (vs : List (Waiter 𝓢)) : Type 0 where
    is_open : (s : ℕ) (y : Transaction 𝓢) → w.slots s ≡ opened y → Named sends s
    in_line : (v : Waiter 𝓢) → Memᴰ v w.line → Named sends v.slot
    to_wake : (v : Waiter 𝓢) → Memᴰ v vs → Named sends v.slot

  -- Each slot's list holds the answers that it got.
  record Heard (w : World 𝓢) (x : Course 𝓢) (earlier : List (Call Request × Answer)) : Type 0 where
    lists : (s : ℕ) → listed (x.slots s) ≡ got_by s earlier
    named : AllNamed x.slots w []

  -- A call that gives no message's answer and ends nothing leaves what each slot got.
  got_same : (earlier : List (Call Request × Answer)) (c : Call Request) (a : Answer) → ended_by 𝓢 c a ≡ false → gives c a ≡ []
      → (k : ℕ) → got_by k ((c, a) ∷ earlier) ≡ got_by k earlier
  got_same earlier c a n g k = go (eqb (slot_of 𝓢 c) k) (ended_by 𝓢 c a) (gives c a) n g
    where
      go : (b e : Bool) (l : List ℕ) → e ≡ false → l ≡ [] → cond b (cond e [] (got_by k earlier ++ l)) (got_by k earlier) ≡ got_by k earlier
      go true e l n g = rw (n, g) (append-nil (got_by k earlier))
      go false e l n g = refl

  -- A call of slot s changes that slot's list alone.
  lists_put : (earlier : List (Call Request × Answer)) (sends : ℕ → Sends 𝓢) (c : Call Request) (a : Answer) (l : Sends 𝓢)
      → ((k : ℕ) → listed (sends k) ≡ got_by k earlier) → listed l ≡ cond (ended_by 𝓢 c a) [] (got_by (slot_of 𝓢 c) earlier ++ gives c a)
      → (k : ℕ) → listed (put sends (slot_of 𝓢 c) l k) ≡ got_by k ((c, a) ∷ earlier)
  lists_put earlier sends c a l h e =
      let s = slot_of 𝓢 c in
      at_or (λ k. listed (put sends s l k) ≡ got_by k ((c, a) ∷ earlier)) s
      (ap listed (put_same sends s l) ∙ e ∙ sym (ap (λ b. cond b (cond (ended_by 𝓢 c a) [] (got_by s earlier ++ gives c a)) (got_by s earlier)) (eqb_same s)))
      (λ k ne. ap listed (put_other sends s l k ne) ∙ h k
      ∙ sym (ap (λ b. cond b (cond (ended_by 𝓢 c a) [] (got_by k earlier ++ gives c a)) (got_by k earlier)) (ne_eqb s k (λ q. ne (sym q)))))

  -- ---- the latest sends

  named_here : (sends : ℕ → Sends 𝓢) (s : ℕ) (l : Sends 𝓢) (m : Message) → l.latest ≡ some m → Named (put sends s l) s
  named_here sends s l m e = (m, ap (λ z. z.latest) (put_same sends s l) ∙ e)

  named_else : (sends : ℕ → Sends 𝓢) (s : ℕ) (l : Sends 𝓢) (k : ℕ) → (k ≡ s → ⊥) → Named sends k → Named (put sends s l) k
  named_else sends s l k ne (m, e) = (m, ap (λ z. z.latest) (put_other sends s l k ne) ∙ e)

  named_put : (sends : ℕ → Sends 𝓢) (s : ℕ) (l : Sends 𝓢) (m : Message) → l.latest ≡ some m → (k : ℕ) → Named sends k → Named (put sends s l) k
  named_put sends s l m e = at_or (λ k. Named sends k → Named (put sends s l) k) s (λ h. named_here sends s l m e) (λ k ne h. named_else sends s l k ne h)

  -- One slot opens or closes, and has a latest send.
  open_put : (w : World 𝓢) (sends : ℕ → Sends 𝓢) (s : ℕ) (z : Slot 𝓢) → ((y : Transaction 𝓢) → z ≡ opened y → Named sends s)
      → ((k : ℕ) (y : Transaction 𝓢) → (k ≡ s → ⊥) → w.slots k ≡ opened y → Named sends k)
      → (k : ℕ) (y : Transaction 𝓢) → put w.slots s z k ≡ opened y → Named sends k
  open_put w sends s z here others =
      at_or (λ k. (y : Transaction 𝓢) → put w.slots s z k ≡ opened y → Named sends k) s (λ y e. here y (sym (put_same w.slots s z) ∙ e))
      (λ k ne y e. others k y ne (sym (put_other w.slots s z k ne) ∙ e))

  none_to_wake : (sends : ℕ → Sends 𝓢) (v : Waiter 𝓢) → Memᴰ v [] → Named sends v.slot
  none_to_wake sends v i = absurd (Memᴰ.not-nil i)

  -- Waking opens slots of the line alone.
  wake_named : (sends : ℕ → Sends 𝓢) (vs : List (Waiter 𝓢)) (w : World 𝓢) → AllNamed sends w vs → AllNamed sends (wake 𝓢 w vs) []
  wake_named sends = wake_by 𝓢 (AllNamed sends) stay start
    where
      stay : (w : World 𝓢) (v : Waiter 𝓢) (vs : List (Waiter 𝓢)) (k : ℕ) → obstacle 𝓢 w v.slot v.message ≡ some k → AllNamed sends w (v ∷ vs)
          → AllNamed sends (queued 𝓢 w v) vs
      stay w v vs k e h =
          record { is_open = h.is_open; in_line = λ u i. go u (Memᴰ.append_cases w.line i); to_wake = λ u i. h.to_wake u (Memᴰ.tail i) }
        where
          go : (u : Waiter 𝓢) → Memᴰ u w.line ⊎ Memᴰ u (v ∷ []) → Named sends u.slot
          go u (inl i) = h.in_line u i
          go u (inr i) = h.to_wake u (Memᴰ.head (Memᴰ.eq_of_singleton i))

      start : (w : World 𝓢) (v : Waiter 𝓢) (vs : List (Waiter 𝓢)) → obstacle 𝓢 w v.slot v.message ≡ none → AllNamed sends w (v ∷ vs)
          → AllNamed sends (started 𝓢 w v.slot v.message) vs
      start w v vs e h =
          record {
            is_open = open_put w sends v.slot _ (λ y q. h.to_wake v (Memᴰ.head refl)) (λ k y ne q. h.is_open k y q);
            in_line = h.in_line;
            to_wake = λ u i. h.to_wake u (Memᴰ.tail i);
          }

  module _ (w : World 𝓢) (x : Course 𝓢) (earlier : List (Call Request × Answer)) (h : Heard w x earlier) where
    -- The end of slot s's transaction: its sends are none.
    ended_named : (s : ℕ) (F : Fields) → AllNamed (put x.slots s (no_sends 𝓢)) (ended 𝓢 w s F) []
    ended_named s F =
        wake_named (put x.slots s (no_sends 𝓢)) (without 𝓢 s w.line) (closed_over 𝓢 w s F)
        (record {
          is_open = open_put w (put x.slots s (no_sends 𝓢)) s closed (λ y q. absurd (open_closed 𝓢 y (sym q)))
              (λ k y ne q. named_else x.slots s (no_sends 𝓢) k ne (h.named.is_open k y q));
          in_line = none_to_wake (put x.slots s (no_sends 𝓢));
          to_wake = λ v i. named_else x.slots s (no_sends 𝓢) v.slot (without_away 𝓢 s w.line v i) (h.named.in_line v (sub_in (sub_keep _ w.line) i));
        })

    -- What a call leaves, with what it compares.
    abbrev Then : Call Request → Answer → World 𝓢 → Course 𝓢 → Type 0
    Then c a w' x' = Heard w' x' ((c, a) ∷ earlier) × (map (λ y. y.got) x'.compared ≡ map (λ y. y.got) x.compared ++ commits_with earlier c a)

    none_compared : map (λ y. y.got) x.compared ≡ map (λ y. y.got) x.compared ++ []
    none_compared = sym (append-nil (map (λ y. y.got) x.compared))

    -- The call ends nothing and gives no message's answer.
    still : (c : Call Request) (a : Answer) → ended_by 𝓢 c a ≡ false → gives c a ≡ [] → (k : ℕ) → listed (x.slots k) ≡ got_by k ((c, a) ∷ earlier)
    still c a n g k = h.lists k ∙ sym (got_same earlier c a n g k)

    refused_then : (c : Call Request) (n : ℕ) → Then c (refuse n) w (fed 𝓢 x c (refuse n))
    refused_then (send s q) n = (record { lists = still (send s q) (refuse n) refl refl; named = h.named }, none_compared)
    refused_then (step s) n = (record { lists = still (step s) (refuse n) refl refl; named = h.named }, none_compared)
    refused_then (commit s) n = (record { lists = still (commit s) (refuse n) refl refl; named = h.named }, none_compared)
    refused_then (abort s) n = (record { lists = still (abort s) (refuse n) refl refl; named = h.named }, none_compared)

    -- The machine with slot s open, and with these fields and line.
    abbrev opened_with : ℕ → Transaction 𝓢 → Fields → List (Waiter 𝓢) → World 𝓢
    opened_with s t F line = record { fields = F; slots = put w.slots s (opened t); line = line }

    -- The slot is open, and these are its sends.
    opened_named : (s : ℕ) (t : Transaction 𝓢) (l : Sends 𝓢) (m : Message) → l.latest ≡ some m → (F : Fields) (line : List (Waiter 𝓢))
        → ((v : Waiter 𝓢) → Memᴰ v line → Named (put x.slots s l) v.slot)
        → AllNamed (put x.slots s l) (opened_with s t F line) []
    opened_named s t l m e F line n =
        record {
          is_open = open_put w (put x.slots s l) s (opened t) (λ y q. named_here x.slots s l m e)
              (λ k y ne q. named_else x.slots s l k ne (h.named.is_open k y q));
          in_line = n;
          to_wake = none_to_wake (put x.slots s l);
        }

    -- A send that becomes its slot's latest.
    taken_then : (s : ℕ) (q : Request) (m : Message) (a : Answer) (t : Transaction 𝓢) (line : List (Waiter 𝓢))
        → ((v : Waiter 𝓢) → Memᴰ v line → Memᴰ v w.line ⊎ (v.slot ≡ s)) → (o : Option Message) → o ≡ some m
        → Then (send s q) a (opened_with s t w.fields line) (named 𝓢 x s o)
    taken_then s q m a t line from o e = subst (λ o. Then (send s q) a (opened_with s t w.fields line) (named 𝓢 x s o)) (sym e) now
      where
        l : Sends 𝓢
        l = record { latest = some m; list = (x.slots s).list }

        in_line : (v : Waiter 𝓢) → Memᴰ v w.line ⊎ (v.slot ≡ s) → Named (put x.slots s l) v.slot
        in_line v (inl i) = named_put x.slots s l m refl v.slot (h.named.in_line v i)
        in_line v (inr e) = subst (Named (put x.slots s l)) (sym e) (named_here x.slots s l m refl)

        now : Then (send s q) a (opened_with s t w.fields line) (named 𝓢 x s (some m))
        now = (
          record {
            lists = lists_put earlier x.slots (send s q) a l h.lists (h.lists s ∙ sym (append-nil (got_by s earlier)));
            named = opened_named s t l m refl w.fields line (λ v i. in_line v (from v i));
          },
          none_compared,
        )

    -- A step that gives the message's answer.
    answered_then : (s : ℕ) (t : Transaction 𝓢) (F : Fields) (v : ℕ) → Named x.slots s
        → Then (step s) (answer v) (opened_with s t F w.line) (add_answer 𝓢 x s v (x.slots s).latest)
    answered_then s t F v (m, e) = subst (λ o. Then (step s) (answer v) (opened_with s t F w.line) (add_answer 𝓢 x s v o)) (sym e) now
      where
        l : Sends 𝓢
        l = record { latest = some m; list = (x.slots s).list ++ (record { message = m; answer = v } ∷ []) }

        now : Then (step s) (answer v) (opened_with s t F w.line) (add_answer 𝓢 x s v (some m))
        now = (
          record {
            lists = lists_put earlier x.slots (step s) (answer v) l h.lists
                (map-append (λ y. y.answer) (x.slots s).list _ ∙ ap (λ (z : List ℕ). z ++ (v ∷ [])) (h.lists s));
            named = opened_named s t l m refl F w.line (λ v i. named_put x.slots s l m refl v.slot (h.named.in_line v i));
          },
          none_compared,
        )

    -- A call leaves each slot's list with the answers that it got, and compares those of the transaction that it commits.
    move_then : {c : Call Request} {y : Answer × World 𝓢} → Move 𝓢 w c y → Then c y.0 y.1 (fed 𝓢 x c y.0)
    move_then (refused c n g l) = refused_then c n
    move_then (closes_circle s q m k a e o b) = refused_then (send s q) 42
    move_then (joins s q m k a e o b) = taken_then s q m (held k) _ _ (λ v i. last v (Memᴰ.append_cases w.line i)) (find q) a.found
      where
        last : (v : Waiter 𝓢) → Memᴰ v w.line ⊎ Memᴰ v (record { slot = s; message = m } ∷ []) → Memᴰ v w.line ⊎ (v.slot ≡ s)
        last v (inl i) = inl i
        last v (inr i) = inr (ap (λ z. z.slot) (Memᴰ.eq_of_singleton i))
    move_then (starts s q m a o) = taken_then s q m done _ w.line (λ v i. inl i) (find q) a.found
    move_then (goes_on s y r r' e a t) = (
      record {
        lists = still (step s) going refl refl;
        named = record {
          is_open = open_put w x.slots s _ (λ z q. h.named.is_open s y a.is_open) (λ k z ne q. h.named.is_open k z q);
          in_line = h.named.in_line;
          to_wake = none_to_wake x.slots;
        };
      },
      none_compared,
    )
    move_then (replies s y r v e a t) = answered_then s _ _ v (h.named.is_open s y a.is_open)
    move_then (halts s y r a t) =
        (record { lists = lists_put earlier x.slots (step s) stopped (no_sends 𝓢) h.lists refl; named = ended_named s _ }, none_compared)
    move_then (commits s y below o running n) = (
      record { lists = lists_put earlier x.slots (commit s) done (no_sends 𝓢) h.lists refl; named = ended_named s _ },
      map-append (λ y. y.got) x.compared (compared_in 𝓢 (x.slots s).list x.fields)
          ∙ ap (λ (l : List ℕ). map (λ y. y.got) x.compared ++ l) (compared_listed (x.slots s).list x.fields ∙ h.lists s),
    )
    move_then (aborts s y below o) =
        (record { lists = lists_put earlier x.slots (abort s) done (no_sends 𝓢) h.lists refl; named = ended_named s _ }, none_compared)

  -- ---- any list of calls

  -- The machine's answers, and the course fed them.
  abbrev pub answers_to : Fields → List (Call Request) → List Answer
  answers_to F cs = (run_calls 𝓢 (fresh 𝓢 F) cs).0

  abbrev pub fed_with : Fields → List (Call Request) → Course 𝓢
  fed_with F cs = fed_all 𝓢 (start_course 𝓢 F) cs (answers_to F cs)

  -- The answers compared at commits are those that committed transactions got, in commit order; and those compared of an open
  -- transaction (02, Ticket 4) are those that it got so far.
  pub record Compares (F : Fields) (cs : List (Call Request)) : Type 0 where
    pub committed : map (λ y. y.got) (fed_with F cs).compared ≡ committed_answers [] cs (answers_to F cs)
    pub so_far : (s : ℕ) (G : Fields) → map (λ y. y.got) (compared_in 𝓢 ((fed_with F cs).slots s).list G) ≡ got_by s (history [] cs (answers_to F cs))

  all_then : (cs : List (Call Request)) (w : World 𝓢) (x : Course 𝓢) (earlier : List (Call Request × Answer)) → Heard w x earlier
      → let answers = (run_calls 𝓢 w cs).0 in
      (map (λ y. y.got) (fed_all 𝓢 x cs answers).compared ≡ map (λ y. y.got) x.compared ++ committed_answers earlier cs answers)
      × ((s : ℕ) → listed ((fed_all 𝓢 x cs answers).slots s) ≡ got_by s (history earlier cs answers))
  unfolding run_calls fed_all
  all_then [] w x earlier h = (none_compared w x earlier h, h.lists)
  all_then (c ∷ cs) w x earlier h =
      let (a, w') = call 𝓢 w c in
      let one = move_then w x earlier h (moves 𝓢 w c) in
      let rest = all_then cs w' (fed 𝓢 x c a) ((c, a) ∷ earlier) one.0 in (
        rest.0 ∙ ap (λ (l : List ℕ). l ++ committed_answers ((c, a) ∷ earlier) cs (run_calls 𝓢 w' cs).0) one.1
            ∙ append_assoc (map (λ y. y.got) x.compared) (commits_with earlier c a) _,
        rest.1,
      )

  -- After any list of calls, with the machine's answers.
  pub all_compared : (F : Fields) (cs : List (Call Request)) → Compares F cs
  all_compared F cs =
      let h = all_then cs (fresh 𝓢 F) (start_course 𝓢 F) [] (record {
        lists = λ s. refl;
        named = record {
          is_open = λ s y e. absurd (open_closed 𝓢 y (sym e));
          in_line = none_to_wake (λ s. no_sends 𝓢);
          to_wake = none_to_wake (λ s. no_sends 𝓢);
        };
      }) in
      record { committed = h.0; so_far = λ s G. compared_listed ((fed_with F cs).slots s).list G ∙ h.1 s }
