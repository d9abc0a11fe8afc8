-- An open slot that does not wait holds a lock: every send that is granted takes one, and locks are "held until commit or abort" (02,
-- Ticket 3).
use Rattle.std.specs.Prelude.{ℕ, ◌<◌, ◌≡◌, refl, ◌⊎◌, Bool, true, false, not, cond, length, eqb, ltb}
use Rattle.std.proofs.Common.{sym, ap, ◌∙◌, subst, inl, inr, ⊎_elim, true≢false, eq-eqb, ne_eqb}
use Rattle.std.proofs.Math.Option.{Option, none, some}
use mathlib.Core.List.Memᴰ
use mathlib.Core.List.{List, [], ◌∷◌, ◌++◌, append_assoc, append-nil, Memᴰ}
use Rattle.model.specs.Base.{put, upto}
use Rattle.model.specs.Vector.{Program}
use Rattle.model.specs.Message.{object, class, domain, Message, in_domain}
use Rattle.model.specs.Lock.{Lock, domain_of, locks_for}
use Rattle.model.specs.Service.{Answer, Slot, closed, opened, Transaction, Waiter, World, fresh, standing, starting, waits, closed_over, without, ended, run_calls}
use Rattle.model.specs.Machine.{Request, to, Call, find, service, call}
use Rattle.laws.specs.Basics.{put_cases}
use Rattle.laws.specs.Lists.{eqb_same, ltb_true, keep_in, in_keep, in_upto, map_in, member_any}
use Rattle.twophase.specs.Order.{sub_in, sub_drop}
use Rattle.twophase.specs.Line.{wake_by}
use Rattle.twophase.specs.Moves.{Move, refused, closes_circle, joins, starts, goes_on, replies, halts, commits, aborts, moves}
use Rattle.theory.specs.CommitOrder.{left}

-- Some lock is in the list.
abbrev pub SomeLock : List Lock → Type 0
SomeLock ks = (k : Lock) × Memᴰ k ks

module _ (p : Program) where
  -- ---- a message takes a lock

  abbrev Takes : Option Message → Type 0
  Takes none = Unit {0}
  Takes (some m) = SomeLock (locks_for p m.target m.method)

  takes_if : (b : Bool) (m : Option Message) → (b ≡ true → Takes m) → Takes (cond b m none)
  takes_if true m h = h refl
  takes_if false m h = tt

  -- A class is in its own domain.
  in_own_domain : (c : ℕ) → c < length p.library.classes → Memᴰ c (domain_of p c)
  unfolding domain_of
  in_own_domain c h =
      keep_in (in_domain p c) (upto (λ d. d) (length p.library.classes)) (in_upto (λ d. d) (length p.library.classes) c h) (rw (eqb_same c))

  find_takes : (q : Request) → Takes (find p q)
  find_takes (to (object o) k a) = takes_if (ltb o (length p.library.objects)) _ (λ e. takes_if (ltb k _) _ (λ f. (_, Memᴰ.head refl)))
  find_takes (to (class c) k a) = takes_if (ltb c (length p.library.classes)) _ (λ e. takes_if (ltb k _) _ (λ f. (_, Memᴰ.head refl)))
  find_takes (to (domain c) k a) =
      takes_if (ltb c (length p.library.classes)) _ (λ e. takes_if (ltb k _) _ (λ f. (_, map_in _ (in_own_domain c (ltb_true c _ e)))))

  found_takes : (q : Request) (m : Message) → find p q ≡ some m → SomeLock (locks_for p m.target m.method)
  found_takes q m e = subst Takes e (find_takes q)

  -- ---- every call

  -- Slot k has a send among these.
  abbrev InLine : List (Waiter (service p)) → ℕ → Type 0
  InLine q k = (v : Waiter (service p)) × Memᴰ v q × (v.slot ≡ k)

  -- A slot k that is open holds a lock, or has a send among these.
  abbrev Holds : List (Waiter (service p)) → ℕ → Slot (service p) → Type 0
  Holds q k closed = Unit {0}
  Holds q k (opened t) = SomeLock t.locks ⊎ InLine q k

  -- Each slot does, and each of these sends takes a lock.
  pub record AllHold (slots : ℕ → Slot (service p)) (q : List (Waiter (service p))) : Type 0 where
    pub slot : (k : ℕ) → Holds q k (slots k)
    pub takes : (v : Waiter (service p)) → Memᴰ v q → SomeLock (locks_for p v.message.target v.message.method)

  -- It depends on the slots that have sends.
  holds_in : (q q' : List (Waiter (service p))) (k : ℕ) (z : Slot (service p)) → (InLine q k → InLine q' k) → Holds q k z → Holds q' k z
  holds_in q q' k closed f h = tt
  holds_in q q' k (opened t) f (inl h) = inl h
  holds_in q q' k (opened t) f (inr h) = inr (f h)

  module _ (slots : ℕ → Slot (service p)) (q : List (Waiter (service p))) (h : AllHold slots q) where
    -- One slot changes.
    put_holds : (s : ℕ) (z : Slot (service p)) → Holds q s z → AllHold (put slots s z) q
    put_holds s z new = record { slot = put_cases (λ k z. Holds q k z) slots s z new (λ k ne. h.slot k); takes = h.takes }

    -- One send starts, the slots of the others keeping theirs.
    start_holds : (q' : List (Waiter (service p))) (s : ℕ) (m : Message) (t : Transaction (service p)) → SomeLock (locks_for p m.target m.method)
        → ((v : Waiter (service p)) → Memᴰ v q' → Memᴰ v q) → ((k : ℕ) → (k ≡ s → ⊥) → InLine q k → InLine q' k)
        → AllHold (put slots s (opened (starting (service p) t m))) q'
    start_holds q' s m t (k, there) part others =
        record {
          slot = put_cases (λ k z. Holds q' k z) slots s (opened (starting (service p) t m)) (inl (k, Memᴰ.append_left _ there))
              (λ k ne. holds_in q q' k (slots k) (others k ne) (h.slot k));
          takes = λ v i. h.takes v (part v i);
        }

  -- A send joins at the end.
  join_holds : (slots : ℕ → Slot (service p)) (q : List (Waiter (service p))) (v : Waiter (service p)) (t : Transaction (service p)) → AllHold slots q
      → SomeLock (locks_for p v.message.target v.message.method) → AllHold (put slots v.slot (opened t)) (q ++ (v ∷ []))
  join_holds slots q v t h take =
      record {
        slot = put_cases (λ k z. Holds (q ++ (v ∷ [])) k z) slots v.slot (opened t) (inr (v, Memᴰ.append_right q (Memᴰ.head refl), refl))
            (λ k ne. holds_in q (q ++ (v ∷ [])) k (slots k) (λ l. (l.0, Memᴰ.append_left (v ∷ []) l.1, l.2)) (h.slot k));
        takes = λ u i. go u (Memᴰ.append_cases q i);
      }
    where
      go : (u : Waiter (service p)) → Memᴰ u q ⊎ Memᴰ u (v ∷ []) → SomeLock (locks_for p u.message.target u.message.method)
      go u (inl i) = h.takes u i
      go u (inr i) = subst (λ z. SomeLock (locks_for p z.message.target z.message.method)) (sym (Memᴰ.eq_of_singleton i)) take

  -- A transaction ends, and others are woken.
  ended_holds : (w : World (service p)) (s : ℕ) (fields : List ℕ) → AllHold w.slots w.line
      → let w' = ended (service p) w s fields in AllHold w'.slots w'.line
  ended_holds w s fields h =
      subst (AllHold _) (append-nil _)
      (wake_by (service p) (λ w vs. AllHold w.slots (w.line ++ vs))
      (λ w v vs k e g. subst (AllHold w.slots) (sym (append_assoc w.line (v ∷ []) vs)) g)
      (λ w v vs e g. start_holds w.slots (w.line ++ (v ∷ vs)) g (w.line ++ vs) v.slot v.message (standing (service p) (w.slots v.slot))
      (g.takes v (Memᴰ.append_right w.line (Memᴰ.head refl))) (λ u i. sub_in (sub_drop w.line v vs) i) (λ k ne l. left_in w v vs k ne l))
      (without (service p) s w.line) (closed_over (service p) w s fields) begin)
    where
      -- A slot other than that of a send stays in the line without the send.
      left_in : (w : World (service p)) (v : Waiter (service p)) (vs : List (Waiter (service p))) (k : ℕ) → (k ≡ v.slot → ⊥)
          → InLine (w.line ++ (v ∷ vs)) k → InLine (w.line ++ vs) k
      left_in w v vs k ne (u, i, e) = (u, ⊎_elim (λ j. Memᴰ.append_left vs j) (λ j. Memᴰ.append_right w.line (behind (Memᴰ.cases_cons j))) (Memᴰ.append_cases w.line i), e)
        where
          behind : (u ≡ v) ⊎ Memᴰ u vs → Memᴰ u vs
          behind (inl q) = absurd (ne (sym e ∙ ap (λ z. z.slot) q))
          behind (inr j) = j

      kept : (k : ℕ) → (k ≡ s → ⊥) → InLine w.line k → InLine (without (service p) s w.line) k
      kept k ne (v, i, e) = (v, keep_in (λ v. not (eqb v.slot s)) w.line i (ap not (ne_eqb v.slot s (λ q. ne (sym e ∙ q)))), e)

      begin : AllHold (put w.slots s closed) (without (service p) s w.line)
      begin =
          record {
            slot = put_cases (λ k z. Holds (without (service p) s w.line) k z) w.slots s closed tt
                (λ k ne. holds_in w.line _ k (w.slots k) (kept k ne) (h.slot k));
            takes = λ v i. h.takes v (in_keep (λ v. not (eqb v.slot s)) w.line i).0;
          }

  move_holds : (w : World (service p)) → AllHold w.slots w.line → {c : Call} {y : Answer × World (service p)} → Move (service p) w c y
      → AllHold y.1.slots y.1.line
  move_holds w h (refused c n g l) = h
  move_holds w h (closes_circle s q m k a e o b) = h
  move_holds w h (joins s q m k a e o b) =
      join_holds w.slots w.line (record { slot = s; message = m }) (standing (service p) (w.slots s)) h (found_takes q m a.found)
  move_holds w h (starts s q m a e) =
      start_holds w.slots w.line h w.line s m (standing (service p) (w.slots s)) (found_takes q m a.found) (λ v i. i) (λ k ne l. l)
  move_holds w h (goes_on s t r r' e a v) = put_holds w.slots w.line h s _ (subst (Holds w.line s) a.is_open (h.slot s))
  move_holds w h (replies s t r n e a v) = put_holds w.slots w.line h s _ (subst (Holds w.line s) a.is_open (h.slot s))
  move_holds w h (halts s t r a v) = ended_holds w s _ h
  move_holds w h (commits s t below o still n) = ended_holds w s _ h
  move_holds w h (aborts s t below o) = ended_holds w s _ h

  run_holds : (w : World (service p)) → AllHold w.slots w.line → (cs : List Call)
      → let w' = (run_calls (service p) w cs).1 in AllHold w'.slots w'.line
  unfolding run_calls
  run_holds w h [] = h
  run_holds w h (c ∷ cs) = run_holds (call p w c).1 (move_holds w h (moves (service p) w c)) cs

  -- After any list of calls made after a start on any values, each open slot that does not wait holds a lock.
  pub open_holds : (values : List ℕ) (cs : List Call) (s : ℕ) (t : Transaction (service p)) → let w = left p values cs in
      w.slots s ≡ opened t → waits (service p) w.line s ≡ false → SomeLock t.locks
  open_holds values cs s t e still = go (subst (Holds (left p values cs).line s) e (all.slot s))
    where
      all : AllHold (left p values cs).slots (left p values cs).line
      all = run_holds (fresh (service p) values) (record { slot = λ k. tt; takes = λ v i. absurd (Memᴰ.not-nil i) }) cs

      go : SomeLock t.locks ⊎ InLine (left p values cs).line s → SomeLock t.locks
      go (inl h) = h
      go (inr (v, i, q)) = absurd (true≢false (sym (member_any (λ v. eqb v.slot s) i (eq-eqb v.slot s q)) ∙ still))
