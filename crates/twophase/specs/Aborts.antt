-- Open slots aborted one after another, in any order: each is closed after it, no other slot opens, though some may wake, and the
-- course's fields stay.
use Rattle.std.specs.Prelude.{ℕ, ◌<◌, ◌≡◌, ◌⊎◌, Bool, true, false, length, ltb}
use Rattle.std.proofs.Common.{arith, sym, ap, ◌∙◌, subst, inl, inr, true≢false, lt-ltb}
use Rattle.std.proofs.Math.Decide.{ℕ_discrete}
use Rattle.std.proofs.Math.Path.{refl}
use Rattle.std.proofs.Math.Option.{Option, none, some}
use mathlib.Core.List.Memᴰ
use mathlib.Core.List.{List, [], ◌∷◌, ◌++◌, map, Memᴰ}
use Rattle.model.specs.Base.{put}
use Rattle.laws.specs.Basics.{put_same, put_other, put_cases, In, here, there}
use Rattle.model.specs.Service.{Service, Call, abort, Answer, done, going, answer, refuse, held, stopped, Transaction, Slot, closed, opened, Waiter, World, fresh, standing, waits, wake, closed_over, without, ended, undone, on_ready, on_open, on_slot, in_range, call, run_calls, Course, fed, fed_all}
use Rattle.twophase.specs.Order.{sub_in, sub_keep}
use Rattle.twophase.specs.Moves.{Move, refused, closes_circle, joins, starts, goes_on, replies, halts, commits, aborts, moves}
use Rattle.twophase.specs.Line.{open_closed, without_away, wake_by, wake_else, ended_closed}

module _ (𝓢 : Service) where
  open 𝓢 use {Fields, Request, Run}

  -- ---- a waiting slot is open

  abbrev Opened : Slot 𝓢 → Type 0
  Opened closed = ⊥
  Opened (opened t) = Unit {0}

  -- Each slot with a send among these is open.
  abbrev AllOpen : (ℕ → Slot 𝓢) → List (Waiter 𝓢) → Type 0
  AllOpen slots line = (v : Waiter 𝓢) → Memᴰ v line → Opened (slots v.slot)

  put_open : (slots : ℕ → Slot 𝓢) (line : List (Waiter 𝓢)) (s : ℕ) (t : Transaction 𝓢) → AllOpen slots line → AllOpen (put slots s (opened t)) line
  put_open slots line s t h v i = put_cases (λ k z. Opened (slots k) → Opened z) slots s (opened t) (λ o. tt) (λ k ne o. o) v.slot (h v i)

  add_open : (slots : ℕ → Slot 𝓢) (line : List (Waiter 𝓢)) (v : Waiter 𝓢) → AllOpen slots line → Opened (slots v.slot) → AllOpen slots (line ++ (v ∷ []))
  add_open slots line v h o u i = go (Memᴰ.append_cases line i)
    where
      go : Memᴰ u line ⊎ Memᴰ u (v ∷ []) → Opened (slots u.slot)
      go (inl j) = h u j
      go (inr j) = subst (λ z. Opened (slots z.slot)) (sym (Memᴰ.eq_of_singleton j)) o

  wake_open : (vs : List (Waiter 𝓢)) (w : World 𝓢) → AllOpen w.slots w.line → AllOpen w.slots vs → AllOpen (wake 𝓢 w vs).slots (wake 𝓢 w vs).line
  wake_open vs w h l =
      (wake_by 𝓢 (λ w vs. AllOpen w.slots w.line × AllOpen w.slots vs)
      (λ w v vs k e p. (add_open w.slots w.line v p.0 (p.1 v (Memᴰ.head refl)), λ u i. p.1 u (Memᴰ.tail i)))
      (λ w v vs e p. (put_open w.slots w.line v.slot _ p.0, put_open w.slots vs v.slot _ (λ u i. p.1 u (Memᴰ.tail i))))
      vs w (h, l)).0

  ended_open : (w : World 𝓢) (s : ℕ) (F : Fields) → AllOpen w.slots w.line → AllOpen (ended 𝓢 w s F).slots (ended 𝓢 w s F).line
  ended_open w s F h = wake_open (without 𝓢 s w.line) (closed_over 𝓢 w s F) (λ v i. absurd (Memᴰ.not-nil i))
      (λ v i. subst Opened (sym (put_other w.slots s closed v.slot (without_away 𝓢 s w.line v i))) (h v (sub_in (sub_keep _ w.line) i)))

  move_open : {w : World 𝓢} {c : Call Request} {y : Answer × World 𝓢} → Move 𝓢 w c y → AllOpen w.slots w.line → AllOpen y.1.slots y.1.line
  move_open (refused c n g l) h = h
  move_open (closes_circle s q m k a e o b) h = h
  move_open {w} (joins s q m k a e o b) h =
      let t = standing 𝓢 (w.slots s) in
      add_open (put w.slots s (opened t)) w.line (record { slot = s; message = m }) (put_open w.slots w.line s t h)
      (subst Opened (sym (put_same w.slots s (opened t))) tt)
  move_open {w} (starts s q m a o) h = put_open w.slots w.line s _ h
  move_open {w} (goes_on s y r r' e a v) h = put_open w.slots w.line s _ h
  move_open {w} (replies s y r n e a v) h = put_open w.slots w.line s _ h
  move_open {w} (halts s y r a v) h = ended_open w s _ h
  move_open {w} (commits s y below o still n) h = ended_open w s _ h
  move_open {w} (aborts s y below o) h = ended_open w s _ h

  -- The world: every slot in its line is open.
  abbrev pub LineOpen : World 𝓢 → Type 0
  LineOpen w = AllOpen w.slots w.line

  run_open : (cs : List (Call Request)) (w : World 𝓢) → LineOpen w → LineOpen (run_calls 𝓢 w cs).1
  unfolding run_calls
  run_open [] w h = h
  run_open (c ∷ cs) w h = run_open cs (call 𝓢 w c).1 (move_open (moves 𝓢 w c) h)

  -- It is so after every list of calls.
  pub line_open : (F : Fields) (cs : List (Call Request)) → LineOpen (run_calls 𝓢 (fresh 𝓢 F) cs).1
  line_open F cs = run_open cs (fresh 𝓢 F) (λ v i. absurd (Memᴰ.not-nil i))

  -- ---- one abort

  module _ (w : World 𝓢) (s : ℕ) where
    -- What holds of a world that an abort leaves: of the same, where it is refused, and of the one with the transaction undone.
    module _ (P : World 𝓢 → Type 0) (refusal : (s < 8 → w.slots s ≡ closed) → P w) (undoes : (t : Transaction 𝓢) → P (undone 𝓢 w s t)) where
      by_running : (t : Transaction 𝓢) (r : Option Run) → P (on_ready 𝓢 w (abort s) t r).1
      by_running t none = undoes t
      by_running t (some r) = undoes t

      by_line : (t : Transaction 𝓢) (b : Bool) → P (on_open 𝓢 w (abort s) t b).1
      by_line t true = undoes t
      by_line t false = by_running t t.running

      by_slot : (z : Slot 𝓢) → w.slots s ≡ z → P (on_slot 𝓢 w (abort s) z).1
      by_slot closed e = refusal (λ h. e)
      by_slot (opened t) e = by_line t (waits 𝓢 w.line s)

      by_range : (b : Bool) → ltb s 8 ≡ b → P (in_range 𝓢 w (abort s) b).1
      by_range false e = refusal (λ h. absurd (true≢false (sym (lt-ltb s 8 h) ∙ e)))
      by_range true e = by_slot (w.slots s) refl

      abort_by : P (call 𝓢 w (abort s)).1
      abort_by = by_range (ltb s 8) refl

    -- The slot is closed.
    pub abort_closes : s < 8 → (call 𝓢 w (abort s)).1.slots s ≡ closed
    abort_closes h = abort_by (λ w'. w'.slots s ≡ closed) (λ e. e h) (λ t. ended_closed 𝓢 w s _)

    -- No other slot opens.
    abort_else : LineOpen w → (k : ℕ) → (k ≡ s → ⊥) → w.slots k ≡ closed → (call 𝓢 w (abort s)).1.slots k ≡ closed
    abort_else l k ne e = abort_by (λ w'. w'.slots k ≡ closed) (λ z. e)
        (λ t. wake_else 𝓢 k closed (without 𝓢 s w.line) (closed_over 𝓢 w s _) (put_other w.slots s closed k ne ∙ e)
        (λ v i q. subst Opened (ap w.slots q ∙ e) (l v (sub_in (sub_keep _ w.line) i))))

  -- ---- several

  -- Every open slot is in the list.
  abbrev pub Lists : World 𝓢 → List ℕ → Type 0
  Lists w ss = (k : ℕ) → k < 8 → (t : Transaction 𝓢) → w.slots k ≡ opened t → In k ss

  none_listed : (w : World 𝓢) → Lists w [] → (k : ℕ) → k < 8 → w.slots k ≡ closed
  none_listed w all k h = go (w.slots k) refl
    where
      nowhere : In k [] → ⊥
      nowhere = elim [ ]

      go : (z : Slot 𝓢) → w.slots k ≡ z → z ≡ closed
      go closed e = refl
      go (opened t) e = absurd (nowhere (all k h t e))

  one_less : (w : World 𝓢) (s : ℕ) (ss : List ℕ) → LineOpen w → Lists w (s ∷ ss) → Lists (call 𝓢 w (abort s)).1 ss
  one_less w s ss l all k h t e = go (ℕ_discrete k s)
    where
      never : (call 𝓢 w (abort s)).1.slots k ≡ closed → ⊥
      never q = open_closed 𝓢 t (sym e ∙ q)

      listed : (k ≡ s → ⊥) → In k (s ∷ ss) → In k ss
      listed ne (here q) = absurd (ne q)
      listed ne (there i) = i

      other : (k ≡ s → ⊥) → (z : Slot 𝓢) → w.slots k ≡ z → In k ss
      other ne closed q = absurd (never (abort_else w s l k ne q))
      other ne (opened y) q = listed ne (all k h y q)

      go : Dec (k ≡ s) → In k ss
      go (yes q) = absurd (never (ap (λ (j : ℕ). (call 𝓢 w (abort s)).1.slots j) q ∙ abort_closes w s (omega arith)))
      go (no ne) = other ne (w.slots k) refl

  -- Once every open slot was aborted, none is open.
  pub aborts_close : (ss : List ℕ) (w : World 𝓢) → LineOpen w → Lists w ss → (k : ℕ) → k < 8 → (run_calls 𝓢 w (map abort ss)).1.slots k ≡ closed
  unfolding run_calls
  aborts_close [] w l all k h = none_listed w all k h
  aborts_close (s ∷ ss) w l all k h = aborts_close ss (call 𝓢 w (abort s)).1 (move_open (moves 𝓢 w (abort s)) l) (one_less w s ss l all) k h

  -- ---- the course

  abort_fields : (x : Course 𝓢) (s : ℕ) (a : Answer) → (fed 𝓢 x (abort s) a).fields ≡ x.fields
  abort_fields x s done = refl
  abort_fields x s going = refl
  abort_fields x s (answer v) = refl
  abort_fields x s (refuse n) = refl
  abort_fields x s (held t) = refl
  abort_fields x s stopped = refl

  pub aborts_fields : (ss : List ℕ) (x : Course 𝓢) (answers : List Answer) → (fed_all 𝓢 x (map abort ss) answers).fields ≡ x.fields
  unfolding fed_all
  aborts_fields [] x answers = refl
  aborts_fields (s ∷ ss) x [] = refl
  aborts_fields (s ∷ ss) x (a ∷ answers) = aborts_fields ss (fed 𝓢 x (abort s) a) answers ∙ abort_fields x s a

  -- A list fed after another.
  pub fed_append : (cs ds : List (Call Request)) (x : Course 𝓢) (first last : List Answer) → length first ≡ length cs
      → fed_all 𝓢 x (cs ++ ds) (first ++ last) ≡ fed_all 𝓢 (fed_all 𝓢 x cs first) ds last
  unfolding fed_all
  fed_append [] ds x [] last e = refl
  fed_append [] ds x (a ∷ first) last e = absurd (omega arith)
  fed_append (c ∷ cs) ds x [] last e = absurd (omega arith)
  fed_append (c ∷ cs) ds x (a ∷ first) last e = fed_append cs ds (fed 𝓢 x c a) first last (omega arith)
