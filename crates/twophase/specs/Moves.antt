-- What a call does: one of nine moves, each with its reasons. The tests of a call are gone through here, and nowhere else.
use Rattle.std.specs.Prelude.{ℕ, ◌≤◌, ◌<◌, ◌≡◌, refl, ◌⊎◌, Bool, true, false, T, ltb}
use Rattle.std.proofs.Common.{arith, sym, ap, ◌∙◌, subst, inl, inr, ltb→lt}
use Rattle.std.proofs.Math.Option.{Option, none, some}
use Rattle.model.specs.Service.{Outcome, goes, ends, stops, Service, Call, send, step, commit, abort, Answer, done, going, answer, refuse, held, stopped, Transaction, Slot, closed, opened, World, standing, held_by, started, waits, obstacle, joined, in_circle, admitted, arrived, granted, sent, ended, undone, after, stepped, on_closed, on_ready, on_waiting, on_open, on_slot, slot_of, in_range, call}

module _ (𝓢 : Service) where
  open 𝓢 use {Request, Message, Run, Effect, find, turn, holds}

  -- A send that is tested for its locks: its slot is one of the eight, runs no message and does not wait, and the message exists.
  pub record Asks (w : World 𝓢) (s : ℕ) (q : Request) (m : Message) : Type 0 where
    pub below : s < 8
    pub idle : (standing 𝓢 (w.slots s)).running ≡ none
    pub still : (w.slots s ≡ closed) ⊎ (waits 𝓢 w.line s ≡ false)
    pub found : find q ≡ some m

  -- A step of a running message.
  pub record Runs (w : World 𝓢) (s : ℕ) (y : Transaction 𝓢) (r : Run) : Type 0 where
    pub below : s < 8
    pub is_open : w.slots s ≡ opened y
    pub still : waits 𝓢 w.line s ≡ false
    pub runs : y.running ≡ some r

  pub data Move (w : World 𝓢) : Call Request → Answer × World 𝓢 → Type 0 where
    refused : (c : Call Request) (n : ℕ) → 31 ≤ n → n < 40 → Move w c (refuse n, w)
    closes_circle : (s : ℕ) (q : Request) (m : Message) (k : ℕ) → Asks w s q m → holds m (held_by 𝓢 (w.slots s)) ≡ false → obstacle 𝓢 w s m ≡ some k
        → in_circle 𝓢 (joined 𝓢 w s m) s ≡ true → Move w (send s q) (refuse 42, w)
    joins : (s : ℕ) (q : Request) (m : Message) (k : ℕ) → Asks w s q m → holds m (held_by 𝓢 (w.slots s)) ≡ false → obstacle 𝓢 w s m ≡ some k
        → in_circle 𝓢 (joined 𝓢 w s m) s ≡ false → Move w (send s q) (held k, joined 𝓢 w s m)
    starts : (s : ℕ) (q : Request) (m : Message) → Asks w s q m → (holds m (held_by 𝓢 (w.slots s)) ≡ true) ⊎ (obstacle 𝓢 w s m ≡ none)
        → Move w (send s q) (done, started 𝓢 w s m)
    goes_on : (s : ℕ) (y : Transaction 𝓢) (r r' : Run) (e : Effect) → Runs w s y r → turn r w.fields ≡ goes r' e
        → Move w (step s) (going, after 𝓢 w s y e (some r'))
    replies : (s : ℕ) (y : Transaction 𝓢) (r : Run) (v : ℕ) (e : Effect) → Runs w s y r → turn r w.fields ≡ ends v e
        → Move w (step s) (answer v, after 𝓢 w s y e none)
    halts : (s : ℕ) (y : Transaction 𝓢) (r : Run) → Runs w s y r → turn r w.fields ≡ stops → Move w (step s) (stopped, undone 𝓢 w s y)
    commits : (s : ℕ) (y : Transaction 𝓢) → s < 8 → w.slots s ≡ opened y → waits 𝓢 w.line s ≡ false → y.running ≡ none
        → Move w (commit s) (done, ended 𝓢 w s w.fields)
    aborts : (s : ℕ) (y : Transaction 𝓢) → s < 8 → w.slots s ≡ opened y → Move w (abort s) (done, undone 𝓢 w s y)

  module _ (w : World 𝓢) where
    module _ (s : ℕ) (q : Request) where
      by_circle : (m : Message) (k : ℕ) → Asks w s q m → holds m (held_by 𝓢 (w.slots s)) ≡ false → obstacle 𝓢 w s m ≡ some k
          → (b : Bool) → in_circle 𝓢 (joined 𝓢 w s m) s ≡ b → Move w (send s q) (admitted 𝓢 w s m k b)
      by_circle m k a h o true e = closes_circle s q m k a h o e
      by_circle m k a h o false e = joins s q m k a h o e

      by_obstacle : (m : Message) → Asks w s q m → holds m (held_by 𝓢 (w.slots s)) ≡ false → (k : Option ℕ) → obstacle 𝓢 w s m ≡ k
          → Move w (send s q) (arrived 𝓢 w s m k)
      by_obstacle m a h none e = starts s q m a (inr e)
      by_obstacle m a h (some k) e = by_circle m k a h e (in_circle 𝓢 (joined 𝓢 w s m) s) refl

      by_locks : (m : Message) → Asks w s q m → (b : Bool) → holds m (held_by 𝓢 (w.slots s)) ≡ b → Move w (send s q) (granted 𝓢 w s m b)
      by_locks m a true e = starts s q m a (inl e)
      by_locks m a false e = by_obstacle m a e (obstacle 𝓢 w s m) refl

      by_name : s < 8 → (standing 𝓢 (w.slots s)).running ≡ none → (w.slots s ≡ closed) ⊎ (waits 𝓢 w.line s ≡ false)
          → (o : Option Message) → find q ≡ o → Move w (send s q) (sent 𝓢 w s o)
      by_name below idle still none f = refused (send s q) 36 (omega arith) (omega arith)
      by_name below idle still (some m) f =
          by_locks m (record { below = below; idle = idle; still = still; found = f }) (holds m (held_by 𝓢 (w.slots s))) refl

    by_turn : (s : ℕ) (y : Transaction 𝓢) (r : Run) → Runs w s y r → (o : Outcome Run Effect) → turn r w.fields ≡ o → Move w (step s) (stepped 𝓢 w s y o)
    by_turn s y r a (goes r' e) v = goes_on s y r r' e a v
    by_turn s y r a (ends n e) v = replies s y r n e a v
    by_turn s y r a stops v = halts s y r a v

    by_running : (c : Call Request) → slot_of 𝓢 c < 8 → (y : Transaction 𝓢) → w.slots (slot_of 𝓢 c) ≡ opened y → waits 𝓢 w.line (slot_of 𝓢 c) ≡ false
        → (r : Option Run) → y.running ≡ r → Move w c (on_ready 𝓢 w c y r)
    by_running (send s q) below y o still none n = by_name s q below (ap (λ z. (standing 𝓢 z).running) o ∙ n) (inr still) (find q) refl
    by_running (send s q) below y o still (some r) n = refused (send s q) 34 (omega arith) (omega arith)
    by_running (step s) below y o still none n = refused (step s) 35 (omega arith) (omega arith)
    by_running (step s) below y o still (some r) n =
        by_turn s y r (record { below = below; is_open = o; still = still; runs = n }) (turn r w.fields) refl
    by_running (commit s) below y o still none n = commits s y below o still n
    by_running (commit s) below y o still (some r) n = refused (commit s) 34 (omega arith) (omega arith)
    by_running (abort s) below y o still none n = aborts s y below o
    by_running (abort s) below y o still (some r) n = aborts s y below o

    by_waiting : (c : Call Request) → slot_of 𝓢 c < 8 → (y : Transaction 𝓢) → w.slots (slot_of 𝓢 c) ≡ opened y → Move w c (on_waiting 𝓢 w y c)
    by_waiting (send s q) below y o = refused (send s q) 37 (omega arith) (omega arith)
    by_waiting (step s) below y o = refused (step s) 37 (omega arith) (omega arith)
    by_waiting (commit s) below y o = refused (commit s) 37 (omega arith) (omega arith)
    by_waiting (abort s) below y o = aborts s y below o

    by_line : (c : Call Request) → slot_of 𝓢 c < 8 → (y : Transaction 𝓢) → w.slots (slot_of 𝓢 c) ≡ opened y
        → (b : Bool) → waits 𝓢 w.line (slot_of 𝓢 c) ≡ b → Move w c (on_open 𝓢 w c y b)
    by_line c below y o true e = by_waiting c below y o
    by_line c below y o false e = by_running c below y o e y.running refl

    by_closed : (c : Call Request) → slot_of 𝓢 c < 8 → w.slots (slot_of 𝓢 c) ≡ closed → Move w c (on_closed 𝓢 w c)
    by_closed (send s q) below o = by_name s q below (ap (λ z. (standing 𝓢 z).running) o) (inl o) (find q) refl
    by_closed (step s) below o = refused (step s) 32 (omega arith) (omega arith)
    by_closed (commit s) below o = refused (commit s) 32 (omega arith) (omega arith)
    by_closed (abort s) below o = refused (abort s) 32 (omega arith) (omega arith)

    by_slot : (c : Call Request) → slot_of 𝓢 c < 8 → (z : Slot 𝓢) → w.slots (slot_of 𝓢 c) ≡ z → Move w c (on_slot 𝓢 w c z)
    by_slot c below closed o = by_closed c below o
    by_slot c below (opened y) o = by_line c below y o (waits 𝓢 w.line (slot_of 𝓢 c)) refl

    by_range : (c : Call Request) (b : Bool) → ltb (slot_of 𝓢 c) 8 ≡ b → Move w c (in_range 𝓢 w c b)
    by_range c false e = refused c 31 (omega arith) (omega arith)
    by_range c true e = by_slot c (ltb→lt (slot_of 𝓢 c) 8 (subst T (sym e) tt)) (w.slots (slot_of 𝓢 c)) refl

    -- Every call is one of these moves.
    pub moves : (c : Call Request) → Move w c (call 𝓢 w c)
    moves c = by_range c (ltb (slot_of 𝓢 c) 8) refl

    -- ---- whose slot is open

    -- Slot s is one of the eight, and open.
    abbrev pub IsOpen : ℕ → Type 0
    IsOpen s = (y : Transaction 𝓢) × (w.slots s ≡ opened y) × (s < 8)

    abbrev DoneOn : Call Request → Type 0
    DoneOn (send s q) = Unit {0}
    DoneOn (step s) = Unit {0}
    DoneOn (commit s) = IsOpen s
    DoneOn (abort s) = IsOpen s

    -- A commit or an abort that is done, and a step that is stopped, end an open transaction.
    abbrev pub Ends : Call Request → Answer → Type 0
    Ends c done = DoneOn c
    Ends c going = Unit {0}
    Ends c (answer v) = Unit {0}
    Ends c (refuse n) = Unit {0}
    Ends c (held k) = Unit {0}
    Ends c stopped = IsOpen (slot_of 𝓢 c)

    pub ends_open : {c : Call Request} {y : Answer × World 𝓢} → Move w c y → Ends c y.0
    ends_open (refused c n g l) = tt
    ends_open (closes_circle s q m k a h o e) = tt
    ends_open (joins s q m k a h o e) = tt
    ends_open (starts s q m a e) = tt
    ends_open (goes_on s y r r' e a v) = tt
    ends_open (replies s y r n e a v) = tt
    ends_open (halts s y r a v) = (y, a.is_open, a.below)
    ends_open (commits s y below o still n) = (y, o, below)
    ends_open (aborts s y below o) = (y, o, below)
