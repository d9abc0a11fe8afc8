-- What a message may read and change: which effects it may have, which fields it cannot distinguish, which messages are free of each
-- other. All is decided by the vector of its method in the class of each object that it visits.
use Rattle.std.specs.Prelude.{ℕ, ◌+◌, ◌<◌, ◌≡◌, true, false, length, get_or}
use mathlib.Core.List.{List, Memᴰ}
use Rattle.model.specs.Form.{Change, replace, increase}
use Rattle.model.specs.Mode.{Mode, Null, depends, clash}
use Rattle.model.specs.Vector.{Program, mode_of, vector_of}
use Rattle.model.specs.Message.{Message, class_of, visited, size_of, base_of, Effect, idle, store}
use Rattle.model.specs.Undo.{Note, sum_added, Undo}
use Rattle.laws.specs.Modes.{Le}

module _ (p : Program) where
  -- The message visits the object.
  abbrev pub Visits : Message → ℕ → Type 0
  Visits m o = Memᴰ o (visited p m.target)

  -- The mode of an object's field at place k, in the vector of the message's method in the object's class.
  abbrev pub mode_at : Message → ℕ → ℕ → Mode
  mode_at m o k = get_or (vector_of p (class_of p o) m.method) k Null

  -- The message may change the value at a place in this way: the place is a field of a visited object, and the vector allows it.
  pub record Changes (m : Message) (how : Change) (place : ℕ) : Type 0 where
    pub on : ℕ
    pub at : ℕ
    pub visits : Visits m on
    pub inside : at < size_of p on
    pub there : place ≡ base_of p on + at
    pub allowed : Le (mode_of how) (mode_at m on at)

  -- The message may have the effect.
  abbrev pub May : Message → Effect → Type 0
  May m idle = Unit {0}
  May m (store how k v) = Changes m how k

  -- The fields agree wherever the message may read.
  pub record Agree (m : Message) (fields others : List ℕ) : Type 0 where
    pub long : length fields ≡ length others
    pub alike : (o k : ℕ) → Visits m o → k < size_of p o → depends (mode_at m o k) ≡ true
        → get_or fields (base_of p o + k) 0 ≡ get_or others (base_of p o + k) 0

  -- No field of an object that both visit clashes.
  pub record Free (m n : Message) : Type 0 where
    pub apart : (o k : ℕ) → Visits m o → Visits n o → k < size_of p o → clash (mode_at m o k) (mode_at n o k) ≡ false

-- Putting the note back and changing its place do not meet: nothing is noted where the place is set, and only additions are noted where
-- it is added to.
abbrev pub Beside : Change → Note → Type 0
Beside replace note = note ≡ sum_added 0
Beside increase note = (sum : ℕ) × (note ≡ sum_added sum)

-- Putting the notes back and the effect do not meet.
abbrev pub Aside : Undo → Effect → Type 0
Aside u idle = Unit {0}
Aside u (store how k v) = Beside how (u k)
