-- Where a send's message starts, in the rules' terms.
use Rattle.std.specs.Prelude.{ℕ, ◌≤◌, ◌<◌, ◌≡◌, refl, Bool, true, false, ◌&&◌, List, ltb, Some, None}
use Rattle.std.proofs.Common.{ap, ◌∙◌, arith}
use Rattle.std.proofs.Math.Option.{Option, none, some}
use borrow.Author.Tests.{lt-ltb, le-ltb}
use Rattle.layout.specs.Layout.{object_class_at}
use Rattle.model.specs.Library.{Member}
use Rattle.catalog.specs.View.{object_word, class_count, object_count, member_count}
use Rattle.catalog.specs.Bodies.{body_at, bounds_of}
use Rattle.machine_words.specs.Turn.{target_there, object_from}
use Rattle.machine_words.specs.Request.{Wanted, is_sendable, First, on, past, nowhere, first_on, first_of}
use Rattle.machine_words.specs.declared.Start.{Start}
use Rattle.machine_words.specs.declared.Start.TheVariants.{On, Past}
use Rattle.machine_words.specs.Said.{said_first}
use Rattle.catalog.specs.declared.body.Statements.{Statements}
use Rattle.std.specs.Prelude as rust

-- The start on an object, by the answer for its body.
abbrev pub start_by : ℕ → rust.Option Statements → First
start_by o (Some s) = on o s.first s.end
start_by o None = nowhere

start_by_law : (o : ℕ) (m : Option Member) → start_by o (bounds_of m) ≡ first_on o m
start_by_law o none = refl
start_by_law o (some m) = refl

-- The tests of the target and the method.
pub sendable_by : (tables : List ℕ) (q : Wanted) (b : Bool) (n m : ℕ) → b ≡ target_there tables q.kind q.number → n ≡ class_count tables
    → m ≡ member_count tables q.class 1 → (b && ltb q.class n && ltb q.place m) ≡ is_sendable tables q
unfolding is_sendable
sendable_by tables q b n m e c k = rw (e, c, k)

pub first_nowhere : (text tables : List ℕ) (q : Wanted) (b : Bool) → b ≡ is_sendable tables q → b ≡ false → nowhere ≡ first_of text tables q
unfolding first_of
first_nowhere text tables q b e z = rw (← e, z)

-- The first object is o of n.
module _ (text tables : List ℕ) (q : Wanted) (b : Bool) (s : b ≡ is_sendable tables q) (t : b ≡ true) (o n : ℕ) (e : o ≡ object_from tables q.kind q.number 0)
    (m : n ≡ object_count tables) where
  pub first_past : n ≤ o → past o ≡ first_of text tables q
  unfolding first_of
  first_past h = rw (← s, t, ← e, ← m, le-ltb o n h)

  pub first_on_law : o < n → (c : ℕ) → c ≡ object_word tables o object_class_at → (b : rust.Option Statements) → b ≡ bounds_of (body_at text tables c q.place q.name)
      → start_by o b ≡ first_of text tables q
  unfolding first_of
  first_on_law h c k b p =
      rw (← s, t, ← e, ← m, lt-ltb o n h, ← k) (ap (start_by o) p ∙ start_by_law o (body_at text tables c q.place q.name))

-- A message that starts on an object or past the last one does not start nowhere.
pub somewhere : (s : Start) → said_first (Some s) ≡ nowhere → ⊥
somewhere (On o first end) e = let z : ◌≡◌ {A = ℕ} 0 1 = cc in omega arith
somewhere (Past o) e = let z : ◌≡◌ {A = ℕ} 0 1 = cc in omega arith
