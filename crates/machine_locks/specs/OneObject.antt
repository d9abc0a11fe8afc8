-- A send to an existing object: its message starts on it.
use Rattle.std.specs.Prelude.{ℕ, ◌+◌, ◌-◌, ◌%◌, ◌<◌, ◌≡◌, refl, Bool, true, ◌&&◌, List, eqb, ltb, Some}
use Rattle.std.proofs.Common.{sym, ap, ◌∙◌, arith, eq-eqb, lt-ltb}
use Rattle.layout.specs.Layout.{method_names_at, object_class_at}
use Rattle.catalog.specs.View.{object_word, class_word, class_count, object_count, member_count, member_at}
use Rattle.laws.specs.Lists.{both_left}
use Rattle.catalog.specs.declared.body.Statements.{Statements}
use Rattle.catalog.specs.Bodies.{named_at, Bounds, by_place}
use Rattle.machine_words.specs.Turn.{in_target, object_from, target_there}
use Rattle.machine_words.specs.Request.{Wanted, on, first_of, is_sendable}
use Rattle.machine_targets.specs.Visits.{one_there}
use Rattle.machine_take.specs.Begun.{first_on_law}

-- Object o exists, and c is its class.
pub record ObjectOf (tables : List ℕ) (o c : ℕ) : Type 0 where
  pub there : o < object_count tables
  pub class_is : c ≡ object_word tables o object_class_at

-- The send is to an existing object, and its method is one of 32.
pub record ToObject (tables : List ℕ) (q : Wanted) : Type 0 where
  pub kind_is : q.kind ≡ 0
  pub object_is : ObjectOf tables q.number q.class
  pub few : q.place < 32

-- The object is there, and its class has the method, if it has the method's name at its place.
object_sendable : (tables : List ℕ) (q : Wanted) → ToObject tables q → named_at tables q.class q.place q.name ≡ true → is_sendable tables q ≡ true
unfolding is_sendable target_there named_at
object_sendable tables q o w =
    rw (eq-eqb q.kind 0 o.kind_is, lt-ltb q.number (object_count tables) o.object_is.there) (both_left there name w)
  where
    there : Bool
    there = ltb q.class (class_count tables) && ltb q.place (member_count tables q.class 1)

    name : Bool
    name = eqb (class_word tables q.class (method_names_at + q.place) % 1048576) q.name

-- Its message starts there, with the body at the method's place.
pub first_there : (text tables : List ℕ) (q : Wanted) → ToObject tables q → named_at tables q.class q.place q.name ≡ true
    → (first end : ℕ) → Bounds (member_at text tables q.class 1 q.place) first end → on q.number first end ≡ first_of text tables q
unfolding object_from in_target
first_there text tables q o w first end b =
    let h : q.number < object_count tables = o.object_is.there in
    let body : Statements = record { first = first; end = end } in
    let e : q.number ≡ object_from tables q.kind q.number 0 =
    one_there q.number (object_count tables - 0) 0 (omega arith) (omega (arith, h)) ∙ ap (λ (x : ℕ). object_from tables x q.number 0) (sym o.kind_is) in
    first_on_law text tables q true (sym (object_sendable tables q o w)) refl q.number (object_count tables) e refl h q.class o.object_is.class_is (Some body)
    (by_place text tables q.class q.place q.name true (sym w) refl body b)
