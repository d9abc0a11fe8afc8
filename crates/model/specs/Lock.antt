-- Locks and their clashes (01, "The machine", "Locks"; section 5.2 of the paper).
use Rattle.std.specs.Prelude.{ℕ, Bool, true, false, not, ◌&&◌, ◌||◌, List, [], ◌∷◌, map, length, eqb}
use Rattle.model.specs.Base.{same, any, every, keep, upto}
use Rattle.model.specs.Word.{Name}
use Rattle.model.specs.Vector.{Program, commute_in}
use Rattle.model.specs.Message.{Target, object, class, domain, class_of, in_domain}

-- M on an object; (M, false) or (M, true) on a class.
pub data Lock : Type 0 where
  on_object : ℕ → Name → Lock
  on_class : ℕ → Name → Bool → Lock

-- "domain (it and all descendants)", in text order
unfoldable pub domain_of : Program → ℕ → List ℕ
unfolding keep upto
domain_of p c = keep (in_domain p c) (upto (λ d. d) (length p.library.classes))

-- "object: M on it, and (M, false) on its class"; "class: (M, true) on that class only"; "domain: (M, true) on each class in
-- it, M being the method of that name in that class, inherited or not"
abbrev pub locks_for : Program → Target → Name → List Lock
locks_for p (object o) m = on_object o m ∷ on_class (class_of p o) m false ∷ []
locks_for p (class c) m = on_class c m true ∷ []
locks_for p (domain c) m = map (λ d. on_class d m true) (domain_of p c)

-- "Two locks of different slots clash if their methods don't commute and they are on one object, or on one class with at
-- least one true."
abbrev pub lock_clash : Program → Lock → Lock → Bool
lock_clash p (on_object o m) (on_object q n) = eqb o q && not (commute_in p (class_of p o) m n)
lock_clash p (on_object o m) (on_class d n v) = false
lock_clash p (on_class c m w) (on_object q n) = false
lock_clash p (on_class c m w) (on_class d n v) = eqb c d && (w || v) && not (commute_in p c m n)

-- Whether some lock of one list clashes with some lock of the other.
unfoldable pub locks_clash : Program → List Lock → List Lock → Bool
unfolding any commute_in
locks_clash p ks held = any (λ k. any (lock_clash p k) held) ks

-- The method of a lock.
abbrev pub lock_method : Lock → Name
lock_method (on_object o m) = m
lock_method (on_class c m w) = m

abbrev pub same_flag : Bool → Bool → Bool
same_flag true b = b
same_flag false true = false
same_flag false false = true

-- Whether two locks are both on one object, or on one class with one flag.
abbrev pub same_place : Lock → Lock → Bool
same_place (on_object o m) (on_object q n) = eqb o q
same_place (on_object o m) (on_class d n v) = false
same_place (on_class c m w) (on_object q n) = false
same_place (on_class c m w) (on_class d n v) = eqb c d && same_flag w v

-- Whether two locks are equal: in one place, for one method.
abbrev pub same_lock : Lock → Lock → Bool
same_lock x y = same_place x y && same (lock_method x) (lock_method y)

-- "a send whose locks its slot already holds" (02, Ticket 7): each is one of those held.
unfoldable pub locks_held : List Lock → List Lock → Bool
unfolding any every same
locks_held ks held = every (λ k. any (same_lock k) held) ks
