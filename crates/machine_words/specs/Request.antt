-- A send over the words: its target, which slots' locks are in its way, and what it leaves in its slot's row.
use Rattle.std.specs.Prelude.{ℕ, ◌+◌, ◌-◌, ◌%◌, ◌^◌, Bool, not, cond, ◌&&◌, List, get_or, set, eqb, leb, ltb}
use Rattle.std.proofs.Math.Option.{Option, none, some}
use Rattle.std.specs.Int.Bits.{bit_and, bit_or}
use Rattle.layout.specs.Layout.{domain_at, commuting_at, object_class_at, phase_at, depth_at, steps_at, sum_at, object_at, kind_at, number_at, name_at, argument_at, object_locks_at, class_locks_at, whole_locks_at, method_kind, object_kind, class_kind, domain_kind, running_phase, method_names_at, origin_unit}
use Rattle.model.specs.Base.{fold, upto, any}
use Rattle.model.specs.Library.{Member, member_place}
use Rattle.catalog.specs.View.{name_of, object_word, class_word, class_count, object_count, member_count, members_of}
use Rattle.laws.specs.Bits.{bit}
use Rattle.machine_words.specs.Row.{with_bits, object_row}
use Rattle.catalog.specs.Bodies.{body_at}
use Rattle.machine_words.specs.Turn.{target_there, object_from}

-- A send's target, an object, a class or a domain by its kind and number, with the class that has the method,
-- the method's place there, its name's word, and the send's argument.
pub record Wanted : Type 0 where
  pub kind : ℕ
  pub number : ℕ
  pub class : ℕ
  pub place : ℕ
  pub name : ℕ
  pub argument : ℕ

-- The send to such a target for the method at place k of class c, with argument a.
abbrev pub wanted : List ℕ → ℕ → ℕ → ℕ → ℕ → ℕ → Wanted
wanted tables kind n c k a =
    record { kind = kind; number = n; class = c; place = k; name = class_word tables c (method_names_at + k) % origin_unit; argument = a }

-- The class that has a target's methods: the object's class, or the class itself.
unfoldable pub class_for : List ℕ → ℕ → ℕ → ℕ
unfolding object_word
class_for tables kind n = cond (eqb kind object_kind) (object_word tables n object_class_at) n

-- Whether the target exists, and its class has the method.
unfoldable pub is_sendable : List ℕ → Wanted → Bool
unfolding target_there member_count
is_sendable tables q = target_there tables q.kind q.number && ltb q.class (class_count tables) && ltb q.place (member_count tables q.class method_kind)

-- ---- locks

-- Whether some method of the mask does not commute with the one whose commuting mask this is.
unfoldable pub meets : ℕ → ℕ → Bool
meets held commuting = not (eqb (bit_and held (4294967295 - commuting)) 0)

-- The place of the method in class d, by its name, and its commuting mask there.
unfoldable pub place_in : List ℕ → List ℕ → Wanted → ℕ → ℕ
unfolding members_of member_place name_of
place_in text tables q d = member_place (members_of text tables d method_kind) (name_of text q.name)

unfoldable pub commuting_in : List ℕ → List ℕ → Wanted → ℕ → ℕ
unfolding class_word place_in
commuting_in text tables q d = class_word tables d (commuting_at + place_in text tables q d)

-- Whether class d is in the target's domain.
unfoldable pub in_domain : List ℕ → Wanted → ℕ → Bool
unfolding class_word bit
in_domain tables q d = bit (class_word tables q.number domain_at) d

-- Whether the send locks class d: it is in the domain and has the method.
unfoldable pub concerns : List ℕ → List ℕ → Wanted → ℕ → Bool
unfolding in_domain place_in member_count
concerns text tables q d = in_domain tables q d && ltb (place_in text tables q d) (member_count tables d method_kind)

-- Whether class d is in the domain and has no such method.
unfoldable pub lacks : List ℕ → List ℕ → Wanted → ℕ → Bool
unfolding in_domain place_in member_count
lacks text tables q d = in_domain tables q d && leb (member_count tables d method_kind) (place_in text tables q d)

-- Whether the send is to a domain of which some class has no such method.
unfoldable pub lacking : List ℕ → List ℕ → Wanted → Bool
unfolding lacks any upto
lacking text tables q = eqb q.kind domain_kind && any (lacks text tables q) (upto (λ d. d) (class_count tables))

-- Whether the row holds a lock that clashes with (M, true) on class d.
unfoldable pub class_meets : List ℕ → ℕ → ℕ → Bool
unfolding meets
class_meets row d commuting = meets (bit_or (get_or row (class_locks_at + d) 0) (get_or row (whole_locks_at + d) 0)) commuting

-- Whether the row holds a lock that clashes with the send's: "they are on one object, or on one class with at least one true"
unfoldable pub row_meets : List ℕ → List ℕ → Wanted → List ℕ → Bool
unfolding meets class_meets class_word commuting_in concerns any upto
row_meets text tables q row =
    cond (eqb q.kind object_kind)
    (meets (bit_or (get_or row (object_locks_at + q.number) 0) (get_or row (whole_locks_at + q.class) 0)) (class_word tables q.class (commuting_at + q.place)))
    (cond (eqb q.kind class_kind)
    (class_meets row q.class (class_word tables q.class (commuting_at + q.place)))
    (any (λ d. concerns text tables q d && class_meets row d (commuting_in text tables q d)) (upto (λ d. d) (class_count tables))))

abbrev pub with_lock : List ℕ → ℕ → ℕ → List ℕ
with_lock row i place = with_bits row i (2 ^ place)

-- The row with a domain's lock on class d, where the send locks it.
abbrev pub domain_lock : List ℕ → List ℕ → Wanted → List ℕ → ℕ → List ℕ
domain_lock text tables q row d = cond (concerns text tables q d) (with_lock row (whole_locks_at + d) (place_in text tables q d)) row

-- The row with the send's locks.
unfoldable pub locked : List ℕ → List ℕ → Wanted → List ℕ → List ℕ
unfolding place_in concerns fold upto
locked text tables q row =
    cond (eqb q.kind object_kind) (with_lock (with_lock row (object_locks_at + q.number) q.place) (class_locks_at + q.class) q.place)
    (cond (eqb q.kind class_kind) (with_lock row (whole_locks_at + q.class) q.place)
    (fold (domain_lock text tables q) row (upto (λ d. d) (class_count tables))))

-- Whether a send to a domain locks class d, and the row has not that lock.
unfoldable pub misses : List ℕ → List ℕ → Wanted → List ℕ → ℕ → Bool
unfolding concerns place_in bit
misses text tables q row d = concerns text tables q d && not (bit (get_or row (whole_locks_at + d) 0) (place_in text tables q d))

-- Whether the row holds every lock that the send takes (02, Ticket 7: "a send whose locks its slot already holds").
unfoldable pub owns_locks : List ℕ → List ℕ → Wanted → List ℕ → Bool
unfolding misses any upto bit
owns_locks text tables q row =
    cond (eqb q.kind object_kind) (bit (get_or row (object_locks_at + q.number) 0) q.place && bit (get_or row (class_locks_at + q.class) 0) q.place)
    (cond (eqb q.kind class_kind) (bit (get_or row (whole_locks_at + q.class) 0) q.place)
    (not (any (misses text tables q row) (upto (λ d. d) (class_count tables)))))

-- ---- the message

-- Where a message starts: on an object, with its method's first statement there and the one past its last; past the last object,
-- where there is none to visit; or nowhere, where there is no such target or method, or its first object has no such method.
pub data First : Type 0 where
  on : ℕ → ℕ → ℕ → First
  past : ℕ → First
  nowhere : First

abbrev pub first_on : ℕ → Option Member → First
first_on o none = nowhere
first_on o (some b) = on o b.first (b.first + b.count)

abbrev pub first_found : List ℕ → List ℕ → Wanted → First
first_found text tables q =
    let o = object_from tables q.kind q.number 0 in
    cond (ltb o (object_count tables)) (first_on o (body_at text tables (object_word tables o object_class_at) q.place q.name)) (past o)

unfoldable pub first_of : List ℕ → List ℕ → Wanted → First
unfolding is_sendable object_from body_at object_word
first_of text tables q = cond (is_sendable tables q) (first_found text tables q) nowhere

-- The row with a running message: its target, name and argument.
unfoldable pub named_row : Wanted → List ℕ → List ℕ
named_row q row = set (set (set (set (set row phase_at running_phase) kind_at q.kind) number_at q.number) name_at q.name) argument_at q.argument

-- The row with the message past the last object.
unfoldable pub past_row : ℕ → List ℕ → List ℕ
past_row o row = set (set (set (set row object_at o) depth_at 0) steps_at 0) sum_at 0

-- The row with the message at its start; unchanged where the message starts nowhere.
unfoldable pub entered : Wanted → First → List ℕ → List ℕ
unfolding named_row past_row object_row
entered q (on o first end) row = object_row o first end 0 (named_row q row)
entered q (past o) row = past_row o (named_row q row)
entered q nowhere row = row
