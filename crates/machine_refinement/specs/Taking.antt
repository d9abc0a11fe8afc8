-- A send's locks as they are taken: the row then holds them besides those that it held, and is otherwise unchanged.
use Prim.Native.Nat.{ℕ, ◌+◌, ◌/◌, ◌%◌, ◌^◌, ◌≤◌, ◌<◌}
use Rattle.std.proofs.Common.{arith, sym, ◌∙◌, length-set, ltb-true, ltb-false}
use Rattle.std.specs.Prelude.{◌≡◌, ◌≢◌, Bool, cond, ◌&&◌, ◌||◌, get_or, eqb}
use Rattle.std.proofs.Math.Path.{refl, ap, ap₂, subst}
use Rattle.std.proofs.Math.Bool.{true, false}
use mathlib.Core.List.{List, [], ◌∷◌, ◌++◌, map, Memᴰ}
use Rattle.std.proofs.Math.ListN.{length}
use Rattle.std.specs.Int.Bits.{bit_or}
use Rattle.std.proofs.Math.Dec.{ltb}
use Rattle.std.proofs.lemmas.Bool.{eqb-false}
use Rattle.layout.specs.Layout.{lock_marks_at, object_locks_at, class_locks_at, whole_locks_at, marks_at, notes_at}
use Rattle.model.specs.Base.{fold, any, keep, upto}
use Rattle.model.specs.Word.{Name}
use Rattle.model.specs.Library.{class_at, member_place}
use Rattle.model.specs.Vector.{Program}
use Rattle.model.specs.Message.{Target}
use Rattle.model.specs.Message as Model
use Rattle.model.specs.Lock.{Lock, on_object, on_class, domain_of, locks_for, same_lock}
use Rattle.text_theory.specs.Accepted.{or_false}
use Rattle.catalog.specs.View.{class_count, object_count, member_count}
use Rattle.laws.specs.Bits.{bit, bit_or_law, bit_one}
use Rattle.machine_words.specs.Row.{lock_marked, with_bits}
use Rattle.machine_words.specs.Request.{Wanted, place_in, concerns, with_lock, domain_lock, locked, wanted}
use Rattle.machine_refinement.specs.Rep.{Fits, lock_word, lock_bit, Holdable, Holds, Clean, method_of, Aims, one, each, whole}
use Rattle.machine_refinement.specs.Tables.{class_total, method_total, class_is}
use Rattle.machine_refinement.specs.Stores.{else_word, new_word}
use Rattle.machine_refinement.specs.Locks.{known_word, taken, taken_holds, useless_holds, holds_same}
use Rattle.machine_refinement.specs.Clashes.{below_count}
use Rattle.machine_refinement.specs.RowTest.{class_known, object_known, method_place, place_there, domain_there}

-- ---- the order of locks

or_swap : (a b c : Bool) → (a || (b || c)) ≡ (b || (a || c))
or_swap true true c = refl
or_swap true false c = refl
or_swap false true c = refl
or_swap false false c = refl

-- A lock in the middle of a list counts as one at its front.
any_middle : (q : Lock → Bool) (xs : List Lock) (y : Lock) (ys : List Lock) → any q (xs ++ (y ∷ ys)) ≡ any q (y ∷ (xs ++ ys))
unfolding any
any_middle q [] y ys = refl
any_middle q (x ∷ xs) y ys = ap (λ (b : Bool). q x || b) (any_middle q xs y ys) ∙ or_swap (q x) (q y) (any q (xs ++ ys))

-- ---- what a row keeps

pub record Took (p : Program) (row row' : List ℕ) (held : List Lock) : Type 0 where
  pub long : length row' ≡ length row
  pub kept : (i : ℕ) → i ≢ 10 → (object_locks_at ≤ i → i < marks_at → ⊥) → get_or row' i 0 ≡ get_or row i 0
  pub clean : Clean row → Clean row'
  pub holds : Holds p row' held

took_more : (p : Program) (row row₁ row₂ : List ℕ) (held held₂ : List Lock) → Took p row row₁ held → Took p row₁ row₂ held₂ → Took p row row₂ held₂
took_more p row row₁ row₂ held held₂ a b =
    record { long = b.long ∙ a.long; kept = λ i ne out. b.kept i ne out ∙ a.kept i ne out; clean = λ c. b.clean (a.clean c); holds = b.holds }

-- ---- a word with locks, and its mark

module _ (row : List ℕ) (size : marks_at ≤ length row) (w bits : ℕ) (from : object_locks_at ≤ w) (end : w < marks_at) where
  abbrev word : ℕ
  word = bit_or (get_or row w 0) bits

  abbrev mark : ℕ
  mark = bit_or (get_or row lock_marks_at 0) (2 ^ (w / 8 % 32))

  marked_long : length (with_bits row w bits) ≡ length row
  marked_long = length-set (lock_marked row w) w word ∙ length-set row lock_marks_at mark

  marked_other : (i : ℕ) → i ≢ 10 → i ≢ w → get_or (with_bits row w bits) i 0 ≡ get_or row i 0
  marked_other i n m = else_word (lock_marked row w) w word i m ∙ else_word row lock_marks_at mark i n

  mark_is : (d : ℕ) → bit (get_or (with_bits row w bits) lock_marks_at 0) d ≡ (bit (get_or row lock_marks_at 0) d || eqb (w / 8) d)
  mark_is d =
      let low : w / 8 % 32 ≡ w / 8 = omega arith in
      ap (λ (m : ℕ). bit m d) (else_word (lock_marked row w) w word 10 (omega arith) ∙ new_word row lock_marks_at mark (omega arith))
      ∙ bit_or_law (get_or row lock_marks_at 0) (2 ^ (w / 8 % 32)) d ∙ ap (λ (b : Bool). bit (get_or row lock_marks_at 0) d || b) (bit_one (w / 8 % 32) d (omega arith))
      ∙ ap (λ (b : ℕ). bit (get_or row lock_marks_at 0) d || eqb b d) low

  marked_clean : Clean row → Clean (with_bits row w bits)
  marked_clean clean =
      record {
        notes = λ k h e. marked_other (notes_at + k) (omega arith) (omega arith)
            ∙ clean.notes k h (ap (λ (m : ℕ). bit m (k % 32)) (sym (marked_other (marks_at + k / 32) (omega arith) (omega arith))) ∙ e);
        marks = λ e i g h. marked_other i (omega arith) (omega arith) ∙ clean.marks (sym (marked_other 9 (omega arith) (omega arith)) ∙ e) i g h;
        spare = λ i g h. marked_other i (omega arith) (omega arith) ∙ clean.spare i g h;
        locks = λ i g h e.
            let free = or_false (bit (get_or row lock_marks_at 0) (i / 8)) (eqb (w / 8) (i / 8)) (sym (mark_is (i / 8)) ∙ e) in
            marked_other i (omega arith) (λ z. eqb-false (w / 8) (i / 8) free.1 (ap (λ (j : ℕ). j / 8) (sym z))) ∙ clean.locks i g h free.0;
        calls = λ z.
            let s = clean.calls (sym (marked_other 11 (omega arith) (omega arith)) ∙ z) in
            (omega (arith, marked_other 1 (omega arith) (omega arith), s.0), λ i g h. marked_other i (omega arith) (omega arith) ∙ s.1 i g h);
      }

module _ (text tables : List ℕ) (p : Program) (fits : Fits text tables p) where
  took_one : (row : List ℕ) → marks_at ≤ length row → (y : Lock) → Holdable p y → (held : List Lock) → Holds p row held → Took p row (taken p row y) (y ∷ held)
  took_one row size y can held holds =
      let w = known_word text tables p fits y can.0 in
      let bits = 2 ^ lock_bit p y in
      record {
        long = marked_long row size (lock_word y) bits w.0 w.1;
        kept = λ i ne out. marked_other row size (lock_word y) bits w.0 w.1 i ne
            (λ e. out (subst (λ (j : ℕ). object_locks_at ≤ j) (sym e) w.0) (subst (λ (j : ℕ). j < marks_at) (sym e) w.1));
        clean = marked_clean row size (lock_word y) bits w.0 w.1;
        holds = taken_holds text tables p fits row size y can held holds;
      }

  took_same : (row row' : List ℕ) (held held' : List Lock) → ((x : Lock) → any (same_lock x) held ≡ any (same_lock x) held') → Took p row row' held
      → Took p row row' held'
  took_same row row' held held' e t = record { long = t.long; kept = t.kept; clean = t.clean; holds = holds_same text tables p fits row' held held' e t.holds }

  module _ (c k a : ℕ) (h : c < class_count tables) (has : k < member_count tables c 1) where
    abbrev m : Name
    m = method_of p c k

    abbrev q : ℕ → ℕ → Wanted
    q kind n = wanted tables kind n c k a

    m_place : member_place (class_at p.library c).methods m ≡ k
    m_place = method_place text tables p fits c k a h has

    -- The locks of the method in its own class.
    pub class_can : (d : ℕ) (w : Bool) → d ≡ c → Holdable p (on_class d m w) × (lock_bit p (on_class d m w) ≡ k)
    unfolding lock_bit
    class_can d w e =
        let b : member_place (class_at p.library d).methods m ≡ k = ap (λ (i : ℕ). member_place (class_at p.library i).methods m) e ∙ m_place in
        let n : length (class_at p.library d).methods ≡ member_count tables c 1 =
        ap (λ (i : ℕ). length (class_at p.library i).methods) e ∙ method_total text tables p fits c h in
        ((class_known text tables p fits d m w (omega arith), omega arith), b)

    pub object_can : (o : ℕ) → o < object_count tables → Model.class_of p o ≡ c → Holdable p (on_object o m) × (lock_bit p (on_object o m) ≡ k)
    unfolding lock_bit
    object_can o l e = ((object_known text tables p fits o m l, (class_can (Model.class_of p o) true e).0.1), (class_can (Model.class_of p o) true e).1)

    -- ---- a domain

    abbrev lock : ℕ → Lock
    lock d = on_class d m true

    module _ (row : List ℕ) (size : marks_at ≤ length row) (held : List Lock) (holds : Holds p row held) where
      same_row : Took p row row held
      same_row = record { long = refl; kept = λ i ne out. refl; clean = λ c. c; holds = holds }

      took_class : (d : ℕ) → d < class_count tables → (b : Bool) → Model.in_domain p c d ≡ b
          → Took p row (domain_lock text tables (q 2 c) row d) (map lock (cond b (d ∷ []) []) ++ held)
      unfolding concerns lock_bit
      took_class d l b e =
          subst (λ (x : Bool). Took p row (cond x (with_lock row (whole_locks_at + d) there) row) (map lock (cond b (d ∷ []) []) ++ held))
          (sym (ap (λ (x : Bool). x && ltb there count) (domain_there text tables p fits c k a h has 2 d l ∙ e))) (go b (ltb there count) refl)
        where
          there : ℕ
          there = place_in text tables (q 2 c) d

          count : ℕ
          count = member_count tables d 1

          there_is : there ≡ lock_bit p (lock d)
          there_is = place_there text tables p fits c k a h has 2 c d l

          total : length (class_at p.library d).methods ≡ count
          total = method_total text tables p fits d l

          go : (b w : Bool) → ltb there count ≡ w → Took p row (cond (b && w) (with_lock row (whole_locks_at + d) there) row) (map lock (cond b (d ∷ []) []) ++ held)
          go true true f =
              subst (λ (i : ℕ). Took p row (with_lock row (whole_locks_at + d) i) (lock d ∷ held)) (sym there_is)
              (took_one row size (lock d) (class_known text tables p fits d m true l, omega (arith, ltb-true there count f, there_is, total)) held holds)
          go true false f =
              record {
                long = refl;
                kept = λ i ne out. refl;
                clean = λ c. c;
                holds = useless_holds text tables p fits row (lock d) held
                    (omega (arith, ltb-false there count f, there_is, total)) holds;
              }
          go false w f = same_row

    took_domain : (ds : List ℕ) → ((d : ℕ) → Memᴰ d ds → d < class_count tables) → (row : List ℕ) → marks_at ≤ length row → (held : List Lock) → Holds p row held
        → Took p row (fold (domain_lock text tables (q 2 c)) row ds) (map lock (keep (Model.in_domain p c) ds) ++ held)
    unfolding fold keep
    took_domain [] inside row size held holds = same_row row size held holds
    took_domain (d ∷ ds) inside row size held holds =
        go (Model.in_domain p c d) (took_class row size held holds d (inside d (Memᴰ.head refl)) (Model.in_domain p c d) refl)
        (took_domain ds (λ e i. inside e (Memᴰ.tail i)) row')
      where
        row' : List ℕ
        row' = domain_lock text tables (q 2 c) row d

        rest : List Lock
        rest = map lock (keep (Model.in_domain p c) ds)

        go : (b : Bool) → Took p row row' (map lock (cond b (d ∷ []) []) ++ held)
            → (marks_at ≤ length row' → (held : List Lock) → Holds p row' held → Took p row' (fold (domain_lock text tables (q 2 c)) row' ds) (rest ++ held))
            → Took p row (fold (domain_lock text tables (q 2 c)) row' ds)
            (map lock (cond b (d ∷ keep (Model.in_domain p c) ds) (keep (Model.in_domain p c) ds)) ++ held)
        go true t later =
            let last = fold (domain_lock text tables (q 2 c)) row' ds in
            took_same row last (rest ++ (lock d ∷ held)) (lock d ∷ (rest ++ held)) (λ x. any_middle (same_lock x) rest (lock d) held)
            (took_more p row row' last (lock d ∷ held) (rest ++ (lock d ∷ held)) t (later (omega (arith, t.long)) (lock d ∷ held) t.holds))
        go false t later =
            let last = fold (domain_lock text tables (q 2 c)) row' ds in
            took_more p row row' last held (rest ++ held) t (later (omega (arith, t.long)) held t.holds)

    -- ---- every target

    -- The row with the send's locks holds the model's list.
    pub took_locks : (row : List ℕ) → marks_at ≤ length row → (held : List Lock) → Holds p row held → (kind n : ℕ) (t : Target) → Aims tables c kind n t
        → Took p row (locked text tables (q kind n) row) (locks_for p t m ++ held)
    unfolding locked any domain_of
    took_locks row size held holds kind n t (one o l e) =
        let on : Model.class_of p o ≡ c = class_is text tables p fits o l ∙ e in
        let x = on_object o m in
        let y = on_class (Model.class_of p o) m false in
        let can-x = object_can o l on in
        let can-y = class_can (Model.class_of p o) false on in
        let first = took_one row size x can-x.0 held holds in
        let row₁ = taken p row x in
        let second = took_one row₁ (omega (arith, first.long)) y can-y.0 (x ∷ held) first.holds in
        let row₂ = taken p row₁ y in
        let is : row₂ ≡ with_lock (with_lock row (object_locks_at + o) k) (class_locks_at + c) k =
        ap₂ (λ (i j : ℕ). with_lock (with_lock row (object_locks_at + o) i) (class_locks_at + j) (lock_bit p y)) can-x.1 on
        ∙ ap (λ (i : ℕ). with_lock (with_lock row (object_locks_at + o) k) (class_locks_at + c) i) can-y.1 in
        subst (λ (z : List ℕ). Took p row z (x ∷ y ∷ held)) is
        (took_same row row₂ (y ∷ x ∷ held) (x ∷ y ∷ held) (λ z. or_swap (same_lock z y) (same_lock z x) (any (same_lock z) held))
        (took_more p row row₁ row₂ (x ∷ held) (y ∷ x ∷ held) first second))
    took_locks row size held holds kind n t each =
        let can = class_can c true refl in
        subst (λ (i : ℕ). Took p row (with_lock row (whole_locks_at + c) i) (on_class c m true ∷ held)) can.1 (took_one row size (on_class c m true) can.0 held holds)
    took_locks row size held holds kind n t whole =
        subst (λ (i : ℕ). Took p row (fold (domain_lock text tables (q 2 c)) row (upto (λ d. d) (class_count tables)))
        (map lock (keep (Model.in_domain p c) (upto (λ d. d) i)) ++ held))
        (sym (class_total text tables p fits))
        (took_domain (upto (λ d. d) (class_count tables)) (λ d i. below_count (class_count tables) i) row size held holds)
