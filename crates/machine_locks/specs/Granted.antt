-- A send that is granted: it starts, or joins the line, or is refused.
use Rattle.std.specs.Prelude.{ℕ, ◌+◌, ◌-◌, ◌++◌, ◌≤◌, ◌<◌, ◌≡◌, refl, Bool, true, false, cond, List, length, take, drop}
use Rattle.std.proofs.Common.{arith, ap₂, subst, ◌∙◌, le-leb}
use Rattle.std.proofs.lemmas.List.Edits.{sets}
use Rattle.std.proofs.Math.Path.{sym, ap}
use Rattle.std.proofs.Math.Option.{Option, some}
use Rattle.std.specs.Int.Count.{count_trailing_zeros}
use Rattle.std.proofs.lemmas.Bool.{lt-leb}
use Rattle.layout.specs.Layout.{table_words, object_locks_at, class_locks_at, row_words}
use Rattle.catalog.specs.View.{member_at}
use Rattle.machine_words.specs.Row.{with_bits}
use Rattle.catalog.specs.Bodies.{named_at}
use Rattle.machine_words.specs.Request.{Wanted, owns_locks, locked, First, on, past, nowhere, first_of, entered}
use Rattle.machine_words.specs.Line.{tables_of, row_start, row_of, with_row, count_in, in_the_way, obstacle, closes_circle}
use Rattle.machine_words.specs.Calls.{Lent, refused, started_at, started_or, joined_at, joined_or, first_in, arrived_or, granted_or, granted}
use Rattle.machine_words.specs.Spans.{take_sets}
use Rattle.machine_take.specs.Taken.{target_locked, locked_length, entered_length, written_again, row_span}
use Rattle.machine_take.specs.Locking.{place_bit, object_locked}
use Rattle.machine_checks.specs.Lent.{Within, part_at, lent_at}
use Rattle.machine_conflicts.specs.Way.{gathered, least_none, least_some}
use Rattle.machine_locks.specs.OneObject.{ToObject, first_there}

-- ---- started, in the line, or refused

-- The message starts at f.
module _ (x : Lent) (s : ℕ) (q : Wanted) (f : First) (p : f ≡ first_in x q) where
  pub starts_nowhere : f ≡ nowhere → refused x 24 ≡ started_or x s q (first_in x q)
  starts_nowhere n = ap (started_or x s q) (sym n ∙ p)

  pub starts_there : (f ≡ nowhere → ⊥) → started_at x s q f ≡ started_or x s q (first_in x q)
  starts_there n = go f n ∙ ap (started_or x s q) p
    where
      go : (g : First) → (g ≡ nowhere → ⊥) → started_at x s q g ≡ started_or x s q g
      go (on o first end) n = refl
      go (past o) n = refl
      go nowhere n = absurd (n refl)

-- The slots in the way of a send that needs a new lock, as a mask.
module _ (x : Lent) (s : ℕ) (q : Wanted) (mask count : ℕ) (c : count ≡ count_in x.words) (e : mask ≡ gathered (in_the_way x.text x.words count s q) 8) where
  -- Whether a slot is in its way.
  abbrev way : ℕ → Bool
  way = in_the_way x.text x.words (count_in x.words) s q

  abbrev lowest : Option ℕ
  lowest = obstacle x.text x.words (count_in x.words) s q

  mask_is : mask ≡ gathered way 8
  mask_is = e ∙ ap (λ (n : ℕ). gathered (in_the_way x.text x.words n s q) 8) c

  pub arrives_free : mask ≡ 0 → started_or x s q (first_in x q) ≡ arrived_or x s q lowest
  unfolding obstacle
  arrives_free z = ap (arrived_or x s q) (sym (least_none way 8 (sym mask_is ∙ z)))

  module _ (z : mask ≡ 0 → ⊥) where
    held_up : joined_or x s q (count_trailing_zeros 32 mask) ≡ arrived_or x s q lowest
    unfolding obstacle
    held_up =
        ap (arrived_or x s q)
        (ap (λ (m : ℕ). some (count_trailing_zeros 32 m)) mask_is ∙ sym (least_some way 32 8 (omega arith) (λ y. z (mask_is ∙ y))))

    pub arrives_full : 8 ≤ count → refused x 24 ≡ arrived_or x s q lowest
    arrives_full l =
        let t : ℕ = count_trailing_zeros 32 mask in
        ap (λ (b : Bool). cond b (refused x 24) (cond (closes_circle x.text x.words s q) (refused x 42) (joined_at x s q t)))
        (sym (le-leb 8 (count_in x.words) (omega (arith, c))))
        ∙ held_up

    -- .. with a place left in the line, by whether it closes a circle.
    pub arrives_last : count < 8 → (b : Bool) → b ≡ closes_circle x.text x.words s q
        → cond b (refused x 42) (joined_at x s q (count_trailing_zeros 32 mask)) ≡ arrived_or x s q lowest
    arrives_last l b r =
        let t : ℕ = count_trailing_zeros 32 mask in
        ap₂ (λ (full circle : Bool). cond full (refused x 24) (cond circle (refused x 42) (joined_at x s q t)))
        (sym (lt-leb 8 (count_in x.words) (omega (arith, c)))) r
        ∙ held_up

-- By whether the slot holds the send's locks already.
pub granted_by : (x : Lent) (s : ℕ) (q : Wanted) (b : Bool) → b ≡ owns_locks x.text (tables_of x.words) q (row_of x.words s) → (t : Bool) → b ≡ t
    → granted_or x s q t ≡ granted x s q
unfolding granted
granted_by x s q b e t i = ap (granted_or x s q) (sym i ∙ e)

-- A send that nobody is in the way of starts, whether it needs a new lock or not.
pub granted_free : (x : Lent) (s : ℕ) (q : Wanted) → 0 ≡ gathered (in_the_way x.text x.words (count_in x.words) s q) 8
    → started_or x s q (first_in x q) ≡ granted x s q
unfolding granted
granted_free x s q e = go (owns_locks x.text (tables_of x.words) q (row_of x.words s))
  where
    go : (b : Bool) → started_or x s q (first_in x q) ≡ granted_or x s q b
    go true = refl
    go false = arrives_free x s q 0 (count_in x.words) refl e refl

-- The locks in a slot's row, which begins at a.
pub lock_at : (text was now : List ℕ) (q : Wanted) (s a : ℕ) → a ≡ row_start s → now ≡ sets was a (locked text (tables_of was) q (take row_words (drop a was)))
    → now ≡ with_row was s (locked text (tables_of was) q (take row_words (drop (row_start s) was)))
lock_at text was now q s a e l = subst (λ (i : ℕ). now ≡ sets was i (locked text (tables_of was) q (take row_words (drop i was)))) e l

module _ (text ws : List ℕ) (s : ℕ) (h : Within ws s) (q : Wanted) where
  -- The locks, then the message.
  module _ (f : First) (now now' row : List ℕ) (long : length row ≡ row_words) where
    pub locked_entered : now ≡ with_row ws s (locked text (tables_of ws) q row) → now' ≡ with_row now s (entered q f (row_of now s))
        → now' ≡ with_row ws s (entered q f (locked text (tables_of ws) q row))
    unfolding row_of
    locked_entered e r =
        written_again ws (row_start s) row_words (row_span ws s h).fits (entered q f) (entered_length q f) now now' (locked text (tables_of ws) q row)
        (locked_length text (tables_of ws) q row ∙ long) e r

    -- The locks of a row that was written before.
    pub again_entered : (was : List ℕ) → was ≡ with_row ws s row → now ≡ with_row was s (locked text (tables_of was) q (take row_words (drop (row_start s) was)))
        → now' ≡ with_row now s (entered q f (row_of now s)) → now' ≡ with_row ws s (entered q f (locked text (tables_of ws) q row))
    again_entered was e l r =
        let tables : tables_of was ≡ tables_of ws = ap tables_of e ∙ take_sets row ws table_words (row_start s) (row_span ws s h).above in
        let l' = l ∙ ap (λ (t : List ℕ). with_row was s (locked text t q (take row_words (drop (row_start s) was)))) tables in
        locked_entered
        (written_again ws (row_start s) row_words (row_span ws s h).fits (locked text (tables_of ws) q) (locked_length text (tables_of ws) q) was now row long e l') r

  -- Both in the lent row, for a send to an object: its locks are held on the object and on its class. The row stands from a to z.
  pub taken_lent : (a z : ℕ) → a ≡ row_start s → z ≡ row_start s + row_words → ToObject (tables_of ws) q → (f : First) → f ≡ first_of text (tables_of ws) q → (bits : ℕ) → bits ≡ place_bit q.place
      → (one row row' : List ℕ) → one ≡ with_bits (take (z - a) (drop a ws)) (object_locks_at + q.number) bits → row ≡ with_bits one (class_locks_at + q.class) bits
      → length row' ≡ row_words → row' ≡ entered q f row
      → take a ws ++ (row' ++ drop (z - a) (drop a ws)) ≡ with_row ws s (entered q (first_of text (tables_of ws) q) (locked text (tables_of ws) q (row_of ws s)))
  taken_lent a z p w t f e bits b one row row' o r long r' =
      let held : List ℕ = locked text (tables_of ws) q (row_of ws s) in
      let is : row ≡ held =
      r ∙ ap (λ (l : List ℕ). with_bits l (class_locks_at + q.class) bits) (o ∙ ap (λ (l : List ℕ). with_bits l (object_locks_at + q.number) bits) (part_at ws s a z p w))
      ∙ ap (λ (x : ℕ). with_bits (with_bits (row_of ws s) (object_locks_at + q.number) x) (class_locks_at + q.class) x) b ∙ object_locked q (row_of ws s) t.kind_is
      ∙ target_locked text (tables_of ws) q (row_of ws s) (omega (arith, t.kind_is)) t.few in
      lent_at ws s h a z p w row' (entered q (first_of text (tables_of ws) q) held) long (r' ∙ ap₂ (entered q) e is)

-- A send that starts at once starts on an object.
pub at_once_there : (text tables : List ℕ) (q : Wanted) → ToObject tables q → named_at tables q.class q.place q.name ≡ true → first_of text tables q ≡ nowhere → ⊥
at_once_there text tables q o w e =
    let b = member_at text tables q.class 1 q.place in
    let f = first_there text tables q o w b.first (b.first + b.count) (record { first_is = refl; end_is = refl }) in
    let z : ◌≡◌ {A = ℕ} 0 1 = cc in
    omega arith
