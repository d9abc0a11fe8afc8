-- A send's locks over the state, class by class, and its message written into its slot's row.
use Prim.Native.Nat.{ℕ, zero, suc, ◌+◌, ◌-◌, ◌/◌, ◌%◌, ◌^◌, ◌≤◌, ◌<◌}
use Rattle.std.proofs.Common.{arith, add-one, ap₂, ◌∙◌}
use Rattle.std.specs.Prelude.{◌≡◌, Bool, true, false, cond, get_or, take, drop, eqb}
use Rattle.std.proofs.Math.Path.{refl, sym, ap}
use mathlib.Core.List.{List, [], ◌∷◌, ◌++◌}
use Rattle.std.proofs.Math.ListN.{length, length-set}
use Rattle.std.proofs.lemmas.List.Edits.{sets}
use Rattle.std.proofs.Math.Seq.{length-sets}
use Rattle.std.specs.Int.Bits.{bit_or}
use borrow.Author.Tests.{eq-eqb, ne_eqb, eqb-false}
use Rattle.layout.specs.Layout.{table_words, lock_marks_at, object_locks_at, class_locks_at, whole_locks_at, row_words}
use Rattle.model.specs.Base.{fold, upto}
use Rattle.catalog.specs.View.{class_count}
use Rattle.machine_words.specs.Row.{lock_marked, with_bits, object_row, new_act, with_act}
use Rattle.machine_words.specs.Request.{Wanted, domain_lock, locked, concerns, with_lock, place_in, First, on, past, nowhere, named_row, past_row, entered}
use Rattle.machine_words.specs.Line.{tables_of, row_start, row_of, with_row}
use Rattle.machine_words.specs.Spans.{take_sets, span_length, sets_own, lent_sets, sets_same, sets_sets}
use Rattle.machine_take.specs.Locking.{domain_bit, locked_target, domain_lock_law, domain_free, locked_object, locked_class}
use Rattle.machine_checks.specs.Lent.{Within, Span, part, lent_at, part_at}

-- ---- the locks of a domain, class by class

fold_append : {A B : Type 0} (f : B → A → B) (b : B) (xs ys : List A) → fold f b (xs ++ ys) ≡ fold f (fold f b xs) ys
unfolding fold
fold_append f b [] ys = refl
fold_append f b (x ∷ xs) ys = fold_append f (f b x) xs ys

bits_length : (row : List ℕ) (i bits : ℕ) → length (with_bits row i bits) ≡ length row
bits_length row i bits = length-set (lock_marked row i) i (bit_or (get_or row i 0) bits) ∙ length-set row lock_marks_at (bit_or (get_or row lock_marks_at 0) (2 ^ (i / 8 % 32)))

lock_length : (text tables : List ℕ) (q : Wanted) (row : List ℕ) (d : ℕ) → length (domain_lock text tables q row d) ≡ length row
lock_length text tables q row d = go (concerns text tables q d)
  where
    go : (t : Bool) → length (cond t (with_lock row (whole_locks_at + d) (place_in text tables q d)) row) ≡ length row
    go true = bits_length row (whole_locks_at + d) (2 ^ place_in text tables q d)
    go false = refl

module _ (text tables : List ℕ) (q : Wanted) (row : List ℕ) where
  -- The row with the locks on the classes below d.
  abbrev pub locked_below : ℕ → List ℕ
  locked_below d = fold (domain_lock text tables q) row (upto (λ d. d) d)

  below_more : (d : ℕ) → locked_below (suc d) ≡ domain_lock text tables q (locked_below d) d
  unfolding fold upto
  below_more d = fold_append (domain_lock text tables q) row (upto (λ d. d) d) (d ∷ [])

  pub below_length : (d : ℕ) → length (locked_below d) ≡ length row
  unfolding fold upto
  below_length zero = refl
  below_length (suc d) = ap length (below_more d) ∙ lock_length text tables q (locked_below d) d ∙ below_length d

  pub domain_locked : 2 ≤ q.kind → locked_below (class_count tables) ≡ locked text tables q row
  unfolding locked
  domain_locked h = rw (ne_eqb q.kind 0 (λ e. omega arith), ne_eqb q.kind 1 (λ e. omega arith))

  pub target_locked : q.kind < 2 → q.place < 32 → locked_target q row ≡ locked text tables q row
  target_locked h l = go (eqb q.kind 0) refl
    where
      go : (t : Bool) → eqb q.kind 0 ≡ t → locked_target q row ≡ locked text tables q row
      go true t = sym (locked_object text tables q row l t)
      go false t = sym (locked_class text tables q row l t (eq-eqb q.kind 1 (omega (arith, eqb-false q.kind 0 t))))

  pub locked_length : length (locked text tables q row) ≡ length row
  unfolding locked
  locked_length = go (eqb q.kind 0) (eqb q.kind 1)
    where
      once : (r : List ℕ) (i p : ℕ) → length (with_lock r i p) ≡ length r
      once r i p = bits_length r i (2 ^ p)

      go : (a b : Bool) → length (cond a (with_lock (with_lock row (object_locks_at + q.number) q.place) (class_locks_at + q.class) q.place)
          (cond b (with_lock row (whole_locks_at + q.class) q.place) (locked_below (class_count tables)))) ≡ length row
      go true b = once (with_lock row (object_locks_at + q.number) q.place) (class_locks_at + q.class) q.place ∙ once row (object_locks_at + q.number) q.place
      go false true = once row (whole_locks_at + q.class) q.place
      go false false = below_length (class_count tables)

pub entered_length : (q : Wanted) (f : First) (row : List ℕ) → length (entered q f row) ≡ length row
entered_length q (on o first end) row = unfold entered named_row object_row new_act with_act in simp length-set
entered_length q (past o) row = unfold entered named_row past_row in simp length-set
entered_length q nowhere row = unfold entered in refl

-- ---- over the state

-- The message, written into the lent row.
pub entered_lent : (ws : List ℕ) (s : ℕ) → Within ws s → (a e : ℕ) → a ≡ row_start s → e ≡ row_start s + row_words → (q : Wanted) (f : First) (row : List ℕ)
    → length row ≡ row_words → row ≡ entered q f (take (e - a) (drop a ws)) → take a ws ++ (row ++ drop (e - a) (drop a ws)) ≡ with_row ws s (entered q f (row_of ws s))
entered_lent ws s h a e b c q f row long r = lent_at ws s h a e b c row (entered q f (row_of ws s)) long (r ∙ ap (entered q f) (part_at ws s a e b c))

-- A part of the state written again: what it holds then is made from what was written before.
pub written_again : (ws : List ℕ) (at size : ℕ) → at + size ≤ length ws → (f : List ℕ → List ℕ) → ((l : List ℕ) → length (f l) ≡ length l)
    → (now now' part : List ℕ) → length part ≡ size → now ≡ sets ws at part → now' ≡ sets now at (f (take size (drop at now))) → now' ≡ sets ws at (f part)
written_again ws at size fits f same now now' part long e r =
    let room : at + length part ≤ length ws = omega (arith, fits, long) in
    let own : take size (drop at now) ≡ part =
    ap (λ (x : List ℕ). take size (drop at x)) e ∙ ap (λ (n : ℕ). take n (drop at (sets ws at part))) (sym long) ∙ sets_same ws at part room in
    r ∙ ap₂ (λ (x l : List ℕ). sets x at (f l)) e own ∙ sets_sets ws at part room (f part) (same part)

-- A send's locks, in the part of the state that starts at `at`: a slot's row, or the words of its waiting send.
module _ (text ws : List ℕ) (at size : ℕ) (h : Span ws at size) (q : Wanted) where
  -- The part as it is lent, from where it begins to where it ends.
  span_is : take (at + size - at) (drop at ws) ≡ take size (drop at ws)
  span_is = let k : at + size - at ≡ size = omega arith in ap (λ (n : ℕ). take n (drop at ws)) k

  abbrev below : ℕ → List ℕ
  below d = locked_below text (tables_of ws) q (take size (drop at ws)) d

  long : (d : ℕ) → length (below d) ≡ size
  long d = below_length text (tables_of ws) q (take size (drop at ws)) d ∙ span_length ws at size h.fits

  pub lock_none : ws ≡ sets ws at (below 0)
  unfolding fold upto
  lock_none = sym (sets_own ws at size h.fits)

  module _ (now : List ℕ) (d : ℕ) (e : now ≡ sets ws at (below d)) where
    pub below_same : length now ≡ length ws
    below_same = ap length e ∙ length-sets ws at (below d)

    pub below_span : Span now at size
    below_span = record { above = h.above; fits = omega (arith, h.fits, below_same) }

  -- One more class is locked.
  pub lock_more : (now now' : List ℕ) (d : ℕ) → now ≡ sets ws at (below d) → now' ≡ sets now at (domain_lock text (tables_of now) q (take size (drop at now)) d)
      → now' ≡ sets ws at (below (d + 1))
  lock_more now now' d e r =
      let tables : tables_of now ≡ tables_of ws = ap tables_of e ∙ take_sets (below d) ws table_words at h.above in
      let r' = r ∙ ap (λ (t : List ℕ). sets now at (domain_lock text t q (take size (drop at now)) d)) tables in
      written_again ws at size h.fits (λ l. domain_lock text (tables_of ws) q l d) (λ l. lock_length text (tables_of ws) q l d) now now' (below d) (long d) e r'
      ∙ ap (sets ws at) (sym (below_more text (tables_of ws) q (take size (drop at ws)) d))
      ∙ ap (λ (n : ℕ). sets ws at (below n)) (sym (add-one d))

  -- One class's lock, in the lent part.
  pub lock_one : (d bits : ℕ) → bits ≡ domain_bit text (tables_of ws) q d → (bits ≡ 0 → ⊥) → (part : List ℕ) → length part ≡ size
      → part ≡ with_bits (take (at + size - at) (drop at ws)) (whole_locks_at + d) bits
      → take at ws ++ (part ++ drop (at + size - at) (drop at ws)) ≡ sets ws at (domain_lock text (tables_of ws) q (take size (drop at ws)) d)
  lock_one d bits b taken part size' r =
      lent_sets ws at size h.fits part (domain_lock text (tables_of ws) q (take size (drop at ws)) d) size'
      (r ∙ ap (λ (l : List ℕ). with_bits l (whole_locks_at + d) bits) span_is ∙ domain_lock_law text (tables_of ws) q d (take size (drop at ws)) bits b taken)

  pub lock_free : (d bits : ℕ) → bits ≡ domain_bit text (tables_of ws) q d → bits ≡ 0 → ws ≡ sets ws at (domain_lock text (tables_of ws) q (take size (drop at ws)) d)
  lock_free d bits b free =
      sym (sets_own ws at size h.fits) ∙ ap (sets ws at) (domain_free text (tables_of ws) q d (take size (drop at ws)) bits b free)

  -- The lock of a send to an object or to a class's own objects, in the lent part.
  pub lock_target : q.kind < 2 → q.place < 32 → (part : List ℕ) → length part ≡ size → part ≡ locked_target q (take (at + size - at) (drop at ws))
      → take at ws ++ (part ++ drop (at + size - at) (drop at ws)) ≡ sets ws at (locked text (tables_of ws) q (take size (drop at ws)))
  lock_target k l part size' r =
      lent_sets ws at size h.fits part (locked text (tables_of ws) q (take size (drop at ws))) size'
      (r ∙ ap (locked_target q) span_is ∙ target_locked text (tables_of ws) q (take size (drop at ws)) k l)

-- A slot's row is such a part.
pub row_span : (ws : List ℕ) (s : ℕ) → Within ws s → Span ws (row_start s) row_words
row_span ws s h = record { above = omega arith; fits = omega (arith, h.slot, h.long) }
