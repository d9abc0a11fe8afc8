-- The waking of the line, slot by slot, as the code does it.
use Prim.Native.Nat.{ℕ, suc, ◌+◌, ◌-◌, ◌≤◌, ◌<◌}
use native.Mathlib.Omega.{arith}
use Rattle.std.proofs.Common.{add-one, sym, subst, ◌∙◌, ltb-true}
use Rattle.std.specs.Prelude.{◌≡◌, refl, Bool, true, false, cond, ◌&&◌, List, get_or, set, ltb}
use Rattle.std.proofs.Math.Path.{ap, ap₂}
use Rattle.std.proofs.Math.Option.{Option, none, some}
use Rattle.std.proofs.lemmas.List.{set-get_or}
use Rattle.layout.specs.Layout.{line_at}
use Rattle.laws.specs.Lists.{both_right}
use Rattle.catalog.specs.View.{class_count, member_count}
use Rattle.machine_words.specs.Turn.{target_there}
use Rattle.machine_words.specs.Request.{Wanted, is_sendable, First, on, past, nowhere, first_of}
use Rattle.machine_words.specs.Line.{tables_of, waiting_send, count_in, slot_at, in_the_way, obstacle, Waking, kept_at, started_from, started_or_kept, woken_or, is_waiting, woken_slot, woken_from, woken}
use Rattle.machine_conflicts.specs.Clashing.{few_members}
use Rattle.machine_conflicts.specs.Way.{gathered, least_none, least_some}

-- The words, and how many still wait, are those of the definition.
pub record Leaving (w : Waking) (waiting : ℕ) (words : List ℕ) : Type 0 where
  pub waiting_are : waiting ≡ w.waiting
  pub words_are : words ≡ w.words

pub leaving_as : {w w' : Waking} {n : ℕ} {ws : List ℕ} → w ≡ w' → Leaving w n ws → Leaving w' n ws
leaving_as {w} {w'} {n} {ws} e h = subst (λ (x : Waking). Leaving x n ws) e h

-- ---- a waiting send

-- By the slots in its way, as a mask, and by where it starts.
module _ (text ws : List ℕ) (n t : ℕ) (q : Wanted) (mask : ℕ) (e : mask ≡ gathered (in_the_way text ws n t q) 8) where
  pub still_blocked : (mask ≡ 0 → ⊥) → kept_at ws n t ≡ woken_or text ws n t q (obstacle text ws n t q)
  unfolding obstacle
  still_blocked z = ap (woken_or text ws n t q) (sym (least_some (in_the_way text ws n t q) 32 8 (omega arith) (λ x. z (e ∙ x))))

  module _ (z : mask ≡ 0) (f : First) (p : f ≡ first_of text (tables_of ws) q) where
    woken_or_law : started_or_kept text ws n t q f ≡ woken_or text ws n t q (obstacle text ws n t q)
    unfolding obstacle
    woken_or_law = ap (started_or_kept text ws n t q) p ∙ ap (woken_or text ws n t q) (sym (least_none (in_the_way text ws n t q) 8 (sym e ∙ z)))

    pub wakes_nowhere : f ≡ nowhere → kept_at ws n t ≡ woken_or text ws n t q (obstacle text ws n t q)
    wakes_nowhere x = ap (started_or_kept text ws n t q) (sym x) ∙ woken_or_law

    pub wakes_there : (f ≡ nowhere → ⊥) → started_from text ws n t q f ≡ woken_or text ws n t q (obstacle text ws n t q)
    wakes_there x = go f x ∙ woken_or_law
      where
        go : (g : First) → (g ≡ nowhere → ⊥) → started_from text ws n t q g ≡ started_or_kept text ws n t q g
        go (on o first end) y = refl
        go (past o) y = refl
        go nowhere y = absurd (y refl)

-- ---- a slot of the line

module _ (ws : List ℕ) (t : ℕ) where
  module _ (text : List ℕ) (n : ℕ) (b : Bool) (e : b ≡ is_waiting ws t) where
    pub leaves_line : b ≡ false → record { waiting = n; words = ws } ≡ woken_slot text ws n t
    unfolding woken_slot
    leaves_line z = rw (← e, z)

    pub wakes_slot : b ≡ true → (q : Wanted) → q ≡ waiting_send ws t
        → woken_or text ws n t q (obstacle text ws n t q) ≡ woken_slot text ws n t
    unfolding woken_slot
    wakes_slot z q w = rw (← e, z) (ap (λ (x : Wanted). woken_or text ws n t x (obstacle text ws n t x)) w)

-- A send that starts has a place below 32.
pub few_places : (text tables : List ℕ) (q : Wanted) (f : First) → f ≡ first_of text tables q → (f ≡ nowhere → ⊥) → q.place < 32
unfolding first_of is_sendable
few_places text tables q f e z = go (is_sendable tables q) refl
  where
    there : Bool
    there = target_there tables q.kind q.number && ltb q.class (class_count tables)

    go : (b : Bool) → is_sendable tables q ≡ b → q.place < 32
    go true t = omega (arith, ltb-true q.place (member_count tables q.class 1) (both_right there (ltb q.place (member_count tables q.class 1)) t), few_members tables q.class 1)
    go false t = absurd (z (e ∙ rw t))

-- At most one more waits.
slot_waiting : (text ws : List ℕ) (n t : ℕ) → (woken_slot text ws n t).waiting ≤ suc n
unfolding woken_slot
slot_waiting text ws n t = go (is_waiting ws t) (obstacle text ws n t q) (first_of text (tables_of ws) q)
  where
    q : Wanted
    q = waiting_send ws t

    started : (f : First) → (started_or_kept text ws n t q f).waiting ≤ suc n
    started (on o first end) = omega arith
    started (past o) = omega arith
    started nowhere = omega arith

    or : (k : Option ℕ) → (woken_or text ws n t q k).waiting ≤ suc n
    or none = started (first_of text (tables_of ws) q)
    or (some k) = omega arith

    go : (b : Bool) (k : Option ℕ) (f : First) → (cond b (woken_or text ws n t q k) (record { waiting = n; words = ws })).waiting ≤ suc n
    go true k f = or k
    go false k f = omega arith

-- ---- the line

-- Before the first turn all of the line is left.
pub wakes_begun : (text ws : List ℕ) (count : ℕ)
    → woken_from text (record { waiting = 0; words = ws }) 0 (count - 0) ≡ woken_from text (record { waiting = 0; words = ws }) 0 count
wakes_begun text ws count =
    let e : count - 0 ≡ count = omega arith in
    ap (woken_from text (record { waiting = 0; words = ws }) 0) e

-- A turn of the loop: what is left of the line is woken in the end.
module _ (text ws now : List ℕ) (n place count : ℕ) (h : place < count) (n' : ℕ) (l : Leaving (woken_slot text ws n (slot_at ws place)) n' now) where
  pub wakes_more : woken_from text (record { waiting = n'; words = now }) (place + 1) (count - (place + 1)) ≡ woken_from text (record { waiting = n; words = ws }) place (count - place)
  unfolding woken_from
  wakes_more =
      let e : count - place ≡ suc (count - (place + 1)) = omega arith in
      ap₂ (λ (w : Waking) (i : ℕ). woken_from text w i (count - (place + 1))) (λ i. record { waiting = l.waiting_are i; words = l.words_are i }) (add-one place)
      ∙ ap (woken_from text (record { waiting = n; words = ws }) place) (sym e)

  pub waits_more : n ≤ place → n' ≤ place + 1
  waits_more k = omega (arith, l.waiting_are, slot_waiting text ws n (slot_at ws place))

-- Nobody waits.
pub wakes_nobody : (text ws : List ℕ) (count : ℕ) → count ≡ count_in ws → count ≡ 0 → ws ≡ woken text ws
unfolding woken woken_from count_in
wakes_nobody text ws count e z =
    let none : count_in ws ≡ 0 = sym e ∙ z in
    let word : get_or ws line_at 0 ≡ 0 = go (ltb 8 (get_or ws line_at 0)) none in
    sym (set-get_or ws line_at 0) ∙ ap (set ws line_at) word
    ∙ ap (λ (k : ℕ). set (woken_from text (record { waiting = 0; words = ws }) 0 k).words line_at (woken_from text (record { waiting = 0; words = ws }) 0 k).waiting) (sym none)
  where
    go : (b : Bool) → cond b 8 (get_or ws line_at 0) ≡ 0 → get_or ws line_at 0 ≡ 0
    go true x = absurd (omega arith)
    go false x = x

-- All of the line is woken.
pub wakes_all : (text ws now : List ℕ) (count : ℕ) → count ≡ count_in ws → (n place : ℕ) → place ≡ count
    → woken_from text (record { waiting = n; words = now }) place (count - place) ≡ woken_from text (record { waiting = 0; words = ws }) 0 count
    → (now' : List ℕ) → now' ≡ set now line_at n → now' ≡ woken text ws
unfolding woken woken_from
wakes_all text ws now count c n place p e now' r =
    let k : count - place ≡ 0 = omega arith in
    let w : ◌≡◌ {A = Waking} (record { waiting = n; words = now }) (woken_from text (record { waiting = 0; words = ws }) 0 (count_in ws)) =
    ap (woken_from text (record { waiting = n; words = now }) place) (sym k) ∙ e ∙ ap (woken_from text (record { waiting = 0; words = ws }) 0) c in
    r ∙ ap (λ (x : Waking). set x.words line_at x.waiting) w
