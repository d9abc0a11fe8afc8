-- The slots in the way of a send, over the words and in the model: those that hold a clashing lock, and those ahead in the line whose
-- send has one.
use Prim.Native.Nat.{ℕ, zero, suc, ◌<◌}
use Rattle.std.proofs.Common.{arith, sym, subst, ◌∙◌, eqb-true, eq-eqb, ne_eqb}
use Rattle.std.specs.Prelude.{◌≡◌, true, false, cond, ◌&&◌, ◌||◌, eqb}
use Rattle.std.proofs.Math.Path.{refl, ap, ap₂}
use Rattle.std.proofs.Math.Bool.{Bool, not, and_assoc}
use Rattle.std.proofs.Math.Option.{Option, none, some, or_else}
use mathlib.Core.List.{List, [], ◌∷◌, map, Memᴰ}
use Rattle.std.proofs.lemmas.Bool.{eqb-false}
use Rattle.model.specs.Base.{any, least}
use Rattle.model.specs.Vector.{Program}
use Rattle.model.specs.Message.{Target, Message}
use Rattle.model.specs.Lock.{Lock, locks_for, lock_clash, locks_clash}
use Rattle.model.specs.Service.{Slot, closed, opened, Waiter, World, held_by}
use Rattle.model.specs.Service as Told
use Rattle.model.specs.Machine.{service}
use Rattle.laws.specs.Lists.{none_any}
use Rattle.catalog.specs.View.{class_count, member_count}
use Rattle.machine_words.specs.Request.{Wanted, row_meets, wanted}
use Rattle.machine_words.specs.Line.{waiting_in, holder_at, waiter_at, in_the_way, obstacle, is_waiting, waits_ahead, first_in_line}
use Rattle.machine_words.specs.Calls.{Lent, tables_of, row_of, phase_of}
use Rattle.machine_refinement.specs.Rep.{SlotRep, method_of, Aims, message_for, settled, Waits, RepAt}
use Rattle.machine_refinement.specs.Locks.{holds_alike}
use Rattle.machine_refinement.specs.RowTest.{row_clash}
use Rattle.machine_refinement.specs.WaitRows.{settled_locks}
use Rattle.machine_refinement.specs.State.{row_size, phase_closed, closed_phase, waits_now}

-- The least number that passes is the same for tests that agree below a bound.
least_same : (q r : ℕ → Bool) (n : ℕ) → ((k : ℕ) → k < n → q k ≡ r k) → least q n ≡ least r n
unfolding least
least_same q r zero e = refl
least_same q r (suc n) e = ap₂ (λ (x : Option ℕ) (b : Bool). or_else x (cond b (some n) none)) (least_same q r n (λ k l. e k (omega arith))) (e n (omega arith))

-- No lock clashes with an empty list.
no_clash : (p : Program) (ks : List Lock) → locks_clash p ks [] ≡ false
unfolding locks_clash any
no_clash p ks = none_any (λ k. any (lock_clash p k) []) ks (λ k i. refl)

eqb_swap : (a b : ℕ) → eqb a b ≡ eqb b a
eqb_swap a b = go (eqb a b) refl
  where
    go : (t : Bool) → eqb a b ≡ t → t ≡ eqb b a
    go true e = sym (eq-eqb b a (sym (eqb-true a b e)))
    go false e = sym (ne_eqb b a (λ x. eqb-false a b e (sym x)))

module _ (lent : Lent) (p : Program) (w : World (service p)) {n : ℕ} {all : List (Waiter (service p))} (rep : RepAt lent p w n all)
    (within : (v : Waiter (service p)) → Memᴰ v w.line → Memᴰ v all) where
  abbrev text : List ℕ
  text = lent.text

  abbrev ws : List ℕ
  ws = lent.words

  abbrev tables : List ℕ
  tables = tables_of ws

  module _ (c k a : ℕ) (l : c < class_count tables) (has : k < member_count tables c 1) (kind number : ℕ) (x : Target) (aims : Aims tables c kind number x) where
    abbrev q : Wanted
    q = wanted tables kind number c k a

    abbrev m : Message
    m = message_for p x c k a

    abbrev clash : List Lock → Bool
    clash held = locks_clash p (locks_for p x (method_of p c k)) held

    holder_is : (u : ℕ) → u < 8 → holder_at ws (row_meets text tables q) u ≡ clash (held_by (service p) (w.slots u))
    unfolding holder_at
    holder_is u b = go (w.slots u) refl (rep.slots u b)
      where
        row : List ℕ
        row = row_of ws u

        go : (z : Slot (service p)) → w.slots u ≡ z → SlotRep text tables p (settled row) z → (not (eqb (phase_of row) 0) && row_meets text tables q row) ≡ clash (held_by (service p) z)
        go closed is e =
            ap (λ (i : ℕ). not (eqb i 0) && row_meets text tables q row) (closed_phase lent p w rep u b is) ∙ sym (no_clash p (locks_for p x (method_of p c k)))
        go (opened y) is o =
            ap (λ (t : Bool). not t && row_meets text tables q row)
            (ne_eqb (phase_of row) 0 (λ z. opened_not (sym is ∙ phase_closed lent p w rep u b z)))
            ∙ row_clash text tables p rep.fits c k a l has row y.locks
            (holds_alike text tables p rep.fits (settled row) row y.locks (settled_locks row (row_size lent p w rep u b)) o.locks) kind number x aims
          where
            is_open : Slot (service p) → Type 0
            is_open closed = ⊥
            is_open (opened t) = Unit {0}

            opened_not : opened y ≡ closed → ⊥
            opened_not e = subst is_open e tt

    -- Of those in line, only a slot's own send counts.
    waiter_is : (u : ℕ) → u < 8 → waiter_at ws n (row_meets text tables q) u
        ≡ any (λ v. eqb v.slot u && locks_clash p (locks_for p x (method_of p c k)) (locks_for p v.message.target v.message.method)) w.line
    unfolding waiter_at waits_ahead any
    waiter_is u b =
        and_assoc (any (eqb u) (first_in_line ws n)) (is_waiting ws u) (row_meets text tables q (waiting_in (row_of ws u)))
        ∙ ap (λ (slots : List ℕ). any (eqb u) slots && test) rep.places ∙ among w.line within
      where
        test : Bool
        test = is_waiting ws u && row_meets text tables q (waiting_in (row_of ws u))

        meets : Waiter (service p) → Bool
        meets v = locks_clash p (locks_for p x (method_of p c k)) (locks_for p v.message.target v.message.method)

        same_test : (v : Waiter (service p)) → Memᴰ v all → v.slot ≡ u → test ≡ meets v
        same_test v i e = go (subst (λ (t : ℕ). Waits text tables p (row_of ws t) v.message) e (rep.waits v i))
          where
            go : Waits text tables p (row_of ws u) v.message → test ≡ meets v
            go y =
                ap (λ (t : Bool). t && row_meets text tables q (waiting_in (row_of ws u))) (ap (is_waiting ws) (sym e) ∙ waits_now lent p w rep v i)
                ∙ row_clash text tables p rep.fits c k a l has (waiting_in (row_of ws u)) (locks_for p y.target (method_of p y.class y.place)) y.locks
                kind number x aims
                ∙ ap (λ (z : Message). clash (locks_for p z.target z.method)) (sym y.sends)

        among : (vs : List (Waiter (service p))) → ((v : Waiter (service p)) → Memᴰ v vs → Memᴰ v all)
            → (any (eqb u) (map (λ v. v.slot) vs) && test) ≡ any (λ v. eqb v.slot u && meets v) vs
        among [] from = refl
        among (v ∷ vs) from =
            ap (λ (t : Bool). (t || any (eqb u) (map (λ v. v.slot) vs)) && test) (eqb_swap u v.slot)
            ∙ go (eqb v.slot u) refl (any (eqb u) (map (λ v. v.slot) vs)) (among vs (λ y i. from y (Memᴰ.tail i)))
          where
            both : (t r y z : Bool) → t ≡ y → (r && t) ≡ z → t ≡ (y || z)
            both true r y z e f = ap (λ (b : Bool). b || z) e
            both false r y z e f = none r y z e f
              where
                none : (r y z : Bool) → false ≡ y → (r && false) ≡ z → false ≡ (y || z)
                none true y z e f = ap₂ ◌||◌ e f
                none false y z e f = ap₂ ◌||◌ e f

            go : (e : Bool) → eqb v.slot u ≡ e → (r : Bool) → (r && test) ≡ any (λ v. eqb v.slot u && meets v) vs
                → ((e || r) && test) ≡ ((e && meets v) || any (λ v. eqb v.slot u && meets v) vs)
            go true e r rest =
                both test r (meets v) (any (λ v. eqb v.slot u && meets v) vs) (same_test v (from v (Memᴰ.head refl)) (eqb-true v.slot u e)) rest
            go false e r rest = rest

    -- A slot in the way is one in the model.
    pub way_is : (s u : ℕ) → u < 8 → in_the_way text ws n s q u ≡ Told.in_the_way (service p) w.slots w.line s m u
    unfolding in_the_way
    way_is s u b = ap₂ (λ (y z : Bool). not (eqb u s) && (y || z)) (holder_is u b) (waiter_is u b)

    -- So the lowest is the model's.
    pub obstacle_is : (s : ℕ) → obstacle text ws n s q ≡ Told.obstacle (service p) w s m
    unfolding obstacle
    obstacle_is s = least_same (in_the_way text ws n s q) (Told.in_the_way (service p) w.slots w.line s m) 8 (way_is s)
