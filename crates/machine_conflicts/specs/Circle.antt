-- Circles of waits as eight masks, one for each slot: bit t of mask s is 1 where slot s is related to slot t.
use Prim.Native.Nat.{ℕ, zero, suc, ◌+◌, ◌-◌, ◌*◌, ◌%◌, ◌^◌, ◌≤◌, ◌<◌}
use native.Mathlib.Omega.{arith}
use Rattle.std.proofs.Math.Decide.{ℕ_discrete, dec_lt}
use Rattle.std.proofs.Common.{add-one, ◌∙◌, length-set, get_or-set_same, get_or-set_other}
use Rattle.std.specs.Prelude.{◌≡◌, ◌≢◌, true, cond, ◌&&◌, ◌||◌, List, length, get_or, set, replicate, ltb}
use Rattle.std.proofs.Math.Path.{refl, sym, ap, ap₂, subst}
use Rattle.std.proofs.Math.Bool.{Bool, false, and-true, and-false, or-false, or_assoc}
use Rattle.std.proofs.lemmas.List.{get_or-replicate}
use Rattle.std.specs.Int.Bits.{bit_or}
use Rattle.std.proofs.Math.Dec.{eqb}
use borrow.Author.Tests.{eq-eqb, ne_eqb, lt-ltb, le-ltb}
use Rattle.model.specs.Base.{leads}
use Rattle.laws.specs.Basics.{at_or}
use Rattle.laws.specs.Leads.{leads_same}
use Rattle.laws.specs.Bits.{bit, bit_zero, bit_or_law, bit_shifted}
use Rattle.machine_words.specs.Request.{Wanted}
use Rattle.machine_words.specs.Line.{row_of, waiting_in, wanted_in, is_waiting, waiting_send, count_in, slot_at, in_the_way, waits_from, waits_for, closes_circle}
use Rattle.machine_conflicts.specs.Way.{gathered, gather, pass}

-- Whether slot u stands at a place of the line and waits, and slot t is in the way of its waiting send.
unfoldable pub waits_here : List ℕ → List ℕ → ℕ → ℕ → ℕ → Bool
unfolding is_waiting in_the_way row_of waiting_in wanted_in
waits_here text ws place u t = eqb (slot_at ws place) u && (is_waiting ws u && in_the_way text ws place u (waiting_send ws u) t)

-- The relation that masks hold.
abbrev pub relation : List ℕ → ℕ → ℕ → Bool
relation masks u t = bit (get_or masks u 0) t

-- The masks hold this relation of the eight slots.
pub record Relates (r : ℕ → ℕ → Bool) (masks : List ℕ) : Type 0 where
  pub size : length masks ≡ 8
  pub bits : (u t : ℕ) → u < 8 → t < 8 → relation masks u t ≡ r u t

-- The masks with a relation added.
abbrev pub Adds : (ℕ → ℕ → Bool) → List ℕ → List ℕ → Type 0
Adds r old new = Relates (λ u t. relation old u t || r u t) new

-- .. with what is led to by way of one slot.
abbrev pub Through : ℕ → List ℕ → List ℕ → Type 0
Through way old new = Relates (λ u t. relation old u t || (relation old u way && relation old way t)) new

-- Bits added to one mask.
abbrev pub with_mask : List ℕ → ℕ → ℕ → List ℕ
with_mask masks slot mask = set masks slot (bit_or (get_or masks slot 0) mask)

-- One slot's mask with what it leads to by way of another.
unfoldable pub led_on : List ℕ → ℕ → ℕ → List ℕ
led_on masks slot way = cond (relation masks slot way) (with_mask masks slot (get_or masks way 0)) masks

-- ---- the bits of a gathered mask

-- A number other than n is below n + 1 exactly if it is below n.
below_next : (u n : ℕ) → u ≢ n → ltb u n ≡ ltb u (suc n)
below_next u n ne = go (dec_lt u n)
  where
    go : Dec (u < n) → ltb u n ≡ ltb u (suc n)
    go (yes l) = lt-ltb u n l ∙ sym (lt-ltb u (suc n) (omega arith))
    go (no l) = le-ltb u n (omega arith) ∙ sym (le-ltb u (suc n) (omega arith))

module _ (p : ℕ → Bool) where
  gathered_more : (n t : ℕ) → n < 32 → bit (gathered p (suc n)) t ≡ (bit (gathered p n) t || (p n && eqb n t))
  gathered_more n t few = ap (λ (k : ℕ). bit (gathered p k) t) (sym (add-one n)) ∙ go (p n) refl
    where
      go : (b : Bool) → p n ≡ b → bit (gathered p (n + 1)) t ≡ (bit (gathered p n) t || (b && eqb n t))
      go true e =
          ap (λ (m : ℕ). bit m t) (sym (gather p (gathered p n) n few refl e)) ∙ bit_or_law (gathered p n) ((1 * 2 ^ n) % 2 ^ 32) t
          ∙ ap (λ (b : Bool). bit (gathered p n) t || b) (bit_shifted n t few)
      go false e = ap (λ (m : ℕ). bit m t) (sym (pass p (gathered p n) n few refl e)) ∙ sym (or-false (bit (gathered p n) t))

  bits_gathered : (n t : ℕ) → n ≤ 32 → bit (gathered p n) t ≡ (ltb t n && p t)
  unfolding gathered
  bits_gathered zero t few = bit_zero t ∙ sym (ap (λ (b : Bool). b && p t) (le-ltb t 0 (omega arith)))
  bits_gathered (suc n) t few =
      gathered_more n t (omega arith) ∙ ap (λ (b : Bool). b || (p n && eqb n t)) (bits_gathered n t (omega arith)) ∙ by (ℕ_discrete t n)
    where
      by : Dec (t ≡ n) → ((ltb t n && p t) || (p n && eqb n t)) ≡ (ltb t (suc n) && p t)
      by (yes e) = rw (e, le-ltb n n (omega arith), eq-eqb n n refl, lt-ltb n (suc n) (omega arith)) (and-true (p n))
      by (no ne) =
          ap₂ (λ (x y : Bool). (x && p t) || (p n && y)) (below_next t n ne) (ne_eqb n t (λ e. ne (sym e)))
          ∙ ap (λ (b : Bool). (ltb t (suc n) && p t) || b) (and-false (p n)) ∙ or-false (ltb t (suc n) && p t)

  -- Bit t of the gathered mask is the test of t.
  pub bit_gathered : (n t : ℕ) → n ≤ 32 → t < n → bit (gathered p n) t ≡ p t
  bit_gathered n t few h = bits_gathered n t few ∙ ap (λ (b : Bool). b && p t) (lt-ltb t n h)

-- ---- a relation added

module _ (masks : List ℕ) (long : length masks ≡ 8) (r : ℕ → ℕ → Bool) where
  -- .. of no slot
  adds_none : ((u t : ℕ) → u < 8 → t < 8 → r u t ≡ false) → Adds r masks masks
  adds_none e =
      record {
        size = long;
        bits = λ u t a b. sym (ap (λ (x : Bool). relation masks u t || x) (e u t a b) ∙ or-false (relation masks u t));
      }

  -- .. of one slot
  adds_one : (s mask : ℕ) → s < 8 → ((t : ℕ) → t < 8 → bit mask t ≡ r s t) → (new : List ℕ) → new ≡ with_mask masks s mask → Adds (λ u t. eqb s u && r u t) masks new
  adds_one s mask h e new n =
      record {
        size = ap length n ∙ length-set masks s own ∙ long;
        bits = λ u t a b. ap (λ (l : List ℕ). relation l u t) n ∙ at_or (Added t) s (here t b) (there t) u;
      }
    where
      own : ℕ
      own = bit_or (get_or masks s 0) mask

      Added : ℕ → ℕ → Type 0
      Added t u = relation (with_mask masks s mask) u t ≡ (relation masks u t || (eqb s u && r u t))

      here : (t : ℕ) → t < 8 → Added t s
      here t b =
          ap (λ (m : ℕ). bit m t) (get_or-set_same masks s own 0 (omega (arith, long))) ∙ bit_or_law (get_or masks s 0) mask t
          ∙ ap₂ (λ (x y : Bool). relation masks s t || (x && y)) (sym (eq-eqb s s refl)) (e t b)

      there : (t u : ℕ) → u ≢ s → Added t u
      there t u ne =
          ap (λ (m : ℕ). bit m t) (get_or-set_other masks s u own 0 ne)
          ∙ sym (ap (λ (x : Bool). relation masks u t || (x && r u t)) (ne_eqb s u (λ e. ne (sym e))) ∙ or-false (relation masks u t))

-- ---- the waits of the slots in line

module _ (text ws : List ℕ) (place : ℕ) (masks : List ℕ) (long : length masks ≡ 8) (s : ℕ) (e : s ≡ slot_at ws place) where
  abbrev blocked_by : ℕ → ℕ → Bool
  blocked_by u t = is_waiting ws u && in_the_way text ws place u (waiting_send ws u) t

  module _ (b : Bool) (w : b ≡ is_waiting ws s) where
    pub waits_not : b ≡ false → Adds (waits_here text ws place) masks masks
    unfolding waits_here
    waits_not z = adds_none masks long (waits_here text ws place) (λ u t l k. go u t (ℕ_discrete (slot_at ws place) u))
      where
        go : (u t : ℕ) → Dec (slot_at ws place ≡ u) → (eqb (slot_at ws place) u && blocked_by u t) ≡ false
        go u t (yes q) =
            rw (eq-eqb (slot_at ws place) u q) (ap (λ (x : Bool). x && in_the_way text ws place u (waiting_send ws u) t) (ap (is_waiting ws) (sym q ∙ sym e) ∙ sym w ∙ z))
        go u t (no ne) = ap (λ (x : Bool). x && blocked_by u t) (ne_eqb (slot_at ws place) u ne)

    pub waits_slot : b ≡ true → s < 8 → (mask : ℕ) → mask ≡ gathered (in_the_way text ws place s (waiting_send ws s)) 8 → (new : List ℕ)
        → new ≡ with_mask masks s mask → Adds (waits_here text ws place) masks new
    unfolding waits_here
    waits_slot z h mask m new n =
        subst (λ (k : ℕ). Adds (λ u t. eqb k u && blocked_by u t) masks new) e
        (adds_one masks long blocked_by s mask h
        (λ t l. ap (λ (x : ℕ). bit x t) m ∙ bit_gathered (in_the_way text ws place s (waiting_send ws s)) 8 t (omega arith) l
        ∙ ap (λ (x : Bool). x && in_the_way text ws place s (waiting_send ws s) t) (sym z ∙ w)) new n)

-- The masks with the waits of the slots before a place: with those that are left they are all.
pub record Adding (text ws : List ℕ) (count : ℕ) (old : List ℕ) (place : ℕ) (masks : List ℕ) : Type 0 where
  pub size : length masks ≡ 8
  pub bits : (u t : ℕ) → u < 8 → t < 8 → (relation masks u t || waits_from text ws place (count - place) u t) ≡ (relation old u t || waits_from text ws 0 count u t)

module _ (text ws : List ℕ) (count : ℕ) (old : List ℕ) where
  pub adding_none : length old ≡ 8 → Adding text ws count old 0 old
  adding_none long =
      let k : count - 0 ≡ count = omega arith in
      record { size = long; bits = λ u t a b. ap (λ (n : ℕ). relation old u t || waits_from text ws 0 n u t) k }

  module _ (place : ℕ) (masks : List ℕ) (was : Adding text ws count old place masks) where
    pub adding_more : place < count → (new : List ℕ) → Adds (waits_here text ws place) masks new → Adding text ws count old (place + 1) new
    unfolding waits_from waits_here
    adding_more h new add =
        record {
          size = add.size;
          bits = λ u t a b.
              ap (λ (x : Bool). x || waits_from text ws (place + 1) (count - (place + 1)) u t) (add.bits u t a b)
              ∙ or_assoc (relation masks u t) (waits_here text ws place u t) (waits_from text ws (place + 1) (count - (place + 1)) u t)
              ∙ ap (λ (x : Bool). relation masks u t || x) (sym (left u t)) ∙ was.bits u t a b;
        }
      where
        left : (u t : ℕ) → waits_from text ws place (count - place) u t ≡ (waits_here text ws place u t || waits_from text ws (place + 1) (count - (place + 1)) u t)
        left u t =
            let k : count - place ≡ suc (count - (place + 1)) = omega arith in
            ap (λ (n : ℕ). waits_from text ws place n u t) k
            ∙ ap (λ (i : ℕ). waits_here text ws place u t || waits_from text ws i (count - (place + 1)) u t) (sym (add-one place))

    pub adding_all : count ≤ place → Adds (waits_from text ws 0 count) old masks
    unfolding waits_from
    adding_all h =
        record {
          size = was.size;
          bits = λ u t a b. sym (ap (λ (x : Bool). relation masks u t || x) (ended u t) ∙ or-false (relation masks u t)) ∙ was.bits u t a b;
        }
      where
        ended : (u t : ℕ) → waits_from text ws place (count - place) u t ≡ false
        ended u t =
            let k : count - place ≡ 0 = omega arith in
            ap (λ (n : ℕ). waits_from text ws place n u t) k

-- ---- what is led to

-- .. by way of one slot, for the slots below `slot`.
abbrev pub ThroughBelow : ℕ → ℕ → List ℕ → List ℕ → Type 0
ThroughBelow slot way old new = Relates (λ u t. relation old u t || (ltb u slot && (relation old u way && relation old way t))) new

-- One slot's mask, by whether it leads to the other slot.
pub led_by : (masks : List ℕ) (slot way mask : ℕ) → mask ≡ get_or masks slot 0 → (b : Bool) → b ≡ bit mask way → (t : Bool) → b ≡ t
    → cond t (with_mask masks slot (get_or masks way 0)) masks ≡ led_on masks slot way
unfolding led_on
led_by masks slot way mask m b e t i = ap (λ (x : Bool). cond x (with_mask masks slot (get_or masks way 0)) masks) (sym i ∙ e ∙ ap (λ (x : ℕ). bit x way) m)

module _ (masks : List ℕ) (long : length masks ≡ 8) (slot way : ℕ) (h : slot < 8) where
  leads_on : Adds (λ u t. eqb slot u && (relation masks u way && relation masks way t)) masks (led_on masks slot way)
  unfolding led_on
  leads_on = go (relation masks slot way) refl
    where
      on : ℕ → ℕ → Bool
      on u t = relation masks u way && relation masks way t

      go : (b : Bool) → relation masks slot way ≡ b
          → Adds (λ u t. eqb slot u && on u t) masks (cond b (with_mask masks slot (get_or masks way 0)) masks)
      go true e =
          adds_one masks long on slot (get_or masks way 0) h (λ t b. ap (λ (x : Bool). x && relation masks way t) (sym e))
          (with_mask masks slot (get_or masks way 0)) refl
      go false e =
          adds_none masks long (λ u t. eqb slot u && on u t)
          (λ u t a b. at_or (λ (u : ℕ). (eqb slot u && on u t) ≡ false) slot
          (ap (λ (x : Bool). eqb slot slot && (x && relation masks way t)) e ∙ and-false (eqb slot slot))
          (λ u ne. ap (λ (x : Bool). x && on u t) (ne_eqb slot u (λ q. ne (sym q)))) u)

module _ (way : ℕ) (old : List ℕ) where
  pub through_none : length old ≡ 8 → ThroughBelow 0 way old old
  through_none long =
      adds_none old long (λ u t. ltb u 0 && (relation old u way && relation old way t))
      (λ u t a b. ap (λ (x : Bool). x && (relation old u way && relation old way t)) (le-ltb u 0 (omega arith)))

  module _ (slot : ℕ) (masks : List ℕ) (was : ThroughBelow slot way old masks) where
    pub through_more : slot < 8 → way < 8 → (new : List ℕ) → new ≡ led_on masks slot way → ThroughBelow (slot + 1) way old new
    through_more h l new n =
        subst (ThroughBelow (slot + 1) way old) (sym n)
        (record { size = next.size; bits = λ u t a b. next.bits u t a b ∙ at_or (Turned t) slot (here t b) (there t b) u a })
      where
        next : Adds (λ u t. eqb slot u && (relation masks u way && relation masks way t)) masks (led_on masks slot way)
        next = leads_on masks was.size slot way h

        on : ℕ → ℕ → Bool
        on u t = relation old u way && relation old way t

        Turned : ℕ → ℕ → Type 0
        Turned t u =
            u < 8 → (relation masks u t || (eqb slot u && (relation masks u way && relation masks way t))) ≡ (relation old u t || (ltb u (slot + 1) && on u t))

        -- The slot's own mask, and that of the way, are as they were.
        own : (t : ℕ) → t < 8 → relation masks slot t ≡ relation old slot t
        own t b =
            was.bits slot t h b ∙ ap (λ (x : Bool). relation old slot t || (x && on slot t)) (le-ltb slot slot (omega arith)) ∙ or-false (relation old slot t)

        absorbed : (a b c : Bool) → (a || (b && (c && a))) ≡ a
        absorbed true b c = refl
        absorbed false b c = ap (λ (x : Bool). b && x) (and-false c) ∙ and-false b

        kept : (t : ℕ) → t < 8 → relation masks way t ≡ relation old way t
        kept t b = was.bits way t l b ∙ absorbed (relation old way t) (ltb way slot) (relation old way way)

        here : (t : ℕ) → t < 8 → Turned t slot
        here t b a =
            ap₂ (λ (x y : Bool). x || y) (own t b)
            (ap (λ (x : Bool). x && (relation masks slot way && relation masks way t)) (eq-eqb slot slot refl)
            ∙ ap₂ ◌&&◌ (own way l) (kept t b) ∙ sym (ap (λ (x : Bool). x && on slot t) (lt-ltb slot (slot + 1) (omega arith))))

        there : (t : ℕ) → t < 8 → (u : ℕ) → u ≢ slot → Turned t u
        there t b u ne a =
            ap (λ (x : Bool). relation masks u t || (x && (relation masks u way && relation masks way t))) (ne_eqb slot u (λ q. ne (sym q)))
            ∙ or-false (relation masks u t) ∙ was.bits u t a b
            ∙ ap (λ (x : Bool). relation old u t || (x && on u t)) (below_next u slot ne ∙ ap (ltb u) (sym (add-one slot)))

    pub through_all : 8 ≤ slot → Through way old masks
    through_all h =
        record {
          size = was.size;
          bits = λ u t a b.
              was.bits u t a b
              ∙ ap (λ (x : Bool). relation old u t || (x && (relation old u way && relation old way t))) (lt-ltb u slot (omega arith));
        }

pub leads_none : (masks : List ℕ) → length masks ≡ 8 → Relates (leads (relation masks) 0) masks
unfolding leads
leads_none masks long = record { size = long; bits = λ u t a b. refl }

-- .. by way of one slot more.
pub leads_more : (r : ℕ → ℕ → Bool) (way : ℕ) (masks new : List ℕ) → way < 8 → Relates (leads r way) masks → Through way masks new → Relates (leads r (way + 1)) new
unfolding leads
leads_more r way masks new h was through =
    record {
      size = through.size;
      bits = λ u t a b.
          through.bits u t a b
          ∙ ap₂ ◌||◌ (was.bits u t a b) (ap₂ ◌&&◌ (was.bits u way a h) (was.bits way t h b)) ∙ more u t;
    }
  where
    more : (u t : ℕ) → (leads r way u t || (leads r way u way && leads r way way t)) ≡ leads r (way + 1) u t
    more u t = ap (λ (n : ℕ). leads r n u t) (sym (add-one way))

pub leads_all : (r : ℕ → ℕ → Bool) (way : ℕ) (masks : List ℕ) → way ≤ 8 → 8 ≤ way → Relates (leads r way) masks → Relates (leads r 8) masks
leads_all r way masks h l was = let e : way ≡ 8 = omega arith in subst (λ (n : ℕ). Relates (leads r n) masks) e was

-- ---- with one more send in line

module _ (text ws : List ℕ) (s : ℕ) (h : s < 8) (q : Wanted) (count : ℕ) (c : count ≡ count_in ws) where
  -- The masks of no waits, with those of the slots in line and of the newcomer.
  module _ (waits : List ℕ) (add : Adds (waits_from text ws 0 count) (replicate 8 0) waits) (mask : ℕ) (e : mask ≡ gathered (in_the_way text ws count s q) 8)
      (all : List ℕ) (n : all ≡ with_mask waits s mask) where
    waits_are : (u t : ℕ) → u < 8 → t < 8 → relation all u t ≡ waits_for text ws s q u t
    unfolding waits_for
    waits_are u t a b =
        one.bits u t a b ∙ ap (λ (x : Bool). x || (eqb s u && in_the_way text ws count u q t)) (add.bits u t a b ∙ ap (λ (x : Bool). x || waits_from text ws 0 count u t) none)
        ∙ ap (λ (n : ℕ). waits_from text ws 0 n u t || (eqb s u && in_the_way text ws n u q t)) c
      where
        one : Adds (λ u t. eqb s u && in_the_way text ws count u q t) waits all
        one =
            adds_one waits add.size (λ u t. in_the_way text ws count u q t) s mask h
            (λ t b. ap (λ (x : ℕ). bit x t) e ∙ bit_gathered (in_the_way text ws count s q) 8 t (omega arith) b) all n

        none : relation (replicate 8 0) u t ≡ false
        none = ap (λ (m : ℕ). bit m t) (get_or-replicate 8 u 0 0 a) ∙ bit_zero t

    pub circle_is : (led : List ℕ) → Relates (leads (relation all) 8) led → bit (get_or led s 0) s ≡ closes_circle text ws s q
    unfolding closes_circle
    circle_is led l = l.bits s s h h ∙ leads_same 8 (relation all) (waits_for text ws s q) waits_are 8 (omega arith) s s h h
