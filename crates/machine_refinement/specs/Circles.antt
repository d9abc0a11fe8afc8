-- Circles of waits over the words and in the model: who would wait for whom with one more send in line.
use Prim.Native.Nat.{ℕ, suc, ◌<◌}
use Rattle.std.proofs.Common.{arith, ap, subst, ◌∙◌, get_or-drop, get_or-take, take-take, eqb-true}
use Rattle.std.specs.Prelude.{◌≡◌, Bool, true, false, not, ◌&&◌, get_or, take, drop}
use Rattle.std.proofs.Math.Path.{refl, sym, ap₂}
use Rattle.std.proofs.Math.Bool.{◌||◌, or-false}
use mathlib.Core.List.Memᴰ
use mathlib.Core.List.{List, [], ◌∷◌, ◌++◌, map, append-nil, append_assoc, map-append, Memᴰ}
use Rattle.std.proofs.Math.ListN.{length, length-append}
use Rattle.std.proofs.lemmas.List.{length-map}
use Rattle.std.proofs.Math.Seq.{get_or-append_seam, take-append_seam}
use Rattle.std.proofs.Math.Dec.{eqb}
use Rattle.layout.specs.Layout.{first_in_line_at}
use Rattle.model.specs.Base.{any, put}
use Rattle.model.specs.Vector.{Program}
use Rattle.model.specs.Message.{Target, Message}
use Rattle.model.specs.Service.{Slot, opened, Waiter, World, standing, held_by, joined, in_the_way, waits_in, waits_for, in_circle}
use Rattle.model.specs.Machine.{service}
use Rattle.laws.specs.Basics.{at_or, put_same, put_other}
use Rattle.laws.specs.Leads.{leads_same}
use Rattle.catalog.specs.View.{class_count, member_count}
use Rattle.machine_words.specs.Request.{Wanted, wanted}
use Rattle.machine_words.specs.Line.{count_in, slot_at, waits_from, closes_circle, is_waiting, waiting_send}
use Rattle.machine_words.specs.Line as Words
use Rattle.machine_words.specs.Calls.{Lent, tables_of, row_of}
use Rattle.machine_refinement.specs.Rep.{Aims, message_for, Waits, RepAt, Rep}
use Rattle.machine_refinement.specs.Obstacles.{way_is}
use Rattle.machine_refinement.specs.Waking.{count_is}
use Rattle.machine_refinement.specs.State.{waits_now}

-- ---- the model's line with one more

module _ (p : Program) where
  abbrev Line : Type 0
  Line = List (Waiter (service p))

  or_assoc : (a b c : Bool) → (a || (b || c)) ≡ ((a || b) || c)
  or_assoc true b c = refl
  or_assoc false b c = refl

  waits_last : (slots : ℕ → Slot (service p)) (ahead xs : Line) (v : Waiter (service p)) (u t : ℕ)
      → waits_in (service p) slots ahead (xs ++ (v ∷ [])) u t
      ≡ (waits_in (service p) slots ahead xs u t || (eqb v.slot u && in_the_way (service p) slots (ahead ++ xs) u v.message t))
  waits_last slots ahead [] v u t =
      or-false (eqb v.slot u && in_the_way (service p) slots ahead u v.message t)
      ∙ ap (λ (l : Line). eqb v.slot u && in_the_way (service p) slots l u v.message t) (sym (append-nil ahead))
  waits_last slots ahead (x ∷ xs) v u t =
      ap (λ (b : Bool). (eqb x.slot u && in_the_way (service p) slots ahead u x.message t) || b)
      (waits_last slots (ahead ++ (x ∷ [])) xs v u t
      ∙ ap (λ (l : Line). waits_in (service p) slots (ahead ++ (x ∷ [])) xs u t || (eqb v.slot u && in_the_way (service p) slots l u v.message t))
      (append_assoc ahead (x ∷ []) xs))
      ∙ or_assoc (eqb x.slot u && in_the_way (service p) slots ahead u x.message t) (waits_in (service p) slots (ahead ++ (x ∷ [])) xs u t)
      (eqb v.slot u && in_the_way (service p) slots (ahead ++ (x ∷ xs)) u v.message t)

  -- Only the slots' locks count.
  waits_held : (slots slots' : ℕ → Slot (service p)) → ((k : ℕ) → held_by (service p) (slots k) ≡ held_by (service p) (slots' k))
      → (ahead xs : Line) (u t : ℕ) → waits_in (service p) slots ahead xs u t ≡ waits_in (service p) slots' ahead xs u t
  waits_held slots slots' e ahead [] u t = refl
  waits_held slots slots' e ahead (x ∷ xs) u t =
      ap₂ (λ (l : _) (b : Bool). (eqb x.slot u && (not (eqb t u) && ((service p).clash x.message l || waiting))) || b) (e t)
      (waits_held slots slots' e (ahead ++ (x ∷ [])) xs u t)
    where
      waiting : Bool
      waiting = any (λ v. eqb v.slot t && (service p).meets x.message v.message) ahead

-- ---- the words' line

module _ (lent : Lent) (p : Program) (w : World (service p)) (rep : Rep lent p w) where
  abbrev text : List ℕ
  text = lent.text

  abbrev ws : List ℕ
  ws = lent.words

  -- The line up to a place.
  front : (xs ys : Line p) → w.line ≡ xs ++ ys → RepAt lent p (record { fields = w.fields; slots = w.slots; line = xs }) (length xs) w.line
  front xs ys e =
      record {
        fit = rep.fit;
        fits = rep.fits;
        fields = rep.fields;
        slots = rep.slots;
        places =
            sym (take-take (length xs) (count_in ws) (drop first_in_line_at ws) (omega (arith, count_is lent p w rep, ap length e, length-append xs ys)))
            ∙ ap (take (length xs)) (rep.places ∙ ap (map (λ v. v.slot)) e ∙ map-append (λ v. v.slot) xs ys)
            ∙ ap (λ (n : ℕ). take n (map (λ v. v.slot) xs ++ map (λ v. v.slot) ys)) (sym (length-map xs (λ v. v.slot)))
            ∙ take-append_seam (map (λ v. v.slot) xs) (map (λ v. v.slot) ys);
        below = rep.below;
        waits = rep.waits;
        waiting = rep.waiting;
        once = rep.once;
      }

  -- The slot at a place.
  slot_there : (xs : Line p) (v : Waiter (service p)) (ys : Line p) → w.line ≡ xs ++ (v ∷ ys) → slot_at ws (length xs) ≡ v.slot
  slot_there xs v ys e =
      sym (get_or-drop first_in_line_at ws (length xs) 0)
      ∙ sym (get_or-take (count_in ws) (drop first_in_line_at ws) (length xs) 0 (omega (arith, count_is lent p w rep, ap length e, length-append xs (v ∷ ys))))
      ∙ ap (λ (l : List ℕ). get_or l (length xs) 0) (rep.places ∙ ap (map (λ v. v.slot)) e ∙ map-append (λ v. v.slot) xs (v ∷ ys))
      ∙ ap (λ (n : ℕ). get_or (map (λ v. v.slot) xs ++ (v.slot ∷ map (λ v. v.slot) ys)) n 0) (sym (length-map xs (λ v. v.slot)))
      ∙ get_or-append_seam (map (λ v. v.slot) xs) v.slot (map (λ v. v.slot) ys) 0

  -- Who is in the way of the send there.
  way_there : (xs : Line p) (v : Waiter (service p)) (ys : Line p) → w.line ≡ xs ++ (v ∷ ys) → (u t : ℕ) → v.slot ≡ u → t < 8
      → Words.in_the_way text ws (length xs) u (waiting_send ws u) t ≡ in_the_way (service p) w.slots xs u v.message t
  way_there xs v ys e u t same b =
      ap (λ (q : Wanted). Words.in_the_way text ws (length xs) u q t) y.wants
      ∙ way_is lent p (record { fields = w.fields; slots = w.slots; line = xs }) (front xs (v ∷ ys) e)
      (λ x i. subst (Memᴰ x) (sym e) (Memᴰ.append_left (v ∷ ys) i))
      y.class y.place y.argument y.known y.has y.kind y.number y.target y.aims u t b
      ∙ ap (λ (m : Message). in_the_way (service p) w.slots xs u m t) (sym y.sends)
    where
      y : Waits text (tables_of ws) p (row_of ws u) v.message
      y = subst (λ (k : ℕ). Waits text (tables_of ws) p (row_of ws k) v.message) same
          (rep.waits v (subst (Memᴰ v) (sym e) (Memᴰ.append_right xs (Memᴰ.head refl))))

  waits_is : (xs ys : Line p) → w.line ≡ xs ++ ys → (u t : ℕ) → t < 8 → waits_from text ws (length xs) (length ys) u t ≡ waits_in (service p) w.slots xs ys u t
  unfolding waits_from
  waits_is xs [] e u t b = refl
  waits_is xs (v ∷ ys) e u t b =
      ap₂ ◌||◌
      (ap (λ (s : ℕ). eqb s u && (is_waiting ws u && Words.in_the_way text ws (length xs) u (waiting_send ws u) t)) (slot_there xs v ys e) ∙ go (eqb v.slot u) refl)
      (ap (λ (n : ℕ). waits_from text ws n (length ys) u t) more ∙ waits_is (xs ++ (v ∷ [])) ys (e ∙ sym (append_assoc xs (v ∷ []) ys)) u t b)
    where
      more : suc (length xs) ≡ length (xs ++ (v ∷ []))
      more = omega (arith, length-append xs (v ∷ []))

      go : (b : Bool) → eqb v.slot u ≡ b
          → (b && (is_waiting ws u && Words.in_the_way text ws (length xs) u (waiting_send ws u) t)) ≡ (b && in_the_way (service p) w.slots xs u v.message t)
      go true f =
          let i = subst (Memᴰ v) (sym e) (Memᴰ.append_right xs (Memᴰ.head refl)) in
          let same = eqb-true v.slot u f in
          ap (λ (x : Bool). x && Words.in_the_way text ws (length xs) u (waiting_send ws u) t)
          (ap (is_waiting ws) (sym same) ∙ waits_now lent p w rep v i)
          ∙ way_there xs v ys e u t same b
      go false f = refl

  -- A send that would join closes a circle exactly if it does in the model.
  module _ (s : ℕ) (h : s < 8) (c k a : ℕ) (l : c < class_count (tables_of ws)) (has : k < member_count (tables_of ws) c 1) (kind n : ℕ) (x : Target)
      (aims : Aims (tables_of ws) c kind n x) where
    abbrev q : Wanted
    q = wanted (tables_of ws) kind n c k a

    abbrev m : Message
    m = message_for p x c k a

    held_same : (t : ℕ) → held_by (service p) ((joined (service p) w s m).slots t) ≡ held_by (service p) (w.slots t)
    held_same = at_or (λ (t : ℕ). held_by (service p) (put w.slots s (opened (standing (service p) (w.slots s))) t) ≡ held_by (service p) (w.slots t)) s
        (ap (held_by (service p)) (put_same w.slots s (opened (standing (service p) (w.slots s)))))
        (λ t ne. ap (held_by (service p)) (put_other w.slots s (opened (standing (service p) (w.slots s))) t ne))

    relation_is : (u t : ℕ) → u < 8 → t < 8 → Words.waits_for text ws s q u t ≡ waits_for (service p) (joined (service p) w s m) u t
    unfolding Words.waits_for
    relation_is u t low b =
        ap₂ (λ (x y : Bool). x || (eqb s u && y))
        (ap (λ (i : ℕ). waits_from text ws 0 i u t) (count_is lent p w rep) ∙ waits_is [] w.line refl u t b)
        (way_is lent p w rep (λ v i. i) c k a l has kind n x aims u t b)
        ∙ sym (waits_held p (joined (service p) w s m).slots w.slots held_same [] (joined (service p) w s m).line u t
        ∙ waits_last p w.slots [] w.line (record { slot = s; message = m }) u t)

    pub closes_is : closes_circle text ws s q ≡ in_circle (service p) (joined (service p) w s m) s
    unfolding closes_circle
    closes_is = leads_same 8 (Words.waits_for text ws s q) (waits_for (service p) (joined (service p) w s m)) relation_is 8 (omega arith) s s h h
