-- In any text, each class of its library knows the names in the bodies that it has. Each line preserves this, where the last
-- class is counted with the methods that the lines below still define in it.
use Prim.Native.Nat.{ℕ, suc, ◌+◌, ◌≤◌, ◌<◌}
use Rattle.std.proofs.Common.{arith, sym, ◌∙◌, length-append, length-drop, take_all}
use Rattle.std.proofs.Math.Numerals.{add-one}
use Rattle.std.specs.Prelude.{◌≡◌, Bool, true, false, ◌&&◌, ◌||◌, take, drop, leb}
use Rattle.std.proofs.Math.Path.{refl, ap, subst}
use Rattle.std.proofs.Math.Bool.{not, cond}
use Rattle.std.proofs.lemmas.Bool.{false≢true}
use Rattle.std.proofs.Math.Option.{Option, none, some}
use mathlib.Core.List.{List, [], ◌∷◌, ◌++◌, map, map-append, Memᴰ}
use Rattle.std.proofs.Math.ListN.{length, get_or}
use Rattle.std.proofs.lemmas.List.{take-append-le, drop-append-le}
use Rattle.std.proofs.Math.Seq.{get_or-append_seam}
use borrow.Author.Tests.{not-true, not-false, ne_eqb}
use Rattle.model.specs.Word.{Name}
use Rattle.model.specs.Expression.{Expression, number, field, argument, got, apply}
use Rattle.model.specs.Form.{Action, assign, send, send_prefixed, reply, Statement, Form, class_line, field_line, method_line, statement_line, end_line, object_line, malformed, Line, Place, place_after, may_stand}
use Rattle.model.specs.Library.{Member, Class, Placed, Library, no_member, no_class, among, class_number, is_class, class_name, class_at, last_number, last_class, new_class, with_field, with_method, with_statement, one_more, statements_of, add}
use Rattle.model.specs.Fault.{strange, strange_guard, later_by, later, own_method, method_of, unknown_in, no_ancestor, statements_so_far, statement_fault, fault_of}
use Rattle.model.specs.Read.{library}
use Rattle.laws.specs.Basics.{All, all_map, all_append}
use Rattle.laws.specs.Lists.{both_left, both_right, alter_length, alter_there, alter_each, append_each, alter_last}
use Rattle.text_theory.specs.Pass.{InBody, in_body, no_fault, of_text}
use Rattle.text_theory.specs.Accepted.{or_false, Within, all_below, all_both, all_alter, class_good, inherited_all, written_all, Sound, add_sound}
use Rattle.text_theory.specs.Copies.{class_there, written_there}
use Rattle.text_theory.specs.Heirs.{Wider, wider_same, wider_over, parent_wider, Heirs, Grown, grown_at, grown_class, grown_number, add_heirs}
use Rattle.text_theory.specs.Ahead.{with_methods, ahead, awaiting, with_among, with_more, grown_ahead, grown_ended, add_grown}
use Rattle.text_theory.specs.Named.{named_action, named, NamedBody, Names}

-- ---- what is known stays known

four : (a b c d : Bool) → (a && b && c && d) ≡ true → (a ≡ true) × (b ≡ true) × (c ≡ true) × (d ≡ true)
four true true true d e = (refl, refl, refl, e)
four true true false d e = absurd (false≢true e)
four true false c d e = absurd (false≢true e)
four false b c d e = absurd (false≢true e)

module _ (h k : Class) (w : Wider h k) where
  strange_still : (e : Expression) → strange h e ≡ false → strange k e ≡ false
  unfolding strange
  strange_still (number n) q = refl
  strange_still (field f) q = rw (w.fields f (not-false (among h.fields f) q))
  strange_still argument q = refl
  strange_still got q = refl
  strange_still (apply o a b) q =
      let t = or_false (strange h a) (strange h b) q in
      rw (strange_still a t.0, strange_still b t.1)

  guard_still : (g : Option Expression) → strange_guard h g ≡ false → strange_guard k g ≡ false
  guard_still none q = refl
  guard_still (some e) q = strange_still e q

  still : (e : Expression) → not (strange h e) ≡ true → not (strange k e) ≡ true
  still e q = rw (strange_still e (not-true (strange h e) q))

  module _ (l m : Library) (g : Grown l.classes m.classes) where
    action_still : (a : Action) → named_action l h a ≡ true → named_action m k a ≡ true
    unfolding class_name
    action_still (assign how f e) q =
        let a = among h.fields f in
        let b = not (strange h e) in
        rw (w.fields f (both_left a b q), still e (both_right a b q))
    action_still (send n e) q =
        let a = among h.methods n in
        let b = not (strange h e) in
        rw (w.methods n (both_left a b q), still e (both_right a b q))
    action_still (send_prefixed c n e) q =
        let t = four (is_class l c) (h.ancestors (class_number l c)) (among (class_name l c).methods n) (not (strange h e)) q in
        let has = grown_at l.classes m.classes g (class_number l c) in
        rw (grown_class l m g c t.0, grown_number l m g c t.0, w.ancestors (class_number l c) t.1, has.methods n t.2, still e t.3)
    action_still (reply e) q = still e q

    named_still : (s : Statement) → named l h s ≡ true → named m k s ≡ true
    named_still s q =
        let a = not (strange_guard h s.guard) in
        let b = named_action l h s.action in
        rw (guard_still s.guard (not-true (strange_guard h s.guard) (both_left a b q)), action_still s.action (both_right a b q))

    -- In a library that has grown, a wider class still knows the names in a body.
    pub body_still : (ss : List Statement) → NamedBody l h ss → NamedBody m k ss
    body_still ss b = all_map (λ s. named l h s ≡ true) (λ s. named m k s ≡ true) ss named_still b

-- ---- a statement without a fault

module _ (l : Library) (below : List Line) (heirs : Heirs l.classes) where
  -- The class being read, with the methods that it has yet to define.
  abbrev writer : Class
  writer = with_methods (later below) (last_class l)

  wide : Wider (last_class l) writer
  wide = with_more (later below) (last_class l)

  own_method_law : (m : Name) → own_method l below m ≡ true → among writer.methods m ≡ true
  unfolding own_method
  own_method_law m e = with_among (later below) (last_class l) m ∙ e

  -- An ancestor's methods are defined above.
  ancestor_method : (c m : Name) → (last_class l).ancestors (class_number l c) ≡ true → method_of l below c m ≡ true → among (class_name l c).methods m ≡ true
  unfolding method_of
  ancestor_method c m a e =
      let before = (heirs (last_number l) (class_number l c) a).0 in
      rw (ne_eqb (class_number l c) (last_number l) (λ z. omega arith)) at e

  unstrange : (e : Expression) → strange (last_class l) e ≡ false → not (strange writer e) ≡ true
  unstrange e q = rw (strange_still (last_class l) writer wide e q)

  -- The class being read knows the names of a statement without a fault.
  action_known : (a : Action) → unknown_in l below a ≡ false → no_ancestor l a ≡ false → named_action l writer a ≡ true
  unfolding unknown_in no_ancestor
  action_known (assign how f e) u n =
      let t = or_false (not (among (last_class l).fields f)) (strange (last_class l) e) u in
      rw (not-false (among (last_class l).fields f) t.0, unstrange e t.1)
  action_known (send m e) u n =
      let t = or_false (not (own_method l below m)) (strange (last_class l) e) u in
      rw (own_method_law m (not-false (own_method l below m) t.0), unstrange e t.1)
  action_known (send_prefixed c m e) u n =
      let t = or_false (not (is_class l c) || not (method_of l below c m)) (strange (last_class l) e) u in
      let v = or_false (not (is_class l c)) (not (method_of l below c m)) t.0 in
      let a = not-false ((last_class l).ancestors (class_number l c)) n in
      rw (not-false (is_class l c) v.0, a, ancestor_method c m a (not-false (method_of l below c m) v.1), unstrange e t.1)
  action_known (reply e) u n = unstrange e u

  statement_named : (s : Statement) → statement_fault l below s ≡ 0 → named l writer s ≡ true
  unfolding statement_fault
  statement_named s f =
      let strangers = strange_guard (last_class l) s.guard || unknown_in l below s.action in
      let many : ℕ = cond (leb 32 (statements_so_far (last_class l))) 17 0 in
      let p = no_fault strangers 13 (cond (no_ancestor l s.action) 16 many) f in
      let t = or_false (strange_guard (last_class l) s.guard) (unknown_in l below s.action) p.0 in
      rw (guard_still (last_class l) writer wide s.guard t.0, action_known s.action t.1 (no_fault (no_ancestor l s.action) 15 many p.1).0)

  -- So does the last class, counted with the methods yet to be defined.
  statement_ahead : (s : Statement) → statement_fault l below s ≡ 0 → last_number l < length l.classes
      → named (awaiting (later below) l) (class_at (awaiting (later below) l) (last_number l)) s ≡ true
  statement_ahead s f h =
      subst (λ (k : Class). named (awaiting (later below) l) k s ≡ true) (sym (alter_there (with_methods (later below)) no_class (last_number l) l.classes h))
      (named_still writer writer (wider_same writer) l (awaiting (later below) l) (grown_ahead l.classes (later below)) s (statement_named s f))

-- ---- bodies

-- Class c knows the names in the body of m, where ns are the methods that the last class has yet to define.
abbrev Body : List Name → Library → ℕ → Member → Type 0
Body ns l c m = NamedBody (awaiting ns l) (class_at (awaiting ns l) c) (statements_of l m)

-- Each class knows the names in the bodies that it has.
abbrev Bodies : List Name → Library → Type 0
Bodies ns l = (c : ℕ) → All (Body ns l c) (class_at l c).methods

-- A part of a list is unchanged when an element is appended to the list, and a part that reaches the end may be extended by the
-- element.
module _ {A : Type 0} (xs : List A) (x : A) (i n : ℕ) where
  part_kept : i + n ≤ length xs → take n (drop i (xs ++ (x ∷ []))) ≡ take n (drop i xs)
  part_kept h = ap (take n) (drop-append-le i xs (x ∷ []) (omega arith)) ∙ take-append-le n (drop i xs) (x ∷ []) (simp length-drop (omega arith))

  part_more : i + n ≡ length xs → take (suc n) (drop i (xs ++ (x ∷ []))) ≡ take n (drop i xs) ++ (x ∷ [])
  part_more h =
      ap (take (suc n)) (drop-append-le i xs (x ∷ []) (omega arith))
      ∙ take_all (suc n) (drop i xs ++ (x ∷ [])) (simp (length-append, length-drop) (omega arith))
      ∙ ap (λ (ys : List A). ys ++ (x ∷ [])) (sym (take_all n (drop i xs) (simp length-drop (omega arith))))

-- With one more statement, a body that has ended keeps its statements, and the one that reaches the end gets the new one.
module _ (l k : Library) (x : Placed) (e : k.statements ≡ l.statements ++ (x ∷ [])) (m : Member) where
  statements_kept : Within (length l.statements) m → statements_of k m ≡ statements_of l m
  unfolding statements_of
  statements_kept w = rw e (ap (map (λ s. s.statement)) (part_kept l.statements x m.first m.count w))

  statements_more : m.first + m.count ≡ length l.statements → statements_of k (one_more m) ≡ statements_of l m ++ (x.statement ∷ [])
  unfolding statements_of
  statements_more w =
      rw e
      (ap (map (λ s. s.statement)) (part_more l.statements x m.first m.count w)
      ∙ map-append (λ s. s.statement) (take m.count (drop m.first l.statements)) (x ∷ []))

module _ (l k : Library) (ns os : List Name) (grown : Grown (ahead ns l.classes) (ahead os k.classes)) where
  -- A class that has all that another had knows the bodies that the other knew.
  body_passed : (c d : ℕ) → Wider (class_at (awaiting ns l) c) (class_at (awaiting os k) d) → (m : Member) → statements_of k m ≡ statements_of l m
      → Body ns l c m → Body os k d m
  body_passed c d w m e b =
      let h = class_at (awaiting ns l) c in
      let j = class_at (awaiting os k) d in
      subst (NamedBody (awaiting os k) j) (sym e) (body_still h j w (awaiting ns l) (awaiting os k) grown (statements_of l m) b)

  still_wider : (c : ℕ) → Wider (class_at (awaiting ns l) c) (class_at (awaiting os k) c)
  still_wider c = grown_at (ahead ns l.classes) (ahead os k.classes) grown c

  -- Each class still knows the bodies that it has.
  bodies_kept : ((m : Member) → Within (length l.statements) m → statements_of k m ≡ statements_of l m) → Sound l → Bodies ns l
      → (c : ℕ) → All (Body os k c) (class_at l c).methods
  bodies_kept old sound b c =
      let n = length l.statements in
      let ms = (class_at l c).methods in
      all_map (λ m. Within n m × Body ns l c m) (Body os k c) ms (λ m p. body_passed c c (still_wider c) m (old m p.0) p.1)
      (all_both (Within n) (Body ns l c) ms (class_good l n sound c).within (b c))

-- ---- the method being read

-- The body of the method defined last in the class ends where the n statements end.
abbrev EndsAt : ℕ → Class → Type 0
EndsAt n k = k.latest < length k.methods → let m = get_or k.methods k.latest no_member in m.first + m.count ≡ n

method_ends : (c : ℕ) (m : Name) (n : ℕ) (k : Class) → EndsAt n (with_method c m n k)
unfolding with_method
method_ends c m n k h =
    ap (λ (x : Member). x.first + x.count) (written_there (record { origin = c; name = m; first = n; count = 0 }) k.methods)
    ∙ (let z : n + 0 ≡ n = omega arith in z)

statement_ends : (n : ℕ) (k : Class) → EndsAt n k → EndsAt (suc n) (with_statement k)
unfolding with_statement
statement_ends n k h g =
    let there : k.latest < length k.methods = omega (arith, alter_length k.latest one_more k.methods) in
    let e = h there in
    ap (λ (x : Member). x.first + x.count) (alter_there one_more no_member k.latest k.methods there) ∙ omega arith

-- ---- what a line preserves

-- The bodies that a new class inherits are its parents'.
module _ (l k : Library) (n : Name) (ps ns : List Name) (e : k.classes ≡ l.classes ++ (new_class l n ps ∷ []))
    (grown : Grown (ahead [] l.classes) (ahead ns k.classes)) where
  heir_wider : (p : Name) → Memᴰ p ps → Wider (class_at (awaiting [] l) (class_number l p)) (class_at (awaiting ns k) (length l.classes))
  unfolding class_name
  heir_wider p m =
      let cs = l.classes in
      let new = new_class l n ps in
      let there : get_or k.classes (length cs) no_class ≡ new = ap (λ (ds : List Class). get_or ds (length cs) no_class) e ∙ get_or-append_seam cs new [] no_class in
      let last = class_at (awaiting ns k) (length cs) in
      let parent = class_at (awaiting [] l) (class_number l p) in
      wider_over parent (class_name l p) last (grown_at (ahead [] cs) cs (grown_ended cs) (class_number l p))
      (wider_over (class_name l p) new last (parent_wider l n ps p m)
      (subst (λ (x : Class). Wider x last) there (grown_at k.classes (ahead ns k.classes) (grown_ahead k.classes ns) (length cs))))

  new_bodies : ((m : Member) → statements_of k m ≡ statements_of l m) → Bodies [] l → All (Body ns k (length l.classes)) (new_class l n ps).methods
  unfolding new_class class_name
  new_bodies old b =
      let last = length l.classes in
      inherited_all (λ c. c.methods) l (Body ns k last) ps
      (λ p m. all_map (Body [] l (class_number l p)) (Body ns k last) (class_name l p).methods
      (λ x. body_passed l k [] ns grown (class_number l p) last (heir_wider p m) x (old x)) (b (class_number l p)))

-- The bodies of the class that a statement is added to.
module _ (l k : Library) (x : Placed) (ns : List Name) (e : k.statements ≡ l.statements ++ (x ∷ []))
    (grown : Grown (ahead ns l.classes) (ahead ns k.classes)) where
  more_bodies : (c : ℕ) → Sound l → EndsAt (length l.statements) (class_at l c) → Bodies ns l
      → (c < length l.classes → named (awaiting ns l) (class_at (awaiting ns l) c) x.statement ≡ true)
      → All (Body ns k c) (with_statement (class_at l c)).methods
  unfolding with_statement
  more_bodies c sound ends b knows =
      let n = length l.statements in
      let h = class_at l c in
      let old = class_at (awaiting ns l) c in
      let new = class_at (awaiting ns k) c in
      let wide = still_wider l k ns ns grown c in
      all_alter (λ m. Within n m × Body ns l c m) (Body ns k c) no_member h.methods h.latest one_more
      (λ m p. body_passed l k ns ns grown c c wide m (statements_kept l k x e m p.0) p.1)
      (λ there p. let m = get_or h.methods h.latest no_member in
      let ss = statements_of l m in
      subst (NamedBody (awaiting ns k) new) (sym (statements_more l k x e m (ends there)))
      (all_append (λ s. named (awaiting ns k) new s ≡ true) ss (x.statement ∷ [])
      (body_still old new wide (awaiting ns l) (awaiting ns k) grown ss p.1)
      (named_still old new wide (awaiting ns l) (awaiting ns k) grown x.statement (knows (class_there l.classes c h.latest there)), tt)))
      (all_both (Within n) (Body ns l c) h.methods (class_good l n sound c).within (b c))

-- What is known after each line; ns are the methods that the lines below still define in the last class.
record Knows (p : Place) (ns : List Name) (l : Library) : Type 0 where
  sound : Sound l
  heirs : Heirs l.classes
  bodies : Bodies ns l
  ends : InBody p (EndsAt (length l.statements) (last_class l))

module _ (p : Place) (l : Library) (line : Line) (below : List Line) where
  abbrev ns : List Name
  ns = later below

  abbrev last : ℕ
  last = last_number l

  -- It stays known where no statement is added.
  kept : (f : Form) → Knows p (later_by f ns) l → (add l line f).statements ≡ l.statements → (c : ℕ) → All (Body ns (add l line f) c) (class_at l c).methods
  unfolding statements_of
  kept f k e =
      bodies_kept l (add l line f) (later_by f ns) ns (add_grown l line f ns) (λ m w. ap (λ (xs : List Placed). map (λ s. s.statement) (take m.count (drop m.first xs))) e)
      k.sound k.bodies

  add_bodies : (f : Form) → may_stand f p ≡ true → fault_of l below f ≡ 0 → Knows p (later_by f ns) l → Bodies ns (add l line f)
  unfolding add fault_of statements_of with_field with_method
  add_bodies (class_line n ps) e f k =
      let after = add l line (class_line n ps) in
      append_each (λ c x. All (Body ns after c) x.methods) no_class (new_class l n ps) l.classes (kept (class_line n ps) k refl)
      (new_bodies l after n ps ns refl (add_grown l line (class_line n ps) ns) (λ m. refl) k.bodies)
  add_bodies (field_line n) e f k =
      let after = add l line (field_line n) in
      alter_each (λ c x. All (Body ns after c) x.methods) (with_field last n) no_class last l.classes (kept (field_line n) k refl) (λ h. kept (field_line n) k refl last)
  add_bodies (method_line n) e f k =
      let after = add l line (method_line n) in
      alter_each (λ c x. All (Body ns after c) x.methods) (with_method last n (length l.statements)) no_class last l.classes (kept (method_line n) k refl)
      (λ h. written_all (Body ns after last) (record { origin = last; name = n; first = length l.statements; count = 0 }) (last_class l).methods tt (kept (method_line n) k refl last))
  add_bodies (statement_line s) e f k =
      let x : Placed = record { statement = s; at = line.at; size = line.size } in
      let after = add l line (statement_line s) in
      let grown = add_grown l line (statement_line s) ns in
      let ends = in_body (EndsAt (length l.statements) (last_class l)) p s e k.ends in
      alter_each (λ c h. All (Body ns after c) h.methods) with_statement no_class last l.classes
      (bodies_kept l after ns ns grown (statements_kept l after x refl) k.sound k.bodies)
      (λ h. more_bodies l after x ns refl grown last k.sound ends k.bodies (statement_ahead l below k.heirs s f))
  add_bodies end_line e f k = k.bodies
  add_bodies (object_line n c vs) e f k = kept (object_line n c vs) k refl
  add_bodies malformed e f k = k.bodies

  add_ends : (f : Form) → may_stand f p ≡ true → Knows p (later_by f ns) l
      → InBody (place_after f) (EndsAt (length (add l line f).statements) (last_class (add l line f)))
  unfolding add
  add_ends (class_line n ps) e k = tt
  add_ends (field_line n) e k = tt
  add_ends (method_line n) e k =
      let size = length l.statements in
      alter_last (EndsAt size) (with_method last n size) no_class l.classes (λ z h. absurd (omega arith)) (method_ends last n size (last_class l))
  add_ends (statement_line s) e k =
      let x : Placed = record { statement = s; at = line.at; size = line.size } in
      let size = length l.statements in
      let ends = in_body (EndsAt size (last_class l)) p s e k.ends in
      subst (λ (n : ℕ). EndsAt n (last_class (add l line (statement_line s)))) (sym (length-append l.statements (x ∷ []) ∙ add-one size))
      (alter_last (EndsAt (suc size)) with_statement no_class l.classes (λ z h. absurd (omega arith)) (statement_ends size (last_class l) ends))
  add_ends end_line e k = tt
  add_ends (object_line n c vs) e k = tt
  add_ends malformed e k = tt

  add_knows : (f : Form) → may_stand f p ≡ true → fault_of l below f ≡ 0 → Knows p (later_by f ns) l → Knows (place_after f) ns (add l line f)
  add_knows f e fault k =
      record {
        sound = add_sound l line f k.sound;
        heirs = add_heirs l line f below fault k.heirs;
        bodies = add_bodies f e fault k;
        ends = add_ends f e k;
      }

-- ---- the library of a text

-- It is known at the end of the text, where no method is yet to be defined.
library_knows : (text : List ℕ) → (p : Place) × Knows p [] (library text)
unfolding later
library_knows text =
    of_text text (λ p ls l. Knows p (later ls) l)
    (λ ls. record { sound = tt; heirs = λ c d e. absurd (false≢true e); bodies = λ c. tt; ends = tt })
    (λ p l line below q k. add_knows p l line below line.form q.stands q.faultless k)

-- Each class of a text knows the names in the bodies that it has, and has what its ancestors have.
pub library_names : (text : List ℕ) → Names (library text)
library_names text =
    let l = library text in
    let k = (library_knows text).1 in
    record {
      bodies = λ c j h.
          body_still (class_at (awaiting [] l) c) (class_at l c) (grown_at (ahead [] l.classes) l.classes (grown_ended l.classes) c)
          (awaiting [] l) l (grown_ended l.classes) (statements_of l (get_or (class_at l c).methods j no_member))
          (all_below (Body [] l c) (class_at l c).methods no_member (k.bodies c) j h);
      fields = λ c d e. (k.heirs c d e).1.fields;
      methods = λ c d e. (k.heirs c d e).1.methods;
      ancestors = λ c d e a. (k.heirs c d a).1.ancestors e;
    }
