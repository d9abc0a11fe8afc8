-- A class comes after its ancestors and has their fields, their methods and their ancestors. Classes that grow keep what they have.
use Prim.Native.Nat.{ℕ, zero, suc, pred, ◌≤◌, ◌<◌}
use Rattle.std.proofs.Common.{arith, subst, ◌∙◌}
use Rattle.std.specs.Prelude.{◌≡◌, refl, Bool, true, false, ◌||◌, length, get_or}
use Rattle.std.proofs.Math.Path.{sym, ap}
use Rattle.std.proofs.Math.Bool.{not, cond, or-false as or_nothing, or-true, or_assoc}
use Rattle.std.proofs.lemmas.Bool.{false≢true}
use mathlib.Core.List.{List, [], ◌∷◌, ◌++◌, Memᴰ}
use Rattle.std.proofs.Math.ListN.{get_or-append}
use Rattle.std.proofs.Math.Dec.{eqb}
use borrow.Author.Tests.{not-false}
use Rattle.model.specs.Base.{same, any, first_at, alter, fold, some_pair}
use Rattle.model.specs.Word.{Name}
use Rattle.model.specs.Form.{Form, class_line, field_line, method_line, statement_line, end_line, object_line, malformed, Line}
use Rattle.model.specs.Library.{Member, Class, Library, no_class, among, class_number, is_class, class_name, class_at, last_number, joined, inherited, above, new_class, with_field, with_method, with_statement, add}
use Rattle.model.specs.Fault.{disagree, class_too_many, class_fault, fault_of}
use Rattle.laws.specs.Lists.{eqb_true, same_sound, any_member, any_none, member_any, alter_else, alter_each, append_each, is_there}
use Rattle.text_theory.specs.Pass.{no_fault}
use Rattle.text_theory.specs.Accepted.{among_append, written_among, alter_names, number_known}

-- ---- a class that has what another has

-- Class k has what class h has.
pub record Wider (h k : Class) : Type 0 where
  pub fields : (n : Name) → among h.fields n ≡ true → among k.fields n ≡ true
  pub methods : (n : Name) → among h.methods n ≡ true → among k.methods n ≡ true
  pub ancestors : (d : ℕ) → h.ancestors d ≡ true → k.ancestors d ≡ true

-- The relation is reflexive and transitive.
pub wider_same : (k : Class) → Wider k k
wider_same k = record { fields = λ n e. e; methods = λ n e. e; ancestors = λ d e. e }

pub wider_over : (h k m : Class) → Wider h k → Wider k m → Wider h m
wider_over h k m v w =
    record {
      fields = λ n e. w.fields n (v.fields n e);
      methods = λ n e. w.methods n (v.methods n e);
      ancestors = λ d e. w.ancestors d (v.ancestors d e);
    }

-- The empty class has nothing.
wider_none : (k : Class) → Wider no_class k
unfolding among any
wider_none k = record { fields = λ n e. absurd (false≢true e); methods = λ n e. absurd (false≢true e); ancestors = λ d e. absurd (false≢true e) }

-- ---- what a class inherits from its parents

-- A name is among joined members where it is among either list.
joined_among : (done ms : List Member) (n : Name) → among (joined done ms) n ≡ (among done n || among ms n)
unfolding joined fold among any
joined_among done [] n = sym (or_nothing (among done n))
joined_among done (m ∷ ms) n = go (λ d. joined_among d ms n) (among done m.name) refl
  where
    here : among done m.name ≡ true → (t : Bool) → same m.name n ≡ t → (among done n || among ms n) ≡ (among done n || (t || among ms n))
    here e true q = rw (subst (λ (x : Name). among done x ≡ true) (same_sound m.name n q) e)
    here e false q = refl

    go : ((d : List Member) → among (joined d ms) n ≡ (among d n || among ms n)) → (t : Bool) → among done m.name ≡ t
        → among (joined (cond t done (done ++ (m ∷ []))) ms) n ≡ (among done n || (same m.name n || among ms n))
    go rest true e = rest done ∙ here e (same m.name n) refl
    go rest false e =
        rest (done ++ (m ∷ []))
        ∙ ap (λ (b : Bool). b || among ms n) (among_append done (m ∷ []) n ∙ ap (λ (b : Bool). among done n || b) (or_nothing (same m.name n)))
        ∙ or_assoc (among done n) (same m.name n) (among ms n)

module _ (part : Class → List Member) (l : Library) (n : Name) where
  among_from : (done : List Member) (ps : List Name)
      → among (fold (λ ms p. joined ms (part (class_name l p))) done ps) n ≡ (among done n || any (λ p. among (part (class_name l p)) n) ps)
  unfolding fold any
  among_from done [] = sym (or_nothing (among done n))
  among_from done (p ∷ ps) =
      let ms = part (class_name l p) in
      among_from (joined done ms) ps
      ∙ ap (λ (b : Bool). b || any (λ q. among (part (class_name l q)) n) ps) (joined_among done ms n)
      ∙ or_assoc (among done n) (among ms n) (any (λ q. among (part (class_name l q)) n) ps)

  -- A name is inherited where it is among a parent's members.
  inherited_among : (ps : List Name) → among (inherited part l ps) n ≡ any (λ p. among (part (class_name l p)) n) ps
  unfolding inherited among any
  inherited_among ps = among_from [] ps

module _ (l : Library) (n : Name) (ps : List Name) where
  -- A new class has what its parents have.
  pub parent_wider : (p : Name) → Memᴰ p ps → Wider (class_name l p) (new_class l n ps)
  unfolding new_class above
  parent_wider p m =
      record {
        fields = λ x e. inherited_among (λ c. c.fields) l x ps ∙ member_any (λ q. among (class_name l q).fields x) m e;
        methods = λ x e. inherited_among (λ c. c.methods) l x ps ∙ member_any (λ q. among (class_name l q).methods x) m e;
        ancestors = λ d e. member_any (λ q. eqb (class_number l q) d || (class_name l q).ancestors d) m (rw e (or-true (eqb (class_number l p) d)));
      }

  -- The parents of a class without a fault are known.
  parent_known : class_fault l n ps ≡ 0 → (p : Name) → Memᴰ p ps → is_class l p ≡ true
  unfolding class_fault
  parent_known e p m =
      let unknown = any (λ q. not (is_class l q)) ps in
      let others : ℕ =
      cond (some_pair (λ p q. disagree (class_name l p).fields (class_name l q).fields) ps) 15 (cond (class_too_many l ps) 17 0) in
      not-false (is_class l p) (any_none (λ q. not (is_class l q)) m (no_fault unknown 13 others (no_fault (is_class l n || some_pair same ps) 12 (cond unknown 14 others) e).1).0)

-- ---- a class and its ancestors

-- Class c, which is k, comes after its ancestors and has what they have.
abbrev Heir : List Class → ℕ → Class → Type 0
Heir cs c k = (d : ℕ) → k.ancestors d ≡ true → (d < c) × Wider (get_or cs d no_class) k

-- Each class is an heir.
abbrev pub Heirs : List Class → Type 0
Heirs cs = (c : ℕ) → Heir cs c (get_or cs c no_class)

-- Only a known class has ancestors.
has_ancestors : (cs : List Class) (c d : ℕ) → (get_or cs c no_class).ancestors d ≡ true → c < length cs
has_ancestors cs c d e = is_there (λ (k : Class). k.ancestors d ≡ true) no_class cs c false≢true e

before_last : (d c n : ℕ) → d < c → c < n → d ≡ pred n → ⊥
before_last d c n p q e = omega arith

-- Altering the last class preserves heirs, if its ancestors stay the same.
heirs_altered : (f : Class → Class) → ((k : Class) → (f k).ancestors ≡ k.ancestors) → ((k : Class) → Wider k (f k)) → (cs : List Class) → Heirs cs
    → Heirs (alter (pred (length cs)) f cs)
heirs_altered f keeps wide cs h =
    alter_each (Heir ds) f no_class n cs kept
    (λ l d e. let p = kept n d (ap (λ (a : ℕ → Bool). a d) (sym (keeps last)) ∙ e) in (p.0, wider_over (get_or ds d no_class) last (f last) p.1 (wide last)))
  where
    n : ℕ
    n = pred (length cs)

    ds : List Class
    ds = alter n f cs

    last : Class
    last = get_or cs n no_class

    kept : (c : ℕ) → Heir ds c (get_or cs c no_class)
    kept c d e =
        let p = h c d e in
        let there = has_ancestors cs c d e in
        let away : d ≡ n → ⊥ = before_last d c (length cs) p.0 there in
        (p.0, subst (λ (k : Class). Wider k (get_or cs c no_class)) (sym (alter_else f no_class n d cs away)) p.1)

-- Adding a class preserves heirs.
heirs_appended : (cs : List Class) (k : Class) → Heir cs (length cs) k → Heirs cs → Heirs (cs ++ (k ∷ []))
heirs_appended cs k new h =
    append_each (Heir ds) no_class k cs (λ c d e. kept c (get_or cs c no_class) (let t = has_ancestors cs c d e in omega arith) (h c) d e)
    (kept (length cs) k (omega arith) new)
  where
    ds : List Class
    ds = cs ++ (k ∷ [])

    kept : (c : ℕ) (x : Class) → c ≤ length cs → Heir cs c x → Heir ds c x
    kept c x b w d e =
        let p = w d e in
        (p.0, subst (λ (y : Class). Wider y x) (sym (get_or-append cs (k ∷ []) no_class d (omega (arith, p.0)))) p.1)

-- A new class without a fault is an heir.
new_heir : (l : Library) (n : Name) (ps : List Name) → class_fault l n ps ≡ 0 → Heirs l.classes → Heir l.classes (length l.classes) (new_class l n ps)
unfolding new_class above class_name
new_heir l n ps f h d e = from (any_member (λ p. eqb (class_number l p) d || (class_name l p).ancestors d) ps e)
  where
    go : (p : Name) → Memᴰ p ps → (t : Bool) → eqb (class_number l p) d ≡ t → (t || (class_name l p).ancestors d) ≡ true
        → (d < length l.classes) × Wider (class_at l d) (new_class l n ps)
    go p m true q a =
        let z = eqb_true (class_number l p) d q in
        let there = number_known l p (parent_known l n ps f p m) in
        (omega arith, subst (λ (c : ℕ). Wider (class_at l c) (new_class l n ps)) z (parent_wider l n ps p m))
    go p m false q a =
        let w = h (class_number l p) d a in
        let there = number_known l p (parent_known l n ps f p m) in
        (omega (arith, w.0), wider_over (class_at l d) (class_name l p) (new_class l n ps) w.1 (parent_wider l n ps p m))

    from : (p : Name) × Memᴰ p ps × ((eqb (class_number l p) d || (class_name l p).ancestors d) ≡ true) → (d < length l.classes) × Wider (class_at l d) (new_class l n ps)
    from (p, m, a) = go p m (eqb (class_number l p) d) refl a

-- ---- classes that grow

-- The classes ds begin with the classes cs, each with its name and at least what it had.
abbrev pub Grown : List Class → List Class → Type 0
Grown [] ds = Unit {0}
Grown (c ∷ cs) [] = ⊥
Grown (c ∷ cs) (d ∷ ds) = (d.name ≡ c.name) × Wider c d × Grown cs ds

-- Each class has at least what it had.
pub grown_at : (cs ds : List Class) → Grown cs ds → (c : ℕ) → Wider (get_or cs c no_class) (get_or ds c no_class)
grown_at [] ds g c = wider_none (get_or ds c no_class)
grown_at (x ∷ cs) [] g c = absurd g
grown_at (x ∷ cs) (y ∷ ds) g zero = g.1
grown_at (x ∷ cs) (y ∷ ds) g (suc c) = grown_at cs ds g.2 c

-- A class that was found by its name still is, under the same number.
still_there : (n : Name) (cs ds : List Class) → Grown cs ds → any (λ c. same c.name n) cs ≡ true
    → (any (λ c. same c.name n) ds ≡ true) × (first_at (λ c. same c.name n) ds ≡ first_at (λ c. same c.name n) cs)
unfolding any first_at
still_there n [] ds g e = absurd (false≢true e)
still_there n (x ∷ cs) [] g e = absurd g
still_there n (x ∷ cs) (y ∷ ds) g e = rw g.0 (go (same x.name n) (still_there n cs ds g.2) e)
  where
    go : (t : Bool) → (any (λ c. same c.name n) cs ≡ true → (any (λ c. same c.name n) ds ≡ true) × (first_at (λ c. same c.name n) ds ≡ first_at (λ c. same c.name n) cs))
        → (t || any (λ c. same c.name n) cs) ≡ true
        → ((t || any (λ c. same c.name n) ds) ≡ true) × (cond t 0 (suc (first_at (λ c. same c.name n) ds)) ≡ cond t 0 (suc (first_at (λ c. same c.name n) cs)))
    go true ih e = (refl, refl)
    go false ih e = ((ih e).0, ap suc (ih e).1)

module _ (l m : Library) (g : Grown l.classes m.classes) (n : Name) (e : is_class l n ≡ true) where
  pub grown_class : is_class m n ≡ true
  unfolding is_class
  grown_class = (still_there n l.classes m.classes g e).0

  pub grown_number : class_number m n ≡ class_number l n
  unfolding is_class class_number
  grown_number = (still_there n l.classes m.classes g e).1

pub grown_same : (cs : List Class) → Grown cs cs
grown_same [] = tt
grown_same (c ∷ cs) = (refl, wider_same c, grown_same cs)

pub grown_over : (cs ds es : List Class) → Grown cs ds → Grown ds es → Grown cs es
grown_over [] ds es g h = tt
grown_over (c ∷ cs) [] es g h = absurd g
grown_over (c ∷ cs) (d ∷ ds) [] g h = absurd h
grown_over (c ∷ cs) (d ∷ ds) (e ∷ es) g h = (h.0 ∙ g.0, wider_over c d e g.1 h.1, grown_over cs ds es g.2 h.2)

-- Classes grow by more classes, and by more contents of a class.
pub grown_more : (cs ds : List Class) → Grown cs (cs ++ ds)
grown_more [] ds = tt
grown_more (c ∷ cs) ds = (refl, wider_same c, grown_more cs ds)

-- What g makes of a class has the same name as what f makes of it, and all that it has.
abbrev pub Over : (Class → Class) → (Class → Class) → Type 0
Over f g = (k : Class) → ((g k).name ≡ (f k).name) × Wider (f k) (g k)

pub grown_alter : (f g : Class → Class) → Over f g → (n : ℕ) (cs : List Class) → Grown (alter n f cs) (alter n g cs)
unfolding alter
grown_alter f g o n [] = tt
grown_alter f g o zero (c ∷ cs) = ((o c).0, (o c).1, grown_same cs)
grown_alter f g o (suc n) (c ∷ cs) = (refl, wider_same c, grown_alter f g o n cs)

-- ---- what a line adds to a class

pub field_wider : (c : ℕ) (n : Name) (k : Class) → Wider k (with_field c n k)
unfolding with_field
field_wider c n k =
    record { fields = λ x e. among_append k.fields (record { origin = c; name = n; first = 0; count = 0 } ∷ []) x ∙ rw e; methods = λ x e. e; ancestors = λ d e. e }

pub method_among : (c : ℕ) (n : Name) (first : ℕ) (k : Class) (x : Name) → among (with_method c n first k).methods x ≡ (same n x || among k.methods x)
unfolding with_method
method_among c n first k x = written_among (record { origin = c; name = n; first = first; count = 0 }) k.methods x

method_wider : (c : ℕ) (n : Name) (first : ℕ) (k : Class) → Wider k (with_method c n first k)
unfolding with_method
method_wider c n first k =
    record { fields = λ x e. e; methods = λ x e. method_among c n first k x ∙ rw e (or-true (same n x)); ancestors = λ d e. e }

pub statement_wider : (k : Class) → Wider k (with_statement k)
unfolding with_statement
statement_wider k = record { fields = λ x e. e; methods = λ x e. alter_names k.methods k.latest x ∙ e; ancestors = λ d e. e }

-- After a line without a fault each class still has what its ancestors have.
pub add_heirs : (l : Library) (line : Line) (f : Form) (below : List Line) → fault_of l below f ≡ 0 → Heirs l.classes → Heirs (add l line f).classes
unfolding add fault_of with_field with_method with_statement
add_heirs l line (class_line n ps) below e h = heirs_appended l.classes (new_class l n ps) (new_heir l n ps e h) h
add_heirs l line (field_line n) below e h = let c = last_number l in heirs_altered (with_field c n) (λ k. refl) (field_wider c n) l.classes h
add_heirs l line (method_line n) below e h =
    let c = last_number l in
    let first = length l.statements in
    heirs_altered (with_method c n first) (λ k. refl) (method_wider c n first) l.classes h
add_heirs l line (statement_line s) below e h = heirs_altered with_statement (λ k. refl) statement_wider l.classes h
add_heirs l line end_line below e h = h
add_heirs l line (object_line n c vs) below e h = h
add_heirs l line malformed below e h = h
