-- A method that a class inherits is a copy: the class that defines it has it with the same body as each class that inherits it.
-- So the rule of resolution finds each method as the class has it.
use Rattle.std.specs.Prelude.{ℕ, zero, suc, pred, ◌≤◌, ◌<◌, ◌≡◌, refl, Bool, true, false, cond, List, [], ◌∷◌, ◌++◌, map, length, get_or}
use Rattle.std.proofs.Common.{arith, sym, ap, ap₂, subst, ◌∙◌, length-append}
use Rattle.std.proofs.Math.Decide.{dec_lt}
use Rattle.std.proofs.Math.ListN.{get_or-append, get_or-eq_default}
use Rattle.std.proofs.Math.Seq.{get_or-append_seam}
use Rattle.model.specs.Base.{same, first_at, alter}
use Rattle.model.specs.Word.{Name}
use Rattle.model.specs.Form.{Form, class_line, field_line, method_line, statement_line, end_line, object_line, malformed, Line, Place, place_after, may_stand}
use Rattle.model.specs.Library.{Member, Class, Library, no_member, no_class, member, member_place, among, class_number, class_name, class_at, inherited, written, new_class, with_field, with_method, with_statement, one_more, add, Resolution, as_recorded}
use Rattle.model.specs.Read.{library}
use Rattle.laws.specs.Basics.{All, all_map}
use Rattle.laws.specs.Lists.{map_at, is_there, alter_length, alter_there, alter_else, alter_last}
use Rattle.laws.specs.Lookup.{place_known, name_at, name_known}
use Rattle.vector_theory.specs.Lawful.{Lawful, as_recorded_lawful}
use Rattle.text_theory.specs.Pass.{InBody, in_body, of_text}
use Rattle.text_theory.specs.Accepted.{Unique, unique_place, all_below, all_alter, class_good, inherited_all, written_all, library_sound}

module _ {A : Type 0} (P : A → Type 0) (d : A) where
  -- What holds at each place holds of all.
  all_places : (xs : List A) → ((k : ℕ) → k < length xs → P (get_or xs k d)) → All P xs
  all_places [] f = tt
  all_places (x ∷ xs) f = (f 0 (omega arith), all_places xs (λ k h. f (suc k) (omega arith)))

-- ---- members and their copies

-- The member is in the list.
abbrev Has : List Member → Member → Type 0
Has ms m = (k : ℕ) × (k < length ms) × (get_or ms k no_member ≡ m)

abbrev methods_at : List Class → ℕ → List Member
methods_at cs c = (get_or cs c no_class).methods

-- A method of class c is defined in c, or is a method of the earlier class that defines it.
abbrev Copy : List Class → ℕ → Member → Type 0
Copy cs c m = (m.origin ≤ c) × (m.origin < c → Has (methods_at cs m.origin) m)

abbrev Copies : List Class → Type 0
Copies cs = (c : ℕ) → All (Copy cs c) (methods_at cs c)

-- The class that defines a method has it.
writer_has : (cs : List Class) → Copies cs → (c k : ℕ) → k < length (methods_at cs c)
    → let m = get_or (methods_at cs c) k no_member in (m.origin ≤ c) × Has (methods_at cs m.origin) m
writer_has cs copies c k h =
    let p = all_below (Copy cs c) (methods_at cs c) no_member (copies c) k h in
    (p.0, go p (dec_lt m.origin c))
  where
    m : Member
    m = get_or (methods_at cs c) k no_member

    go : Copy cs c m → Dec (m.origin < c) → Has (methods_at cs m.origin) m
    go p (yes o) = p.1 o
    go p (no o) = let e : c ≡ m.origin = omega (arith, p.0) in subst (λ (b : ℕ). Has (methods_at cs b) m) e (k, h, refl)

-- Among members with different names, each is found by its name.
found : (ms : List Member) → Unique ms → (m : Member) → Has ms m → (among ms m.name ≡ true) × (member ms m.name ≡ m)
unfolding member
found ms u m (k, h, e) =
    let name : get_or (map (λ n. n.name) ms) k [] ≡ m.name = map_at (λ (n : Member). n.name) ms k no_member [] h ∙ ap (λ (n : Member). n.name) e in
    let place : member_place ms m.name ≡ k = ap (member_place ms) (sym name) ∙ unique_place ms u k h in
    (subst (λ (n : Name). among ms n ≡ true) name (name_known ms k h), ap (λ (j : ℕ). get_or ms j no_member) place ∙ e)

-- ---- one more class, or the last one altered

-- The classes below n are unchanged, and there are none above it.
module _ (cs ds : List Class) (n : ℕ) (low : (c : ℕ) → c < n → methods_at ds c ≡ methods_at cs c) where
  copy_kept : (c : ℕ) → c ≤ n → (m : Member) → Copy cs c m → Copy ds c m
  copy_kept c h m p = (p.0, λ o. subst (λ (ms : List Member). Has ms m) (sym (low m.origin (omega arith))) (p.1 o))

  changed : All (Copy cs n) (methods_at ds n) → ((c : ℕ) → n < c → methods_at ds c ≡ []) → Copies cs → Copies ds
  changed last past copies c = go (dec_lt c n) (dec_lt n c)
    where
      go : Dec (c < n) → Dec (n < c) → All (Copy ds c) (methods_at ds c)
      go (yes h) b = subst (All (Copy ds c)) (sym (low c h)) (all_map (Copy cs c) (Copy ds c) (methods_at cs c) (copy_kept c (omega arith)) (copies c))
      go (no g) (yes h) = subst (All (Copy ds c)) (sym (past c h)) tt
      go (no g) (no h) =
          let e : n ≡ c = omega arith in
          subst (λ (b : ℕ). All (Copy ds b) (methods_at ds b)) e (all_map (Copy cs n) (Copy ds n) (methods_at ds n) (copy_kept n (omega arith)) last)

abbrev last_of : List Class → Class
last_of cs = get_or cs (pred (length cs)) no_class

altered : (cs : List Class) (f : Class → Class) → All (Copy cs (pred (length cs))) (f (last_of cs)).methods → Copies cs
    → Copies (alter (pred (length cs)) f cs)
unfolding alter
altered [] f last copies = copies
altered (k ∷ ks) f last copies =
    let n = length ks in
    let cs = k ∷ ks in
    changed cs (alter n f cs) n (λ c h. ap (λ (x : Class). x.methods) (alter_else f no_class n c cs (omega arith)))
    (subst (λ (x : Class). All (Copy cs n) x.methods) (sym (alter_there f no_class n cs (omega arith))) last)
    (λ c h. ap (λ (x : Class). x.methods) (alter_else f no_class n c cs (omega arith) ∙ get_or-eq_default cs no_class {n = c} (omega arith))) copies

appended : (cs : List Class) (k : Class) → All (Copy cs (length cs)) k.methods → Copies cs → Copies (cs ++ (k ∷ []))
appended cs k last copies =
    let n = length cs in
    let ds = cs ++ (k ∷ []) in
    changed cs ds n (λ c h. ap (λ (x : Class). x.methods) (get_or-append cs (k ∷ []) no_class c h))
    (subst (λ (x : Class). All (Copy cs n) x.methods) (sym (get_or-append_seam cs k [] no_class)) last)
    (λ c h. ap (λ (x : Class). x.methods) (get_or-eq_default ds no_class (omega (arith, length-append cs (k ∷ []))))) copies

-- ---- what a class inherits

-- Only a known class has methods.
pub class_there : (cs : List Class) (c k : ℕ) → k < length (methods_at cs c) → c < length cs
class_there cs c k h = is_there (λ (x : Class). k < length x.methods) no_class cs c (λ z. omega arith) h

module _ (l : Library) (copies : Copies l.classes) where
  -- A parent's methods in the class that comes next.
  parent_copies : (c : ℕ) → All (Copy l.classes (length l.classes)) (methods_at l.classes c)
  parent_copies c =
      let cs = l.classes in
      all_places (Copy cs (length cs)) no_member (methods_at cs c)
      (λ k h. let w = writer_has cs copies c k h in let t = class_there cs c k h in (omega (arith, w.0, t), λ o. w.1))

  inherited_copies : (ps : List Name) → All (Copy l.classes (length l.classes)) (inherited (λ c. c.methods) l ps)
  unfolding class_name
  inherited_copies ps = inherited_all (λ c. c.methods) l (Copy l.classes (length l.classes)) ps (λ p m. parent_copies (class_number l p))

-- ---- what a class defines

-- A member that is defined stands where its name was found.
pub written_there : (m : Member) (ms : List Member) → get_or (written m ms) (member_place ms m.name) no_member ≡ m
unfolding written member_place first_at
written_there m [] = refl
written_there m (k ∷ ks) = go (same k.name m.name) (written_there m ks)
  where
    go : (t : Bool) → get_or (written m ks) (member_place ks m.name) no_member ≡ m
        → get_or (cond t (m ∷ ks) (k ∷ written m ks)) (cond t 0 (suc (member_place ks m.name))) no_member ≡ m
    go true rest = refl
    go false rest = rest

-- One more statement in a method that the class defines itself.
more_copies : (cs : List Class) (n : ℕ) (ms : List Member) (k : ℕ) → (get_or ms k no_member).origin ≡ n → All (Copy cs n) ms
    → All (Copy cs n) (alter k one_more ms)
more_copies cs n ms k e h = all_alter (Copy cs n) (Copy cs n) no_member ms k one_more (λ m p. p) (λ l p. (p.0, λ o. absurd (omega arith))) h

more_origin : (ms : List Member) (k : ℕ) → (get_or (alter k one_more ms) k no_member).origin ≡ (get_or ms k no_member).origin
unfolding alter
more_origin [] k = refl
more_origin (m ∷ ms) zero = refl
more_origin (m ∷ ms) (suc k) = more_origin ms k

-- ---- the method being read

-- The method defined last in the last class is the class's own.
abbrev Own : List Class → Type 0
Own cs = (get_or (last_of cs).methods (last_of cs).latest no_member).origin ≡ pred (length cs)

-- The last class altered so that its method defined last is its own.
altered_own : (cs : List Class) (f : Class → Class)
    → (let k = f (last_of cs) in (get_or k.methods k.latest no_member).origin ≡ pred (length cs)) → Own (alter (pred (length cs)) f cs)
altered_own cs f e =
    alter_last (λ (k : Class). (get_or k.methods k.latest no_member).origin ≡ pred (length cs)) f no_class cs (λ z. omega arith) e
    ∙ ap pred (sym (alter_length (pred (length cs)) f cs))

-- ---- one more line

abbrev Kept : Place → Library → Type 0
Kept p l = Copies l.classes × InBody p (Own l.classes)

method_copies : (cs : List Class) (n : ℕ) (m : Name) (first : ℕ) (k : Class) → All (Copy cs n) k.methods → All (Copy cs n) (with_method n m first k).methods
unfolding with_method
method_copies cs n m first k h =
    written_all (Copy cs n) (record { origin = n; name = m; first = first; count = 0 }) k.methods (omega arith, λ o. absurd (omega arith)) h

method_own : (n : ℕ) (m : Name) (first : ℕ) (k : Class)
    → (let x = with_method n m first k in (get_or x.methods x.latest no_member).origin ≡ n)
unfolding with_method
method_own n m first k = ap (λ (x : Member). x.origin) (written_there (record { origin = n; name = m; first = first; count = 0 }) k.methods)

add_kept : (p : Place) (l : Library) (line : Line) (f : Form) → may_stand f p ≡ true → Kept p l → Kept (place_after f) (add l line f)
unfolding add new_class with_field with_statement
add_kept p l line (class_line n ps) e h = (appended l.classes (new_class l n ps) (inherited_copies l h.0 ps) h.0, tt)
add_kept p l line (field_line n) e h =
    let c = pred (length l.classes) in
    (altered l.classes (with_field c n) (h.0 c) h.0, tt)
add_kept p l line (method_line n) e h =
    let c = pred (length l.classes) in
    let f = with_method c n (length l.statements) in
    let k = last_of l.classes in (
      altered l.classes f (method_copies l.classes c n (length l.statements) k (h.0 c)) h.0,
      altered_own l.classes f (method_own c n (length l.statements) k),
    )
add_kept p l line (statement_line s) e h =
    let c = pred (length l.classes) in
    let k = last_of l.classes in
    let own = in_body (Own l.classes) p s e h.1 in (
      altered l.classes with_statement (more_copies l.classes c k.methods k.latest own (h.0 c)) h.0,
      altered_own l.classes with_statement (more_origin k.methods k.latest ∙ own),
    )
add_kept p l line end_line e h = (h.0, tt)
add_kept p l line (object_line n c vs) e h = (h.0, tt)
add_kept p l line malformed e h = (h.0, tt)

-- ---- the library of a text

-- A method that a class has is the one of the class that defines it, with the same body.
abbrev pub Copied : Library → Member → Type 0
Copied l m = let ms = (class_at l m.origin).methods in (among ms m.name ≡ true) × (member ms m.name ≡ m)

pub library_copied : (text : List ℕ) (c j : ℕ) → j < length (class_at (library text) c).methods
    → Copied (library text) (get_or (class_at (library text) c).methods j no_member)
library_copied text c j h =
    let l = library text in
    let m = get_or (class_at l c).methods j no_member in
    let copies = (of_text text (λ p ls k. Kept p k) (λ ls. (λ b. tt, tt)) (λ p k line below q s. add_kept p k line line.form q.stands s)).1.0 in
    let good = class_good l (length l.statements) (library_sound text) m.origin in
    found (class_at l m.origin).methods good.unique m (writer_has l.classes copies c j h).1

-- ---- resolution

-- A rule of resolution that gives copies: it finds each method that a class has as the class has it, and no other method.
pub record Resolves (l : Library) (resolve : Resolution) : Type 0 where
  pub lawful : Lawful l resolve
  pub copied : (c : ℕ) (m : Name) → among (class_at l c).methods m ≡ true
      → let ms = (class_at l (resolve c m)).methods in (among ms m ≡ true) × (member ms m ≡ member (class_at l c).methods m)

-- 01's rule gives copies where each method is a copy.
pub as_recorded_resolves : (l : Library) → ((c j : ℕ) → j < length (class_at l c).methods → Copied l (get_or (class_at l c).methods j no_member))
    → Resolves l (as_recorded l)
unfolding as_recorded member
as_recorded_resolves l copies = record { lawful = as_recorded_lawful l; copied = known }
  where
    known : (c : ℕ) (m : Name) → among (class_at l c).methods m ≡ true
        → let ms = (class_at l (as_recorded l c m)).methods in (among ms m ≡ true) × (member ms m ≡ member (class_at l c).methods m)
    known c m e =
        let ms = (class_at l c).methods in
        let j = member_place ms m in
        let h = place_known ms m e in
        let b = get_or ms j no_member in
        let writer : b.origin ≡ as_recorded l c m = sym (map_at (λ (k : Member). k.origin) ms j no_member (length l.classes) h) in
        let name : b.name ≡ m = sym (map_at (λ (k : Member). k.name) ms j no_member [] h) ∙ name_at ms m h in
        let there = copies c j h in (
          ap₂ (λ (d : ℕ) (n : Name). among (class_at l d).methods n) (sym writer) (sym name) ∙ there.0,
          ap₂ (λ (d : ℕ) (n : Name). member (class_at l d).methods n) (sym writer) (sym name) ∙ there.1,
        )
