-- What holds of the library of any text: a class's methods have different names, their bodies lie within the text's statements,
-- each object is of a known class, and each statement stands at its place, within the text.
use Prim.Native.Nat.{ℕ, zero, suc, pred, ◌+◌, ◌≤◌, ◌<◌}
use Rattle.std.proofs.Common.{arith, not-suc-le-zero, le_of_suc-le-suc, add-one, sym, ap, subst, ◌∙◌, true≢false, length-append}
use Rattle.std.specs.Prelude.{◌≡◌, refl, Bool, true, false, not, cond, ◌||◌, length, get_or, take, drop, leb, ltb}
use Rattle.std.proofs.Math.Bool.{or-true, or_assoc, or_self_left}
use mathlib.Core.List.{List, [], ◌∷◌, ◌++◌, map, Memᴰ}
use Rattle.std.proofs.lemmas.Bool.{not-false}
use Rattle.model.specs.Base.{same, any, first_at, alter, fold}
use Rattle.model.specs.Text.{words}
use Rattle.model.specs.Word.{Name}
use Rattle.model.specs.Form.{Statement, Form, class_line, field_line, method_line, statement_line, end_line, object_line, malformed, Line, form_of}
use Rattle.model.specs.Library.{Member, Class, Placed, Object, Library, nothing, no_member, no_class, member_place, among, class_number, is_class, class_name, class_at, last_number, last_class, alter_last, joined, inherited, written, new_class, with_field, with_method, with_statement, one_more, add}
use Rattle.model.specs.Fault.{object_fault, fault_of}
use Rattle.model.specs.Read.{library}
use Rattle.laws.specs.Basics.{All, all_append, all_map}
use Rattle.laws.specs.Lists.{same_sound, same_refl, same_comm, alter_length, first_below}
use Rattle.text_theory.specs.Pass.{LineOf, no_fault, of_text}

-- ---- names that are all different

pub or_false : (a b : Bool) → a || b ≡ false → (a ≡ false) × (b ≡ false)
or_false true b e = absurd (true≢false e)
or_false false b e = (refl, e)

abbrev pub Unique : List Member → Type 0
Unique [] = Unit {0}
Unique (m ∷ ms) = (among ms m.name ≡ false) × Unique ms

none_at : (ms : List Member) (n : Name) → among ms n ≡ false → (j : ℕ) → j < length ms → same (get_or (map (λ m. m.name) ms) j []) n ≡ false
unfolding among any
none_at [] n e j h = absurd (not-suc-le-zero h)
none_at (m ∷ ms) n e zero h = (or_false (same m.name n) (among ms n) e).0
none_at (m ∷ ms) n e (suc j) h = none_at ms n (or_false (same m.name n) (among ms n) e).1 j (le_of_suc-le-suc h)

-- The name at a place is found at that place.
pub unique_place : (ms : List Member) → Unique ms → (j : ℕ) → j < length ms → member_place ms (get_or (map (λ m. m.name) ms) j []) ≡ j
unfolding member_place first_at
unique_place [] u j h = absurd (not-suc-le-zero h)
unique_place (m ∷ ms) u zero h = rw (same_refl m.name)
unique_place (m ∷ ms) u (suc j) h =
    let k = le_of_suc-le-suc h in
    rw (same_comm m.name (get_or (map (λ m. m.name) ms) j []), none_at ms m.name u.0 j k) (ap suc (unique_place ms u.1 j k))

-- A name is among two lists together where it is among one of them.
pub among_append : (ms ns : List Member) (n : Name) → among (ms ++ ns) n ≡ (among ms n || among ns n)
unfolding among any
among_append [] ns n = refl
among_append (m ∷ ms) ns n = ap (λ (b : Bool). same m.name n || b) (among_append ms ns n) ∙ sym (or_assoc (same m.name n) (among ms n) (among ns n))

unique_append : (ms : List Member) (m : Member) → Unique ms → among ms m.name ≡ false → Unique (ms ++ (m ∷ []))
unfolding among any
unique_append [] m u e = (refl, tt)
unique_append (k ∷ ks) m u e =
    let t = or_false (same k.name m.name) (among ks m.name) e in
    (among_append ks (m ∷ []) k.name ∙ rw (u.0, same_comm m.name k.name, t.0), unique_append ks m u.1 t.1)

-- ---- bodies within the text's statements

abbrev pub Within : ℕ → Member → Type 0
Within n m = m.first + m.count ≤ n

-- A list of members whose names are different and whose bodies are among the first n statements.
pub record Good (n : ℕ) (ms : List Member) : Type 0 where
  pub unique : Unique ms
  pub within : All (Within n) ms

-- More statements at the end of the text change nothing.
more_statements : (n k : ℕ) (ms : List Member) → n ≤ k → Good n ms → Good k ms
more_statements n k ms h g = record { unique = g.unique; within = all_map (Within n) (Within k) ms (λ m w. omega arith) g.within }

joined_unique : (done ms : List Member) → Unique done → Unique (joined done ms)
unfolding joined fold
joined_unique done [] u = u
joined_unique done (m ∷ ms) u = go (λ d. joined_unique d ms) (among done m.name) refl
  where
    go : ((d : List Member) → Unique d → Unique (joined d ms)) → (t : Bool) → among done m.name ≡ t → Unique (joined (cond t done (done ++ (m ∷ []))) ms)
    go rest true e = rest done u
    go rest false e = rest (done ++ (m ∷ [])) (unique_append done m u e)

-- What holds of the members of both lists holds of the joined ones.
joined_all : (P : Member → Type 0) (done ms : List Member) → All P done → All P ms → All P (joined done ms)
unfolding joined fold
joined_all P done [] h w = h
joined_all P done (m ∷ ms) h w = go (λ d g. joined_all P d ms g w.1) (among done m.name)
  where
    go : ((d : List Member) → All P d → All P (joined d ms)) → (t : Bool) → All P (joined (cond t done (done ++ (m ∷ []))) ms)
    go rest true = rest done h
    go rest false = rest (done ++ (m ∷ [])) (all_append P done (m ∷ []) h (w.0, tt))

module _ (part : Class → List Member) (l : Library) where
  -- The members of the parents ps, joined to those of `done`.
  abbrev inherited_to : List Member → List Name → List Member
  inherited_to done ps = fold (λ ms p. joined ms (part (class_name l p))) done ps

  unique_from : (done : List Member) (ps : List Name) → Unique done → Unique (inherited_to done ps)
  unfolding fold
  unique_from done [] u = u
  unique_from done (p ∷ ps) u = unique_from (joined done (part (class_name l p))) ps (joined_unique done (part (class_name l p)) u)

  all_from : (P : Member → Type 0) (done : List Member) (ps : List Name) → All P done → ((p : Name) → Memᴰ p ps → All P (part (class_name l p)))
      → All P (inherited_to done ps)
  unfolding fold
  all_from P done [] h w = h
  all_from P done (p ∷ ps) h w =
      all_from P (joined done (part (class_name l p))) ps (joined_all P done (part (class_name l p)) h (w p (Memᴰ.head refl)))
      (λ q m. w q (Memᴰ.tail m))

  inherited_unique : (ps : List Name) → Unique (inherited part l ps)
  unfolding inherited
  inherited_unique ps = unique_from [] ps tt

  -- What holds of the parents' members holds of the inherited ones.
  pub inherited_all : (P : Member → Type 0) (ps : List Name) → ((p : Name) → Memᴰ p ps → All P (part (class_name l p))) → All P (inherited part l ps)
  unfolding inherited
  inherited_all P ps w = all_from P [] ps tt w

-- ---- classes

abbrev ClassGood : ℕ → Class → Type 0
ClassGood n k = Good n k.methods

empty_good : (n : ℕ) → ClassGood n no_class
empty_good n = record { unique = tt; within = tt }

module _ {A : Type 0} (P : A → Type 0) where
  pub all_get_d : (xs : List A) (d : A) → All P xs → P d → (k : ℕ) → P (get_or xs k d)
  all_get_d [] d h e k = e
  all_get_d (x ∷ xs) d h e zero = h.0
  all_get_d (x ∷ xs) d h e (suc k) = all_get_d xs d h.1 e k

  -- What holds of all elements holds of the one at a place.
  pub all_below : (xs : List A) (d : A) → All P xs → (k : ℕ) → k < length xs → P (get_or xs k d)
  all_below [] d h k l = absurd (not-suc-le-zero l)
  all_below (x ∷ xs) d h zero l = h.0
  all_below (x ∷ xs) d h (suc k) l = all_below xs d h.1 k (le_of_suc-le-suc l)

  -- Two properties of all elements hold together.
  pub all_both : (Q : A → Type 0) (xs : List A) → All P xs → All Q xs → All (λ x. P x × Q x) xs
  all_both Q [] h k = tt
  all_both Q (x ∷ xs) h k = ((h.0, k.0), all_both Q xs h.1 k.1)

  -- What holds of all elements still holds with one altered, if it holds of that one.
  pub all_alter : (Q : A → Type 0) (d : A) (xs : List A) (n : ℕ) (f : A → A) → ((x : A) → P x → Q x) → (n < length xs → P (get_or xs n d) → Q (f (get_or xs n d)))
      → All P xs → All Q (alter n f xs)
  unfolding alter
  all_alter Q d [] n f keeps does h = tt
  all_alter Q d (x ∷ xs) zero f keeps does h = (does (omega arith) h.0, all_map P Q xs keeps h.1)
  all_alter Q d (x ∷ xs) (suc n) f keeps does h = (keeps x h.0, all_alter Q d xs n f keeps (λ l. does (omega arith)) h.1)

module _ (l : Library) (n : ℕ) (classes : All (ClassGood n) l.classes) where
  pub class_good : (c : ℕ) → ClassGood n (class_at l c)
  class_good c = all_get_d (ClassGood n) l.classes no_class classes (empty_good n) c

  inherited_good : (ps : List Name) → Good n (inherited (λ c. c.methods) l ps)
  unfolding class_name
  inherited_good ps =
      record {
        unique = inherited_unique (λ c. c.methods) l ps;
        within = inherited_all (λ c. c.methods) l (Within n) ps (λ p m. (class_good (class_number l p)).within);
      }

or_swap : (a b c : Bool) → (a || (b || c)) ≡ (b || (a || c))
or_swap true b c = sym (or-true b)
or_swap false b c = refl

-- The names after a member is defined are its own and the former ones.
pub written_among : (m : Member) (ms : List Member) (n : Name) → among (written m ms) n ≡ (same m.name n || among ms n)
unfolding among any written
written_among m [] n = refl
written_among m (k ∷ ks) n = go (same k.name m.name) refl (written_among m ks n)
  where
    go : (t : Bool) → same k.name m.name ≡ t → among (written m ks) n ≡ (same m.name n || among ks n)
        → among (cond t (m ∷ ks) (k ∷ written m ks)) n ≡ (same m.name n || (same k.name n || among ks n))
    go true e rest = rw (same_sound k.name m.name e) (sym (or_self_left (same m.name n) (among ks n)))
    go false e rest = ap (λ (b : Bool). same k.name n || b) rest ∙ or_swap (same k.name n) (same m.name n) (among ks n)

written_unique : (m : Member) (ms : List Member) → Unique ms → Unique (written m ms)
unfolding among any written
written_unique m [] u = (refl, tt)
written_unique m (k ∷ ks) u = go (same k.name m.name) refl (written_unique m ks u.1)
  where
    go : (t : Bool) → same k.name m.name ≡ t → Unique (written m ks) → Unique (cond t (m ∷ ks) (k ∷ written m ks))
    go true e rest = (subst (λ (n : Name). among ks n ≡ false) (same_sound k.name m.name e) u.0, u.1)
    go false e rest = (written_among m ks k.name ∙ rw (same_comm m.name k.name, e, u.0), rest)

-- What holds of the members and of the new one holds of all.
pub written_all : (P : Member → Type 0) (m : Member) (ms : List Member) → P m → All P ms → All P (written m ms)
unfolding written
written_all P m [] h w = (h, tt)
written_all P m (k ∷ ks) h w = go (same k.name m.name) (written_all P m ks h w.1)
  where
    go : (t : Bool) → All P (written m ks) → All P (cond t (m ∷ ks) (k ∷ written m ks))
    go true rest = (h, w.1)
    go false rest = (w.0, rest)

-- One more statement changes no name.
pub alter_names : (ms : List Member) (k : ℕ) (n : Name) → among (alter k one_more ms) n ≡ among ms n
unfolding among any alter
alter_names [] k n = refl
alter_names (m ∷ ms) zero n = refl
alter_names (m ∷ ms) (suc k) n = ap (λ (b : Bool). same m.name n || b) (alter_names ms k n)

alter_unique : (ms : List Member) (k : ℕ) → Unique ms → Unique (alter k one_more ms)
unfolding alter
alter_unique [] k u = tt
alter_unique (m ∷ ms) zero u = u
alter_unique (m ∷ ms) (suc k) u = (alter_names ms k m.name ∙ u.0, alter_unique ms k u.1)

method_good : (n c : ℕ) (m : Name) (k : Class) → ClassGood n k → ClassGood n (with_method c m n k)
unfolding with_method
method_good n c m k g =
    let new : Member = record { origin = c; name = m; first = n; count = 0 } in
    record { unique = written_unique new k.methods g.unique; within = written_all (Within n) new k.methods (omega arith) g.within }

statement_good : (n : ℕ) (k : Class) → ClassGood n k → ClassGood (suc n) (with_statement k)
unfolding with_statement
statement_good n k g =
    record {
      unique = alter_unique k.methods k.latest g.unique;
      within = all_alter (Within n) (Within (suc n)) no_member k.methods k.latest one_more (λ m w. omega arith) (λ h w. omega arith) g.within;
    }

-- ---- libraries

-- The names of every class's methods are different, and their bodies are within the statements.
abbrev pub Sound : Library → Type 0
Sound l = All (ClassGood (length l.statements)) l.classes

field_good : (n c : ℕ) (f : Name) (k : Class) → ClassGood n k → ClassGood n (with_field c f k)
unfolding with_field
field_good n c f k g = g

pub add_sound : (l : Library) (line : Line) (f : Form) → Sound l → Sound (add l line f)
unfolding add new_class
add_sound l line (class_line n ps) s =
    all_append (ClassGood (length l.statements)) l.classes (new_class l n ps ∷ []) s (inherited_good l (length l.statements) s ps, tt)
add_sound l line (field_line n) s =
    let P = ClassGood (length l.statements) in
    all_alter P P no_class l.classes (last_number l) (with_field (last_number l) n) (λ k g. g) (λ h. field_good (length l.statements) (last_number l) n (last_class l)) s
add_sound l line (method_line n) s =
    let P = ClassGood (length l.statements) in
    all_alter P P no_class l.classes (last_number l) (with_method (last_number l) n (length l.statements)) (λ k g. g)
    (λ h. method_good (length l.statements) (last_number l) n (last_class l)) s
add_sound l line (statement_line x) s =
    let n = length l.statements in
    let e : suc n ≡ length (l.statements ++ (record { statement = x; at = line.at; size = line.size } ∷ [])) = sym (length-append l.statements (record { statement = x; at = line.at; size = line.size } ∷ []) ∙ add-one n) in
    subst (λ (k : ℕ). All (ClassGood k) (alter_last with_statement l)) e
    (all_alter (ClassGood n) (ClassGood (suc n)) no_class l.classes (last_number l) with_statement (λ k g. more_statements n (suc n) k.methods (omega arith) g)
    (λ h. statement_good n (last_class l)) s)
add_sound l line end_line s = s
add_sound l line (object_line n c vs) s = s
add_sound l line malformed s = s

-- ---- objects

abbrev KnownObject : Library → Object → Type 0
KnownObject l o = o.class < length l.classes

-- Each object is of a known class.
abbrev pub Known : Library → Type 0
Known l = All (KnownObject l) l.objects

pub number_known : (l : Library) (n : Name) → is_class l n ≡ true → class_number l n < length l.classes
unfolding is_class class_number
number_known l n e = first_below (λ c. same c.name n) l.classes e

object_known : (l : Library) (n c : Name) (vs : List ℕ) → object_fault l n c vs ≡ 0 → is_class l c ≡ true
unfolding object_fault
object_known l n c vs e =
    let many : ℕ = cond (leb 64 (length l.objects) || ltb (length (class_name l c).fields) (length vs)) 17 0 in
    not-false (is_class l c) (no_fault (not (is_class l c)) 13 many (no_fault (any (λ o. same o.name n) l.objects) 12 (cond (not (is_class l c)) 14 many) e).1).0

same_count : (l : Library) (k : ℕ) → k ≡ length l.classes → Known l → All (λ (o : Object). o.class < k) l.objects
same_count l k e h = all_map (KnownObject l) (λ (o : Object). o.class < k) l.objects (λ o w. omega arith) h

add_known : (l : Library) (line : Line) (f : Form) (below : List Line) → fault_of l below f ≡ 0 → Known l → Known (add l line f)
unfolding add fault_of
add_known l line (class_line n ps) below e h =
    all_map (KnownObject l) (λ (o : Object). o.class < length (l.classes ++ (new_class l n ps ∷ []))) l.objects
    (λ o w. omega (arith, length-append l.classes (new_class l n ps ∷ []))) h
add_known l line (field_line n) below e h =
    let c = pred (length l.classes) in
    same_count l (length (alter c (with_field c n) l.classes)) (alter_length c (with_field c n) l.classes) h
add_known l line (method_line n) below e h =
    let c = pred (length l.classes) in
    same_count l (length (alter c (with_method c n (length l.statements)) l.classes)) (alter_length c (with_method c n (length l.statements)) l.classes) h
add_known l line (statement_line s) below e h =
    let c = pred (length l.classes) in
    same_count l (length (alter c with_statement l.classes)) (alter_length c with_statement l.classes) h
add_known l line end_line below e h = h
add_known l line (object_line n c vs) below e h =
    all_append (KnownObject l) l.objects (record { name = n; class = class_number l c; values = vs } ∷ []) h (number_known l c (object_known l n c vs e), tt)
add_known l line malformed below e h = h

-- ---- what each line preserves

-- What every added line without a fault preserves, at any place and before any lines, holds of the library of any text.
module _ (text : List ℕ) (P : Library → Type 0) (none : P nothing)
    (keeps : (l : Library) (line : Line) (below : List Line) → LineOf text line → fault_of l below line.form ≡ 0 → P l → P (add l line line.form)) where
  pub of_library : P (library text)
  of_library = (of_text text (λ p ls l. P l) (λ ls. none) (λ p l line below q h. keeps l line below q.known.form q.faultless h)).1

-- The methods of each class of a text have different names and bodies within the text's statements.
pub library_sound : (text : List ℕ) → Sound (library text)
library_sound text = of_library text Sound tt (λ l line below q e s. add_sound l line line.form s)

-- Each object of a text is of a known class.
pub library_known : (text : List ℕ) → Known (library text)
library_known text = of_library text Known tt (λ l line below q e h. add_known l line line.form below e h)

-- ---- statements stand at their places

-- The line at the statement's place is that statement.
abbrev StandsAt : List ℕ → Placed → Type 0
StandsAt text x = form_of (words (take x.size (drop x.at text))) ≡ statement_line x.statement

abbrev pub Placing : List ℕ → Library → Type 0
Placing text l = All (StandsAt text) l.statements

-- What holds of the statement that a line adds, and of those before, holds of all.
add_statements : (S : Placed → Type 0) (l : Library) (line : Line) (f : Form)
    → ((s : Statement) → f ≡ statement_line s → S (record { statement = s; at = line.at; size = line.size })) → All S l.statements → All S (add l line f).statements
unfolding add
add_statements S l line (class_line n ps) new h = h
add_statements S l line (field_line n) new h = h
add_statements S l line (method_line n) new h = h
add_statements S l line (statement_line s) new h = all_append S l.statements (record { statement = s; at = line.at; size = line.size } ∷ []) h (new s refl, tt)
add_statements S l line end_line new h = h
add_statements S l line (object_line n c vs) new h = h
add_statements S l line malformed new h = h

-- Each statement of a text stands at its place.
pub library_placing : (text : List ℕ) → Placing text (library text)
library_placing text = of_library text (Placing text) tt (λ l line below q e h. add_statements (StandsAt text) l line line.form (λ s f. sym q ∙ f) h)

-- The statement's place lies within the text.
abbrev pub Inside : List ℕ → Placed → Type 0
Inside text x = x.at + x.size ≤ length text

-- Each statement's place lies within the text.
pub library_within : (text : List ℕ) → All (Inside text) (library text).statements
library_within text =
    (of_text text (λ p ls l. All (Inside text) l.statements) (λ ls. tt)
    (λ p l line below q h. add_statements (Inside text) l line line.form (λ s f. q.known.within) h)).1
