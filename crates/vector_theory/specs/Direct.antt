-- Vectors down to the statements (definition 6; 01, "Vectors and commuting"; 02, Ticket 6): which mode a field has, by the statements that
-- assign it and the expressions that it occurs in, in one body and in all bodies that a method reaches.
use Rattle.std.specs.Prelude.{ℕ, ◌<◌, ◌≡◌, ◌↔◌, ◌⊎◌, Bool, false, cond, ◌||◌, length, get_or}
use Rattle.std.proofs.Math.Path.{refl, ap}
use Rattle.std.proofs.Common.{sym, subst, ◌∙◌, true≢false}
use Rattle.std.proofs.Math.Logic.{inl, inr}
use Rattle.std.proofs.Math.Bool.{true}
use Rattle.std.proofs.lemmas.Bool.{false≢true}
use Rattle.std.proofs.Math.Option.{Option, none, some}
use mathlib.Core.List.{List, [], ◌∷◌, map, Memᴰ}
use Rattle.model.specs.Base.{same}
use Rattle.model.specs.Word.{Name}
use Rattle.model.specs.Expression.{Expression, number, field, argument, got, apply}
use Rattle.model.specs.Form.{Change, replace, increase, Action, assign, send, send_prefixed, reply, Statement}
use Rattle.model.specs.Library.{Library, Resolution, class_at, member_place}
use Rattle.model.specs.Mode.{Mode, Null, Read, Add, Write, depends, changes, join, joins}
use Rattle.model.specs.Graph.{Node, Reached, reached}
use Rattle.model.specs.Vector.{mention, in_expression, mode_of, in_action, in_guard, in_statement, in_body, Program, vector_of}
use Rattle.laws.specs.Lists.{either_cases, either_left, either_right, same_sound, same_refl, map_in, in_map}
use Rattle.laws.specs.Modes.{depends_join, changes_join, joins_upper}
use Rattle.vector_theory.specs.Reachability.{reached_sound}
use Rattle.vector_theory.specs.VectorLaws.{root, body_at, transitive_mode, reached_within, Compiled}

-- ---- what the statements say

-- The field occurs in the expression.
abbrev pub Occurs : Name → Expression → Type 0
Occurs f (number n) = ⊥
Occurs f (field g) = f ≡ g
Occurs f argument = ⊥
Occurs f got = ⊥
Occurs f (apply o a b) = Occurs f a ⊎ Occurs f b

-- The E of an action.
abbrev pub expression_of : Action → Expression
expression_of (assign how f e) = e
expression_of (send m e) = e
expression_of (send_prefixed c m e) = e
expression_of (reply e) = e

abbrev pub OccursInGuard : Name → Option Expression → Type 0
OccursInGuard f none = ⊥
OccursInGuard f (some e) = Occurs f e

-- The field "occurs in an E (`when` included)" of the statement.
abbrev pub Reads : Name → Statement → Type 0
Reads f s = OccursInGuard f s.guard ⊎ Occurs f (expression_of s.action)

-- A `set`, or an `add`, of the field.
abbrev pub Sets : Name → Statement → Type 0
Sets f s = (e : Expression) × (s.action ≡ assign replace f e)

abbrev pub Adds : Name → Statement → Type 0
Adds f s = (e : Expression) × (s.action ≡ assign increase f e)

-- Some statement of the body does.
abbrev pub Somewhere : (Statement → Type 0) → List Statement → Type 0
Somewhere P ss = (s : Statement) × Memᴰ s ss × P s

-- Some statement of a body that the method reaches does.
abbrev pub WhereReached : Library → Resolution → ℕ → Name → (Statement → Type 0) → Type 0
WhereReached l resolve c m P = (v : Node) × Reached l resolve c (root c m) v × Somewhere P (body_at l resolve v)

-- ---- what the modes say

-- "Write for a field that a `set` assigns, Read for one that only occurs in an E .., else Null"; Add for one that is only added to; "Read
-- joined with Add is Write". The field is set where S holds, added to where A holds, and occurs in an E where R holds.
pub record ByStatements (x : Mode) (S A R : Type 0) : Type 0 where
  pub write : (x ≡ Write) ↔ (S ⊎ (A × R))
  pub add : (x ≡ Add) ↔ (A × (S → ⊥) × (R → ⊥))
  pub read : (x ≡ Read) ↔ (R × (S → ⊥) × (A → ⊥))
  pub null : (x ≡ Null) ↔ ((S → ⊥) × (A → ⊥) × (R → ⊥))

-- A field's mode by statements, where `In P` says that one of them is such that P.
abbrev pub ModeBy : Mode → Name → ((Statement → Type 0) → Type 0) → Type 0
ModeBy x f In = ByStatements x (In (Sets f)) (In (Adds f)) (In (Reads f))

-- The two tests tell the mode.
is_write : (x : Mode) → depends x ≡ true → changes x ≡ true → x ≡ Write
is_write Null d c = absurd (false≢true d)
is_write Read d c = absurd (false≢true c)
is_write Add d c = absurd (false≢true d)
is_write Write d c = refl

is_add : (x : Mode) → (depends x ≡ true → ⊥) → changes x ≡ true → x ≡ Add
is_add Null d c = absurd (false≢true c)
is_add Read d c = absurd (false≢true c)
is_add Add d c = refl
is_add Write d c = absurd (d refl)

is_read : (x : Mode) → depends x ≡ true → (changes x ≡ true → ⊥) → x ≡ Read
is_read Null d c = absurd (false≢true d)
is_read Read d c = refl
is_read Add d c = absurd (false≢true d)
is_read Write d c = absurd (c refl)

is_null : (x : Mode) → (depends x ≡ true → ⊥) → (changes x ≡ true → ⊥) → x ≡ Null
is_null Null d c = refl
is_null Read d c = absurd (d refl)
is_null Add d c = absurd (c refl)
is_null Write d c = absurd (d refl)

module _ (x : Mode) (S A R : Type 0) where
  -- The tests pass exactly where the statements say so.
  record Tested : Type 0 where
    depended : depends x ≡ true → S ⊎ R
    depend : S ⊎ R → depends x ≡ true
    changed : changes x ≡ true → S ⊎ A
    change : S ⊎ A → changes x ≡ true

  by_tests : Tested → ByStatements x S A R
  by_tests t =
      record {
        write = (λ e. both (t.depended (ap depends e)) (t.changed (ap changes e)), λ h. is_write x (t.depend (uses h)) (t.change (alters h)));
        add = (
          λ e. (right (λ s. fixed (ap depends e) (inl s)) (t.changed (ap changes e)), λ s. fixed (ap depends e) (inl s), λ r. fixed (ap depends e) (inr r)),
          λ h. is_add x (λ q. neither h.1 h.2 (t.depended q)) (t.change (inr h.0)),
        );
        read = (
          λ e. (right (λ s. kept (ap changes e) (inl s)) (t.depended (ap depends e)), λ s. kept (ap changes e) (inl s), λ a. kept (ap changes e) (inr a)),
          λ h. is_read x (t.depend (inr h.0)) (λ q. neither h.1 h.2 (t.changed q)),
        );
        null = (
          λ e. (λ s. fixed (ap depends e) (inl s), λ a. kept (ap changes e) (inr a), λ r. fixed (ap depends e) (inr r)),
          λ h. is_null x (λ q. neither h.0 h.2 (t.depended q)) (λ q. neither h.0 h.1 (t.changed q)),
        );
      }
    where
      both : S ⊎ R → S ⊎ A → S ⊎ (A × R)
      both (inl s) y = inl s
      both (inr r) (inl s) = inl s
      both (inr r) (inr a) = inr (a, r)

      uses : S ⊎ (A × R) → S ⊎ R
      uses (inl s) = inl s
      uses (inr h) = inr h.1

      alters : S ⊎ (A × R) → S ⊎ A
      alters (inl s) = inl s
      alters (inr h) = inr h.0

      right : {B : Type 0} → (S → ⊥) → S ⊎ B → B
      right n (inl s) = absurd (n s)
      right n (inr b) = b

      neither : {B : Type 0} → (S → ⊥) → (B → ⊥) → S ⊎ B → ⊥
      neither n k (inl s) = n s
      neither n k (inr b) = k b

      fixed : depends x ≡ false → S ⊎ R → ⊥
      fixed e h = true≢false (sym (t.depend h) ∙ e)

      kept : changes x ≡ false → S ⊎ A → ⊥
      kept e h = true≢false (sym (t.change h) ∙ e)

-- ---- expressions and statements

-- An expression changes no field, and depends on those that occur in it.
expression_keeps : (f : Name) (e : Expression) → changes (in_expression f e) ≡ false
unfolding in_expression
expression_keeps f (number n) = refl
expression_keeps f (field g) = go (same f g)
  where
    go : (b : Bool) → changes (cond b Read Null) ≡ false
    go true = refl
    go false = refl
expression_keeps f argument = refl
expression_keeps f got = refl
expression_keeps f (apply o a b) =
    changes_join (in_expression f a) (in_expression f b) ∙ rw (expression_keeps f a, expression_keeps f b) refl

depends_occurs : (f : Name) (e : Expression) → depends (in_expression f e) ≡ true → Occurs f e
unfolding in_expression
depends_occurs f (number n) d = absurd (false≢true d)
depends_occurs f (field g) d = go (same f g) refl d
  where
    go : (b : Bool) → same f g ≡ b → depends (cond b Read Null) ≡ true → f ≡ g
    go true e d = same_sound f g e
    go false e d = absurd (false≢true d)
depends_occurs f argument d = absurd (false≢true d)
depends_occurs f got d = absurd (false≢true d)
depends_occurs f (apply o a b) d =
    go (depends_occurs f a) (depends_occurs f b)
    (either_cases (depends (in_expression f a)) _ (sym (depends_join (in_expression f a) (in_expression f b)) ∙ d))
  where
    go : (depends (in_expression f a) ≡ true → Occurs f a) → (depends (in_expression f b) ≡ true → Occurs f b)
        → (depends (in_expression f a) ≡ true) ⊎ (depends (in_expression f b) ≡ true) → Occurs f a ⊎ Occurs f b
    go l r (inl q) = inl (l q)
    go l r (inr q) = inr (r q)

occurs_depends : (f : Name) (e : Expression) → Occurs f e → depends (in_expression f e) ≡ true
unfolding in_expression
occurs_depends f (number n) h = absurd h
occurs_depends f (field g) h = subst (λ g. depends (mention Read f g) ≡ true) h (ap (λ b. depends (cond b Read Null)) (same_refl f))
occurs_depends f argument h = absurd h
occurs_depends f got h = absurd h
occurs_depends f (apply o a b) (inl h) = depends_join (in_expression f a) (in_expression f b) ∙ either_left (depends (in_expression f a)) _ (occurs_depends f a h)
occurs_depends f (apply o a b) (inr h) = depends_join (in_expression f a) (in_expression f b) ∙ either_right (depends (in_expression f a)) _ (occurs_depends f b h)

-- A mention of the field itself has its mode; that of another field is Null.
mention_same : (m : Mode) (f : Name) → mention m f f ≡ m
mention_same m f = ap (λ b. cond b m Null) (same_refl f)

mentioned : (test : Mode → Bool) (m : Mode) (f g : Name) → test Null ≡ false → test (mention m f g) ≡ true → (f ≡ g) × (test m ≡ true)
mentioned test m f g n = go (same f g) refl
  where
    go : (b : Bool) → same f g ≡ b → test (cond b m Null) ≡ true → (f ≡ g) × (test m ≡ true)
    go true e q = (same_sound f g e, q)
    go false e q = absurd (false≢true (sym n ∙ q))

module _ (f : Name) where
  -- ---- actions

  assigned : (how : Change) (g : Name) (e : Expression) → f ≡ g → assign how g e ≡ assign how f e
  assigned how g e q = ap (λ h. assign how h e) (sym q)

  depends_action : (a : Action) → depends (in_action f a) ≡ true → ((e : Expression) × (a ≡ assign replace f e)) ⊎ Occurs f (expression_of a)
  unfolding in_action
  depends_action (assign how g e) d =
      go how (either_cases (depends (mention (mode_of how) f g)) _ (sym (depends_join (mention (mode_of how) f g) (in_expression f e)) ∙ d))
    where
      go : (how : Change) → (depends (mention (mode_of how) f g) ≡ true) ⊎ (depends (in_expression f e) ≡ true)
          → ((e' : Expression) × (assign how g e ≡ assign replace f e')) ⊎ Occurs f e
      go replace (inl q) = inl (e, assigned replace g e (mentioned depends Write f g refl q).0)
      go increase (inl q) = absurd (false≢true (mentioned depends Add f g refl q).1)
      go how (inr q) = inr (depends_occurs f e q)
  depends_action (send m e) d = inr (depends_occurs f e d)
  depends_action (send_prefixed c m e) d = inr (depends_occurs f e d)
  depends_action (reply e) d = inr (depends_occurs f e d)

  set_depends : (e : Expression) → depends (in_action f (assign replace f e)) ≡ true
  unfolding in_action
  set_depends e = depends_join (mention Write f f) (in_expression f e) ∙ either_left (depends (mention Write f f)) _ (ap depends (mention_same Write f))

  occurs_action : (a : Action) → Occurs f (expression_of a) → depends (in_action f a) ≡ true
  unfolding in_action
  occurs_action (assign how g e) h =
      depends_join (mention (mode_of how) f g) (in_expression f e) ∙ either_right (depends (mention (mode_of how) f g)) _ (occurs_depends f e h)
  occurs_action (send m e) h = occurs_depends f e h
  occurs_action (send_prefixed c m e) h = occurs_depends f e h
  occurs_action (reply e) h = occurs_depends f e h

  -- An expression does not change the field.
  keeps : (e : Expression) → changes (in_expression f e) ≡ true → ⊥
  keeps e q = true≢false (sym q ∙ expression_keeps f e)

  changes_action : (a : Action) → changes (in_action f a) ≡ true
      → ((e : Expression) × (a ≡ assign replace f e)) ⊎ ((e : Expression) × (a ≡ assign increase f e))
  unfolding in_action
  changes_action (assign how g e) c =
      go how (either_cases (changes (mention (mode_of how) f g)) _ (sym (changes_join (mention (mode_of how) f g) (in_expression f e)) ∙ c))
    where
      go : (how : Change) → (changes (mention (mode_of how) f g) ≡ true) ⊎ (changes (in_expression f e) ≡ true)
          → ((e' : Expression) × (assign how g e ≡ assign replace f e')) ⊎ ((e' : Expression) × (assign how g e ≡ assign increase f e'))
      go replace (inl q) = inl (e, assigned replace g e (mentioned changes Write f g refl q).0)
      go increase (inl q) = inr (e, assigned increase g e (mentioned changes Add f g refl q).0)
      go how (inr q) = absurd (keeps e q)
  changes_action (send m e) c = absurd (keeps e c)
  changes_action (send_prefixed c₀ m e) c = absurd (keeps e c)
  changes_action (reply e) c = absurd (keeps e c)

  assign_changes : (how : Change) (e : Expression) → changes (in_action f (assign how f e)) ≡ true
  unfolding in_action
  assign_changes how e =
      changes_join (mention (mode_of how) f f) (in_expression f e)
      ∙ either_left (changes (mention (mode_of how) f f)) _ (ap changes (mention_same (mode_of how) f) ∙ each how)
    where
      each : (how : Change) → changes (mode_of how) ≡ true
      each replace = refl
      each increase = refl

  -- ---- statements

  depends_guard : (g : Option Expression) → depends (in_guard f g) ≡ true → OccursInGuard f g
  depends_guard none d = absurd (false≢true d)
  depends_guard (some e) d = depends_occurs f e d

  guard_depends : (g : Option Expression) → OccursInGuard f g → depends (in_guard f g) ≡ true
  guard_depends none h = absurd h
  guard_depends (some e) h = occurs_depends f e h

  guard_keeps : (g : Option Expression) → changes (in_guard f g) ≡ true → ⊥
  guard_keeps none c = false≢true c
  guard_keeps (some e) c = keeps e c

  depends_statement : (s : Statement) → depends (in_statement f s) ≡ true → Sets f s ⊎ Reads f s
  unfolding in_statement
  depends_statement s d =
      go (either_cases (depends (in_guard f s.guard)) _ (sym (depends_join (in_guard f s.guard) (in_action f s.action)) ∙ d))
    where
      at_action : ((e : Expression) × (s.action ≡ assign replace f e)) ⊎ Occurs f (expression_of s.action) → Sets f s ⊎ Reads f s
      at_action (inl h) = inl h
      at_action (inr h) = inr (inr h)

      go : (depends (in_guard f s.guard) ≡ true) ⊎ (depends (in_action f s.action) ≡ true) → Sets f s ⊎ Reads f s
      go (inl q) = inr (inl (depends_guard s.guard q))
      go (inr q) = at_action (depends_action s.action q)

  statement_depends : (s : Statement) → Sets f s ⊎ Reads f s → depends (in_statement f s) ≡ true
  unfolding in_statement
  statement_depends s h = depends_join (in_guard f s.guard) (in_action f s.action) ∙ go h
    where
      go : Sets f s ⊎ Reads f s → depends (in_guard f s.guard) || depends (in_action f s.action) ≡ true
      go (inl (e, q)) = either_right (depends (in_guard f s.guard)) _ (ap (λ a. depends (in_action f a)) q ∙ set_depends e)
      go (inr (inl q)) = either_left (depends (in_guard f s.guard)) _ (guard_depends s.guard q)
      go (inr (inr q)) = either_right (depends (in_guard f s.guard)) _ (occurs_action s.action q)

  changes_statement : (s : Statement) → changes (in_statement f s) ≡ true → Sets f s ⊎ Adds f s
  unfolding in_statement
  changes_statement s c =
      go (either_cases (changes (in_guard f s.guard)) _ (sym (changes_join (in_guard f s.guard) (in_action f s.action)) ∙ c))
    where
      go : (changes (in_guard f s.guard) ≡ true) ⊎ (changes (in_action f s.action) ≡ true) → Sets f s ⊎ Adds f s
      go (inl q) = absurd (guard_keeps s.guard q)
      go (inr q) = changes_action s.action q

  statement_changes : (s : Statement) → Sets f s ⊎ Adds f s → changes (in_statement f s) ≡ true
  unfolding in_statement
  statement_changes s h =
      changes_join (in_guard f s.guard) (in_action f s.action) ∙ either_right (changes (in_guard f s.guard)) _ (go h)
    where
      go : Sets f s ⊎ Adds f s → changes (in_action f s.action) ≡ true
      go (inl (e, q)) = ap (λ a. changes (in_action f a)) q ∙ assign_changes replace e
      go (inr (e, q)) = ap (λ a. changes (in_action f a)) q ∙ assign_changes increase e

-- ---- bodies

-- Where a join passes a test, some mode of it does.
joins_some : (test : Mode → Bool) → test Null ≡ false → ((a b : Mode) → test (join a b) ≡ test a || test b) → (ms : List Mode)
    → test (joins ms) ≡ true → (a : Mode) × Memᴰ a ms × (test a ≡ true)
unfolding joins
joins_some test n j [] q = absurd (false≢true (sym n ∙ q))
joins_some test n j (m ∷ ms) q = go (joins_some test n j ms) (either_cases (test m) (test (joins ms)) (sym (j m (joins ms)) ∙ q))
  where
    go : (test (joins ms) ≡ true → (a : Mode) × Memᴰ a ms × (test a ≡ true)) → (test m ≡ true) ⊎ (test (joins ms) ≡ true)
        → (a : Mode) × Memᴰ a (m ∷ ms) × (test a ≡ true)
    go rest (inl h) = (m, Memᴰ.head refl, h)
    go rest (inr h) = let (a, i, k) = rest h in (a, Memᴰ.tail i, k)

module _ (f : Name) (ss : List Statement) where
  body_some : (test : Mode → Bool) → test Null ≡ false → ((a b : Mode) → test (join a b) ≡ test a || test b) → test (in_body f ss) ≡ true
      → (s : Statement) × Memᴰ s ss × (test (in_statement f s) ≡ true)
  unfolding in_body
  body_some test n j q =
      let (a, i, k) = joins_some test n j (map (in_statement f) ss) q in
      let (s, h, e) = in_map (in_statement f) ss i in
      (s, h, ap test (sym e) ∙ k)

  body_tested : Tested (in_body f ss) (Somewhere (Sets f) ss) (Somewhere (Adds f) ss) (Somewhere (Reads f) ss)
  unfolding in_body
  body_tested =
      record {
        depended = λ q. let (s, i, k) = body_some depends refl depends_join q in either s i (depends_statement f s k);
        depend = uses;
        changed = λ q. let (s, i, k) = body_some changes refl changes_join q in either s i (changes_statement f s k);
        change = alters;
      }
    where
      either : {P Q : Statement → Type 0} → (s : Statement) → Memᴰ s ss → P s ⊎ Q s → Somewhere P ss ⊎ Somewhere Q ss
      either s i (inl h) = inl (s, i, h)
      either s i (inr h) = inr (s, i, h)

      uses : Somewhere (Sets f) ss ⊎ Somewhere (Reads f) ss → depends (in_body f ss) ≡ true
      uses (inl (s, i, h)) = (joins_upper (map_in (in_statement f) i)).depend (statement_depends f s (inl h))
      uses (inr (s, i, h)) = (joins_upper (map_in (in_statement f) i)).depend (statement_depends f s (inr h))

      alters : Somewhere (Sets f) ss ⊎ Somewhere (Adds f) ss → changes (in_body f ss) ≡ true
      alters (inl (s, i, h)) = (joins_upper (map_in (in_statement f) i)).change (statement_changes f s (inl h))
      alters (inr (s, i, h)) = (joins_upper (map_in (in_statement f) i)).change (statement_changes f s (inr h))

  -- Definition 6: the mode of a field in the direct vector of a body, by the body's statements.
  pub direct_mode : ModeBy (in_body f ss) f (λ P. Somewhere P ss)
  direct_mode = by_tests _ _ _ _ body_tested

-- ---- reached bodies

module _ (l : Library) (resolve : Resolution) (c : ℕ) (m : Name) (f : Name) where
  reached_some : (test : Mode → Bool) → test Null ≡ false → ((a b : Mode) → test (join a b) ≡ test a || test b)
      → test (transitive_mode l resolve c m f) ≡ true → (v : Node) × Reached l resolve c (root c m) v × (test (in_body f (body_at l resolve v)) ≡ true)
  reached_some test n j q =
      let (a, i, k) = joins_some test n j (map (λ v. in_body f (body_at l resolve v)) (reached l resolve c (root c m))) q in
      let (v, h, e) = in_map (λ v. in_body f (body_at l resolve v)) (reached l resolve c (root c m)) i in
      (v, reached_sound l resolve c (root c m) v h, ap test (sym e) ∙ k)

  reached_tested : Tested (transitive_mode l resolve c m f) (WhereReached l resolve c m (Sets f)) (WhereReached l resolve c m (Adds f))
      (WhereReached l resolve c m (Reads f))
  reached_tested =
      record {
        depended = λ q. let (v, r, k) = reached_some depends refl depends_join q in either v r ((body_tested f (body_at l resolve v)).depended k);
        depend = uses;
        changed = λ q. let (v, r, k) = reached_some changes refl changes_join q in either v r ((body_tested f (body_at l resolve v)).changed k);
        change = alters;
      }
    where
      either : {P Q : Statement → Type 0} → (v : Node) → Reached l resolve c (root c m) v
          → Somewhere P (body_at l resolve v) ⊎ Somewhere Q (body_at l resolve v) → WhereReached l resolve c m P ⊎ WhereReached l resolve c m Q
      either v r (inl h) = inl (v, r, h)
      either v r (inr h) = inr (v, r, h)

      uses : WhereReached l resolve c m (Sets f) ⊎ WhereReached l resolve c m (Reads f) → depends (transitive_mode l resolve c m f) ≡ true
      uses (inl (v, r, h)) = (reached_within l resolve c m v r f).depend ((body_tested f (body_at l resolve v)).depend (inl h))
      uses (inr (v, r, h)) = (reached_within l resolve c m v r f).depend ((body_tested f (body_at l resolve v)).depend (inr h))

      alters : WhereReached l resolve c m (Sets f) ⊎ WhereReached l resolve c m (Adds f) → changes (transitive_mode l resolve c m f) ≡ true
      alters (inl (v, r, h)) = (reached_within l resolve c m v r f).change ((body_tested f (body_at l resolve v)).change (inl h))
      alters (inr (v, r, h)) = (reached_within l resolve c m v r f).change ((body_tested f (body_at l resolve v)).change (inr h))

  -- Definition 10: its mode in the transitive vector, by the statements of "all bodies reachable in C's late binding graph".
  pub transitive_mode_law : ModeBy (transitive_mode l resolve c m f) f (WhereReached l resolve c m)
  transitive_mode_law = by_tests _ _ _ _ reached_tested

-- So in the table of a program, at the field's place.
pub vector_mode : (p : Program) → Compiled p → (c : ℕ) (m f : Name) → let fs = (class_at p.library c).fields in member_place fs f < length fs
    → ModeBy (get_or (vector_of p c m) (member_place fs f) Null) f (WhereReached p.library p.resolve c m)
vector_mode p compiled c m f h =
    subst (λ x. ModeBy x f (WhereReached p.library p.resolve c m)) (sym (compiled.mode_at c m f h)) (transitive_mode_law p.library p.resolve c m f)
