-- What tables that fit a program hold of it: its counts, classes, bodies and lines, and where its values are.
use Prim.Native.Nat.{ℕ, zero, suc, ◌+◌, ◌-◌, ◌%◌, ◌/◌, ◌≤◌, ◌<◌}
use native.Mathlib.Omega.{arith}
use Rattle.std.proofs.Math.Decide.{dec_lt}
use Rattle.std.specs.Prelude.{◌≡◌, Bool, ◌&&◌, ◌||◌, length, take, drop, eqb, leb}
use Rattle.std.proofs.Math.Path.{refl, sym, ap, ap₂, subst, fun_ext}
use Rattle.std.proofs.Common.{◌∙◌, length-take, get_or-take, get_or-drop}
use Rattle.std.proofs.Math.Bool.{true, false, cond}
use Rattle.std.proofs.Math.Option.{Option, none, some}
use mathlib.Core.List.{List, [], map}
use Rattle.std.proofs.Math.ListN.{get_or, get_or-eq_default}
use Rattle.std.proofs.Math.Dec.{ltb}
use Rattle.std.proofs.Math.Pow.{field}
use borrow.Author.Tests.{lt-ltb, lt-leb, ltb-true, ltb-false, eqb-true}
use Rattle.layout.specs.Layout.{value_count_at, domain_at, names_at, kind_words, method_names_at, object_class_at, object_values_at}
use Rattle.model.specs.Word.{Name}
use Rattle.model.specs.Expression.{Expression, value_of}
use Rattle.model.specs.Form.{Change}
use Rattle.model.specs.Library.{Library, Member, Class, Object, Resolution, no_member, class_at, member, member_place, among, as_recorded, statements_of, body_of, method_names}
use Rattle.model.specs.Fault.{strange}
use Rattle.model.specs.Vector.{Program}
use Rattle.model.specs.Message.{size_of, base_of, place_of, value_at, look}
use Rattle.model.specs.Message as Model
use Rattle.text_theory.specs.Copies.{Copied, Resolves, as_recorded_resolves}
use Rattle.catalog.specs.View.{name_of, class_word, object_word, class_count, object_count, statement_count, member_count, member_at, members_of, object_of, library_of}
use Rattle.laws.specs.Bits.{bit}
use Rattle.catalog.specs.View as View
use Rattle.laws.specs.Upto.{get_d_upto}
use Rattle.catalog.specs.Look.{class_count_law, statement_count_law, object_count_law, member_count_law, member_at_law, class_at_law}
use Rattle.laws.specs.Lists.{both_left, both_right, map_at}
use Rattle.laws.specs.Lookup.{place_known, name_known, past_classes}
use Rattle.machine_words.specs.Row.{assign, misfit}
use Rattle.catalog.specs.Bodies.{found, body_in, named_at, body_at}
use Rattle.machine_words.specs.Turn.{target_there, in_target, values_at, field_in, value_in, assign_turn}
use Rattle.machine_refinement.specs.Rep.{Fits, between, target_by}

-- A class's method of that name.
abbrev pub method_for : Program → ℕ → Name → Member
method_for p c m = member (class_at p.library c).methods m

-- A name's word without its class gives the same name.
name_word : (text : List ℕ) (w : ℕ) → name_of text (w % 1048576) ≡ name_of text w
unfolding name_of
name_word text w =
    let a : w % 1048576 % 32 ≡ w % 32 = omega arith in
    let q : w % 1048576 / 32 ≡ w / 32 % 32768 = field w 15 5 in
    let b : w % 1048576 / 32 % 32768 ≡ w / 32 % 32768 = omega arith in
    ap₂ (λ (n i : ℕ). take n (drop i text)) a b

module _ (text tables : List ℕ) (p : Program) (fits : Fits text tables p) where
  -- ---- counts

  pub class_total : length p.library.classes ≡ class_count tables
  class_total = ap (λ (l : Library). length l.classes) (sym fits.library) ∙ class_count_law text tables

  pub statement_total : length p.library.statements ≡ statement_count tables
  statement_total = ap (λ (l : Library). length l.statements) (sym fits.library) ∙ statement_count_law text tables

  pub object_total : length p.library.objects ≡ object_count tables
  object_total = ap (λ (l : Library). length l.objects) (sym fits.library) ∙ object_count_law text tables

  -- ---- classes and objects

  module _ (c : ℕ) (h : c < class_count tables) where
    -- A class and its methods are those that its words represent.
    class_words : class_at p.library c ≡ View.class_of text tables c
    class_words = ap (λ (l : Library). class_at l c) (sym fits.library) ∙ class_at_law text tables c h

    pub methods_are : (class_at p.library c).methods ≡ members_of text tables c 1
    unfolding View.class_of
    methods_are = ap (λ (k : Class). k.methods) class_words

    pub method_total : length (class_at p.library c).methods ≡ member_count tables c 1
    method_total = ap length methods_are ∙ member_count_law text tables c 1

    -- The name of a method is that of its word.
    pub method_name : (j : ℕ) → j < member_count tables c 1 → get_or (method_names p.library c) j [] ≡ name_of text (class_word tables c (method_names_at + j) % 1048576)
    unfolding member_at members_of
    method_name j k =
        let at : names_at + (kind_words + j) ≡ method_names_at + j = omega arith in
        ap (λ (ms : List Member). get_or (map (λ m. m.name) ms) j []) methods_are
        ∙ map_at (λ m. m.name) (members_of text tables c 1) j no_member [] (omega (arith, member_count_law text tables c 1))
        ∙ ap (λ (m : Member). m.name) (get_d_upto (member_at text tables c 1) (member_count tables c 1) j no_member k)
        ∙ ap (λ (i : ℕ). name_of text (class_word tables c i)) at
        ∙ sym (name_word text (class_word tables c (method_names_at + j)))

  -- The class of an object is that of its word.
  pub class_is : (o : ℕ) → o < object_count tables → Model.class_of p o ≡ object_word tables o object_class_at
  unfolding library_of object_of
  class_is o h =
      ap (λ (l : Library). get_or (map (λ x. x.class) l.objects) o (length l.classes)) (sym fits.library)
      ∙ map_at (λ x. x.class) (library_of text tables).objects o (object_of text tables o) (length (library_of text tables).classes)
      (omega (arith, object_count_law text tables))
      ∙ ap (λ (x : Object). x.class) (get_d_upto (object_of text tables) (object_count tables) o (object_of text tables o) h)

  -- The objects of a target are those that the words give.
  pub target_is : (kind n o : ℕ) → target_there tables kind n ≡ true → o < object_count tables
      → in_target tables kind n o ≡ Model.in_target p (target_by kind n) o
  unfolding in_target target_there
  target_is kind n o there h = go (eqb kind 0) (eqb kind 1) there
    where
      c : ℕ
      c = object_word tables o object_class_at

      known : leb (class_count tables) c ≡ false
      known = lt-leb (class_count tables) c (fits.known o h)

      go : (a b : Bool) → cond a (ltb n (object_count tables)) (leb kind 2 && ltb n (class_count tables)) ≡ true
          → cond a (eqb o n) (leb (class_count tables) c || cond b (eqb c n) (bit (class_word tables n domain_at) c))
          ≡ Model.in_target p (cond a (Model.object n) (cond b (Model.class n) (Model.domain n))) o
      go true b e = refl
      go false true e = rw known (ap (λ (d : ℕ). eqb d n) (sym (class_is o h)))
      go false false e =
          rw known (fits.domains n c (ltb-true n (class_count tables) (both_right (leb kind 2) (ltb n (class_count tables)) e))
          ∙ ap (λ (b : Bool). b && Model.in_domain p n c) (lt-ltb c (class_count tables) (fits.known o h))
          ∙ ap (λ (d : ℕ). Model.in_domain p n d) (sym (class_is o h)))

  -- ---- bodies

  -- The program's rule of resolution gives copies.
  pub resolving : Resolves p.library p.resolve
  resolving =
      subst (Resolves p.library) (sym fits.resolve) (as_recorded_resolves p.library (λ c j k. go c j k (dec_lt c (class_count tables))))
    where
      go : (c j : ℕ) → j < length (class_at p.library c).methods → Dec (c < class_count tables)
          → Copied p.library (get_or (class_at p.library c).methods j no_member)
      go c j k (yes h) = fits.copies c j h (omega (arith, method_total c h))
      go c j k (no h) =
          absurd (omega (arith, ap (λ (x : Class). length x.methods) (past_classes p.library c (omega (arith, class_total)))))

  -- A class's method of that name is found by the words.
  pub body_found : (c : ℕ) (m : Name) → among (class_at p.library c).methods m ≡ true → body_in text tables c m ≡ some (method_for p c m)
  unfolding body_in
  body_found c m e =
      let there = resolving.copied c m e in
      ap (λ (l : Library). found (class_at l (as_recorded l c m)).methods m) fits.library
      ∙ ap (λ (f : Resolution). found (class_at p.library (f c m)).methods m) (sym fits.resolve)
      ∙ ap₂ (λ (b : Bool) (k : Member). cond b (some k) none) there.0 there.1

  body_of_law : (l : Library) (b : Member) → statements_of l b ≡ between l b.first (b.first + b.count)
  unfolding statements_of between
  body_of_law l b =
      let e : b.first + b.count - b.first ≡ b.count = omega arith in
      ap (λ (n : ℕ). map (λ s. s.statement) (take n (drop b.first l.statements))) (sym e)

  -- A method's body is the statements from its first up to the one past its last.
  pub body_is : (c : ℕ) (m : Name) → among (class_at p.library c).methods m ≡ true
      → body_of p.library p.resolve c m ≡ between p.library (method_for p c m).first ((method_for p c m).first + (method_for p c m).count)
  unfolding body_of
  body_is c m e = ap (statements_of p.library) (resolving.copied c m e).1 ∙ body_of_law p.library (method_for p c m)

  -- A method's body ends within the statements.
  pub body_end : (d : ℕ) (m : Name) → (method_for p d m).first + (method_for p d m).count ≤ statement_count tables
  unfolding member
  body_end d m = go (dec_lt d (class_count tables)) (dec_lt j (length ms))
    where
      ms : List Member
      ms = (class_at p.library d).methods

      j : ℕ
      j = member_place ms m

      none_there : get_or ms j no_member ≡ no_member → (get_or ms j no_member).first + (get_or ms j no_member).count ≤ statement_count tables
      none_there e = subst (λ (b : Member). b.first + b.count ≤ statement_count tables) (sym e) (omega arith)

      go : Dec (d < class_count tables) → Dec (j < length ms) → (get_or ms j no_member).first + (get_or ms j no_member).count ≤ statement_count tables
      go (yes h) (yes k) = fits.bodies d j h (omega (arith, method_total d h))
      go (yes h) (no k) = none_there (get_or-eq_default ms no_member (omega arith))
      go (no h) k = none_there (ap (λ x. get_or x.methods j no_member) (past_classes p.library d (omega (arith, class_total))))

  -- Class c has the name at its place k: the method there is the one of that name, since a class's names are all different.
  module _ (c : ℕ) (h : c < class_count tables) (k w : ℕ) where
    abbrev x : ℕ
    x = class_word tables c (method_names_at + k)

    abbrev m : Name
    m = name_of text w

    abbrev ms : List Member
    ms = (class_at p.library c).methods

    -- The method there.
    abbrev b : Member
    b = member_at text tables c 1 k

    module _ (t : named_at tables c k w ≡ true) where
      there : k < member_count tables c 1
      unfolding named_at
      there =
          ltb-true k (member_count tables c 1) (both_right (ltb c (class_count tables)) (ltb k (member_count tables c 1))
          (both_left (ltb c (class_count tables) && ltb k (member_count tables c 1)) (eqb (x % 1048576) w) t))

      name_at : get_or (method_names p.library c) k [] ≡ m
      unfolding named_at
      name_at =
          method_name c h k there
          ∙ ap (name_of text) (eqb-true (x % 1048576) w (both_right (ltb c (class_count tables) && ltb k (member_count tables c 1)) (eqb (x % 1048576) w) t))

      found_at : member_place ms m ≡ k
      found_at = ap (member_place ms) (sym name_at) ∙ fits.distinct c h k (omega (arith, method_total c h, there))

      method_at : get_or ms k no_member ≡ b
      method_at = ap (λ (l : List Member). get_or l k no_member) (methods_are c h) ∙ member_at_law text tables c 1 k there

      body_there : body_in text tables c m ≡ some b
      unfolding member
      body_there =
          body_found c m (ap (among ms) (sym name_at) ∙ name_known ms k (omega (arith, method_total c h, there)))
          ∙ ap {B = Option Member} some (ap (λ (i : ℕ). get_or ms i no_member) found_at ∙ method_at)

    -- A method's body by its place is the one by its name.
    pub body_at_law : body_at text tables c k w ≡ body_in text tables c m
    unfolding body_at
    body_at_law = go (named_at tables c k w) refl
      where
        go : (t : Bool) → named_at tables c k w ≡ t → cond t (some (member_at text tables c 1 k)) (body_in text tables c m) ≡ body_in text tables c m
        go true t = sym (body_there t)
        go false t = refl

  -- ---- values

  ends_before : (o n : ℕ) → o < n → base_of p o + size_of p o ≤ base_of p n
  unfolding base_of
  ends_before o zero h = absurd (omega arith)
  ends_before o (suc n) h = go (ends_before o n) (dec_lt o n)
    where
      go : (o < n → base_of p o + size_of p o ≤ base_of p n) → Dec (o < n) → base_of p o + size_of p o ≤ base_of p n + size_of p n
      go ih (yes w) = let a = ih w in omega arith
      go ih (no w) = let e : o ≡ n = omega arith in subst (λ x. base_of p o + size_of p o ≤ base_of p x + size_of p x) e (omega arith)

  module _ (o : ℕ) (h : o < object_count tables) where
    abbrev own : ℕ
    own = object_word tables o object_class_at

    -- The object's class is that of the words, with its fields.
    own_class : class_at p.library (Model.class_of p o) ≡ View.class_of text tables own
    own_class = ap (class_at p.library) (class_is o h) ∙ class_words own (fits.known o h)

    own_fields : (class_at p.library (Model.class_of p o)).fields ≡ members_of text tables own 0
    unfolding View.class_of
    own_fields = ap (λ (k : Class). k.fields) own_class

    size_is : size_of p o ≡ member_count tables own 0
    size_is = ap length own_fields ∙ member_count_law text tables own 0

    -- An object's values are among all values.
    pub room : object_word tables o object_values_at + member_count tables own 0 ≤ get_or tables value_count_at 0
    room = omega (arith, fits.bases o h, size_is, fits.total, ends_before o (object_count tables) h)

    -- The place of a field of the object.
    place_is : (f : Name) → let k = member_place (members_of text tables own 0) f in
        place_of p o f ≡ cond (ltb k (member_count tables own 0)) (some (object_word tables o object_values_at + k)) none
    unfolding place_of
    place_is f =
        ap (λ (ms : List Member). cond (ltb (member_place ms f) (length ms)) (some (base_of p o + member_place ms f)) none) own_fields
        ∙ ap₂ (λ (n b : ℕ). cond (ltb (member_place (members_of text tables own 0) f) n) (some (b + member_place (members_of text tables own 0) f)) none)
        (member_count_law text tables own 0) (sym (fits.bases o h))

    -- Changing a field that the object's class has.
    pub assign_is : (how : Change) (f : Name) → among (class_at p.library (Model.class_of p o)).fields f ≡ true
        → let i = object_word tables o object_values_at + member_place (members_of text tables own 0) f in
        (place_of p o f ≡ some i) × (i < get_or tables value_count_at 0) × ((v : ℕ) → assign_turn text tables own (object_word tables o object_values_at) how f v ≡ assign how i v)
    unfolding assign_turn
    assign_is how f e =
        let k = member_place (members_of text tables own 0) f in
        let size = member_count tables own 0 in
        let there : among (members_of text tables own 0) f ≡ true = ap (λ (ms : List Member). among ms f) (sym own_fields) ∙ e in
        let inside : k < size = omega (arith, place_known (members_of text tables own 0) f there, member_count_law text tables own 0) in
        let t : ltb k size ≡ true = lt-ltb k size inside in (
          place_is f ∙ ap (λ (b : Bool). cond b (some (object_word tables o object_values_at + k)) none) t,
          omega (arith, room),
          λ v. ap (λ (b : Bool). cond b (assign how (object_word tables o object_values_at + k) v) misfit) t,
        )

    -- A field's value, by name.
    field_is : (values : List ℕ) → field_in text tables own (values_at tables values o (member_count tables own 0)) ≡ look p values o
    unfolding field_in
    field_is values = fun_ext (λ f. go f (ltb (place f) size) refl ∙ ap (value_at values) (sym (place_is f)))
      where
        size : ℕ
        size = member_count tables own 0

        base : ℕ
        base = object_word tables o object_values_at

        place : Name → ℕ
        place f = member_place (members_of text tables own 0) f

        go : (f : Name) (b : Bool) → ltb (place f) size ≡ b → get_or (take size (drop base values)) (place f) 0
            ≡ value_at values (cond (ltb (place f) size) (some (base + place f)) none)
        go f true e =
            rw e (get_or-take size (drop base values) (place f) 0 (ltb-true (place f) size e) ∙ get_or-drop base values (place f) 0)
        go f false e =
            rw e (get_or-eq_default (take size (drop base values)) 0 (omega (arith, length-take size (drop base values), ltb-false (place f) size e)))

    -- The value of an expression whose fields the object's class has.
    pub value_is : (values : List ℕ) (arg got : ℕ) (e : Expression) → strange (class_at p.library (Model.class_of p o)) e ≡ false
        → value_in text tables own (values_at tables values o (member_count tables own 0)) arg got e ≡ some (value_of (look p values o) arg got e)
    unfolding value_in
    value_is values arg got e k =
        let known : strange (View.class_of text tables own) e ≡ false = ap (λ (c : Class). strange c e) (sym own_class) ∙ k in
        ap₂ (λ (b : Bool) (fields : Name → ℕ). cond b none (some (value_of fields arg got e))) known (field_is values)
