-- Vertices by number: 32 for each class before, plus the method's place. What the tables hold of a vertex, and which number
-- calls which.
use Rattle.std.specs.Prelude.{ℕ, ◌+◌, ◌*◌, ◌/◌, ◌%◌, ◌≤◌, ◌<◌, ◌≡◌, Bool, true, false, length, get_or}
use Rattle.std.proofs.Math.Path.{refl, sym, ap, subst}
use Rattle.std.proofs.Common.{ap₂, ◌∙◌, arith}
use Rattle.std.proofs.Math.Bool.{cond}
use mathlib.Core.List.Memᴰ
use mathlib.Core.List.{List, [], Memᴰ}
use Rattle.layout.specs.Layout.{names_at, kind_words}
use Rattle.model.specs.Base.{upto}
use Rattle.model.specs.Word.{Name}
use Rattle.model.specs.Form.{Action, assign, send, send_prefixed, reply, Statement}
use Rattle.model.specs.Library.{Library, Member, no_member, class_at, member_place, among, as_recorded}
use Rattle.model.specs.Graph.{Node, callee, calls, successors, Star, here, further, Reached}
use Rattle.laws.specs.Lists.{map_at, flat_map_in, in_flat_map}
use Rattle.laws.specs.Lookup.{place_known, name_at}
use Rattle.vector_theory.specs.Lawful.{as_recorded_lawful}
use Rattle.vector_theory.specs.VectorLaws.{body_at}
use Rattle.catalog.specs.View.{class_word, class_count, member_at, library_of, name_of}
use Rattle.laws.specs.Upto.{length_upto, get_d_upto}
use Rattle.catalog.specs.Look.{shown_count, shown_members, shown_le, shown_class}
use Rattle.vector_direct.specs.Calls.{number_of, number_in}

-- The vertex with a number.
unfoldable pub node_at : List ℕ → List ℕ → ℕ → Node
unfolding name_of class_word
node_at text ws x = record { class = x / 32; method = name_of text (class_word ws (x / 32) (names_at + (1 * kind_words + x % 32))) }

-- Its body.
abbrev pub body_of_node : List ℕ → List ℕ → ℕ → List Statement
body_of_node text ws x = body_at (library_of text ws) (as_recorded (library_of text ws)) (node_at text ws x)

-- ---- what the tables hold of a method that a class has

module _ (text ws : List ℕ) (c : ℕ) (n : Name) where
  abbrev library : Library
  library = library_of text ws

  abbrev methods : List Member
  methods = (class_at library c).methods

  shown : methods ≡ upto (member_at text ws c 1) (shown_count ws c 1)
  shown = shown_members text ws c 1 (omega arith)

  shown_length : length methods ≡ shown_count ws c 1
  shown_length = ap length shown ∙ length_upto (member_at text ws c 1) (shown_count ws c 1)

  -- The method of that name in class c has the number x.
  pub record Known (x : ℕ) : Type 0 where
    pub known : c < class_count ws
    pub number : x ≡ c * 32 + x % 32
    pub place : member_place methods n ≡ x % 32
    pub below : x % 32 < length methods

  has_number : among methods n ≡ true → (x : ℕ) → x ≡ c * 32 + member_place methods n → Known x
  has_number t x q =
      let p : member_place methods n < length methods = place_known methods n t in
      let l = shown_le ws c 1 in
      let s = shown_length in
      let m : x % 32 ≡ member_place methods n = omega arith in
      record { known = shown_class ws c 1 (member_place methods n) (omega arith); number = omega arith; place = sym m; below = omega arith }

  number_if : (t : Bool) → among methods n ≡ t → number_of library (record { class = c; method = n }) ≡ cond t (c * 32 + member_place methods n) 512
  unfolding number_of
  number_if t e = ap (λ (b : Bool). cond b (c * 32 + member_place methods n) 512) e

  -- A number below 512 is that of a method which the class has.
  pub number_known : (x : ℕ) → x ≡ number_of library (record { class = c; method = n }) → x < 512 → Known x
  number_known x e h = go (among methods n) refl
    where
      go : (t : Bool) → among methods n ≡ t → Known x
      go true t = has_number t x (e ∙ number_if true t)
      go false t = let q : x ≡ 512 = e ∙ number_if false t in absurd (omega arith)

  pub number_unknown : (x : ℕ) → x ≡ number_of library (record { class = c; method = n }) → 512 ≤ x → among methods n ≡ false
  number_unknown x e h = go (among methods n) refl
    where
      go : (t : Bool) → among methods n ≡ t → among methods n ≡ false
      go false t = t
      go true t =
          let k = has_number t x (e ∙ number_if true t) in
          absurd (omega (arith, k.known, k.number))

  pub known_number : among methods n ≡ true → Known (number_of library (record { class = c; method = n }))
  known_number t = has_number t (number_of library (record { class = c; method = n })) (number_if true t)

  pub vertex_le : number_of library (record { class = c; method = n }) ≤ 512
  vertex_le = go (among methods n) refl
    where
      go : (t : Bool) → among methods n ≡ t → number_of library (record { class = c; method = n }) ≤ 512
      go true t = let k = known_number t in omega (arith, k.known, k.number)
      go false t = omega (arith, number_if false t)

  module _ (x : ℕ) (k : Known x) where
    at_place : get_or methods (member_place methods n) no_member ≡ member_at text ws c 1 (x % 32)
    at_place =
        ap₂ (λ (ms : List Member) (j : ℕ). get_or ms j no_member) shown k.place
        ∙ get_d_upto (member_at text ws c 1) (shown_count ws c 1) (x % 32) no_member (omega (arith, k.below, shown_length))

    within : member_place methods n < length methods
    within = omega (arith, k.place, k.below)

    pub node_known : node_at text ws x ≡ record { class = c; method = n }
    unfolding node_at member_at
    node_known =
        let d : x / 32 ≡ c = omega (arith, k.number) in
        let name =
        ap (λ (b : ℕ). name_of text (class_word ws b (names_at + (1 * kind_words + x % 32)))) d
        ∙ sym (ap (λ (m : Member). m.name) at_place)
        ∙ sym (map_at (λ (m : Member). m.name) methods (member_place methods n) no_member [] within)
        ∙ name_at methods n within in
        λ i. record { class = d i; method = name i }

-- ---- which number calls which

module _ (text ws : List ℕ) (c : ℕ) where
  -- A statement of the body of x calls y, on an object of class c.
  pub record Calls (x y : ℕ) : Type 0 where
    pub by : Statement
    pub written : Memᴰ by (body_of_node text ws x)
    pub called : number_in (library_of text ws) (callee (library_of text ws) c by.action) ≡ y
    pub is : y < 512

  abbrev l : Library
  l = library_of text ws

  -- The vertex that an action calls, where it has a number.
  one_callee : (a : Action) (y : ℕ) → number_in l (callee l c a) ≡ y → y < 512 → (v : Node) × Memᴰ v (callee l c a) × (number_of l v ≡ y)
  unfolding callee
  one_callee (assign how f e) y q h = absurd (omega arith)
  one_callee (send m e) y q h = (record { class = c; method = m }, Memᴰ.head refl, q)
  one_callee (send_prefixed d m e) y q h = (_, Memᴰ.head refl, q)
  one_callee (reply e) y q h = absurd (omega arith)

  callee_one : (a : Action) (v : Node) → Memᴰ v (callee l c a) → number_in l (callee l c a) ≡ number_of l v
  unfolding callee
  callee_one (assign how f e) v m = absurd (Memᴰ.not-nil m)
  callee_one (send n e) v m = ap (number_of l) (sym (Memᴰ.eq_of_singleton m))
  callee_one (send_prefixed d n e) v m = ap (number_of l) (sym (Memᴰ.eq_of_singleton m))
  callee_one (reply e) v m = absurd (Memᴰ.not-nil m)

  abbrev body : Node → List Statement
  body v = body_at l (as_recorded l) v

  -- A vertex with a statement is a method that its class has.
  has_body : (v : Node) (s : Statement) → Memᴰ s (body v) → Known text ws v.class v.method (number_of l v)
  has_body v s m = go (among (class_at l v.class).methods v.method) refl
    where
      go : (t : Bool) → among (class_at l v.class).methods v.method ≡ t → Known text ws v.class v.method (number_of l v)
      go true t = known_number text ws v.class v.method t
      go false t = absurd (Memᴰ.not-nil (subst (Memᴰ s) ((as_recorded_lawful l).unknown v.class v.method t) m))

  module _ (r : ℕ) (root : Node) (e : node_at text ws r ≡ root) where
    -- What is reached by numbers is reached in the graph.
    pub back : {x : ℕ} → Star Calls r x → Reached l (as_recorded l) c root (node_at text ws x)
    unfolding successors calls
    back here = subst (Reached l (as_recorded l) c root) (sym e) here
    back (further {v = x} {w = y} s k) =
        let (v, m, q) = one_callee k.by.action y k.called k.is in
        let n = node_known text ws v.class v.method y (number_known text ws v.class v.method y (sym q) k.is) in
        subst (Reached l (as_recorded l) c root) (sym n)
        (further (back s) (flat_map_in (λ t. callee l c t.action) k.written m))

    -- What is reached in the graph and has a statement is reached by numbers.
    pub forth : {v : Node} → Reached l (as_recorded l) c root v → (s : Statement) → Memᴰ s (body v)
        → (x : ℕ) × Star Calls r x × (node_at text ws x ≡ v)
    unfolding successors calls
    forth here s m = (r, here, e)
    forth (further {v = u} {w = v} p k) s m =
        let (t, i, j) = in_flat_map (λ t. callee l c t.action) (body u) k in
        let (x, q, n) = forth p t i in
        let h = has_body v s m in
        let call : Calls x (number_of l v) = record {
          by = t;
          written = subst (λ w. Memᴰ t (body w)) (sym n) i;
          called = callee_one t.action v j;
          is = omega (arith, h.known, h.number);
        } in
        (number_of l v, further q call, node_known text ws v.class v.method (number_of l v) h)

  pub star_below : {r x : ℕ} → r < 512 → Star Calls r x → x < 512
  star_below h here = h
  star_below h (further p k) = k.is
